-- The nodes of a name, while it is added part by part.
use Rattle.std.proofs.Common.{◌≡◌, ◌≢◌, ◌∙◌, ℕ, ◌+◌, ◌<◌, ◌≤◌, ◌&&◌, ◌||◌, List, [], ◌∷◌, ◌++◌, length, get_or, cond, Bool, true, false, Option, Some, None, if◌then◌else◌, refl, ap, sym, subst, arith}
use Rattle.std.specs.Prelude.{◌==◌, reverse, is_some, not}
use Rattle.std.specs.BTreeMap.{BTreeMap, get, is_at}
use Rattle.std.specs.Ordering.{nat_cmp, is_eq}
use Rattle.std.specs.Str.{bytes_eq}
use Rattle.std.specs.Cmp.Lexicographic.{bytes_decides}
use Rattle.std.proofs.lemmas.Bool.Decides.{nat_tests}
use Rattle.std.proofs.lemmas.List.{reverse-append, reverse-reverse, append_assoc}
use Rattle.pbx_link_definitions.specs.Names.{among, prefixes, first_part, name_parts}
use Rattle.pbx_link_names.specs.Packages.{Children, node_in, child_of, below, node_of, is_there, HasAdded, is_edge, AreTree, IsSound, HasSameNodes, HasChild, IsWithout, IsMissing, AreAlikeBut}
use Rattle.pbx_link_names.specs.declared.package_names.PackageNames.{PackageNames}
use Rattle.pbx_link_names.specs.declared.package_names.Missing.{Missing}
use Rattle.pbx_link_names.proofs.Starts.{starts, starts_is, one_part, more_parts, whole_first, cut_first, first_of_parts}
use Rattle.pbx_link_names.proofs.Trees.{edge_is, edge_off, edge_above, bounded, childless, same_nodes, none_behind, all_before, tree_more, tree_less, new_node, starts_here}

-- ---- maps of maps

-- what stands under the texts
abbrev pub Nodes : Type 0
Nodes = List ℕ → Option (BTreeMap ℕ ℕ)

changed_at : (g : Option ℕ → Option ℕ) (f : Nodes) (part p : List ℕ) (n : ℕ) (set : BTreeMap ℕ ℕ) → node_in n (Some set) ≡ g (node_in n (f part)) → (b : Bool) → bytes_eq part p ≡ b
    → node_in n (cond b (Some set) (f p)) ≡ cond b (g (node_in n (f p))) (node_in n (f p))
changed_at g f part p n set h true e = subst (λ (x : List ℕ). node_in n (Some set) ≡ g (node_in n (f x))) ((bytes_decides part p).0 e) h
changed_at g f part p n set h false e = refl

pub changed : (g : Option ℕ → Option ℕ) (f after : Nodes) (part p : List ℕ) (n : ℕ) (set : BTreeMap ℕ ℕ) → node_in n (Some set) ≡ g (node_in n (f part))
    → ((q : List ℕ) → after q ≡ cond (bytes_eq part q) (Some set) (f q)) → node_in n (after p) ≡ cond (bytes_eq part p) (g (node_in n (f p))) (node_in n (f p))
changed g f after part p n set h sets = ap (node_in n) (sets p) ∙ changed_at g f part p n set h (bytes_eq part p) refl

at_node : (node n : ℕ) → is_eq (nat_cmp node n) ≡ (n == node)
at_node node n = by_tests (is_eq (nat_cmp node n)) (n == node) refl refl
  where
    by_tests : (a b : Bool) → is_eq (nat_cmp node n) ≡ a → (n == node) ≡ b → a ≡ b
    by_tests true true w v = refl
    by_tests false false w v = refl
    by_tests true false w v = absurd (grind (arith, nat_tests, w, v))
    by_tests false true w v = absurd (grind (arith, nat_tests, w, v))

-- under one number and one text is another number, or none
pub set_one : (f after : Nodes) (node : ℕ) (part p : List ℕ) (n : ℕ) (w : Option ℕ) (set : BTreeMap ℕ ℕ)
    → node_in n (Some set) ≡ cond (is_eq (nat_cmp node n)) w (node_in n (f part)) → ((q : List ℕ) → after q ≡ cond (bytes_eq part q) (Some set) (f q))
    → node_in n (after p) ≡ (if is_edge node part n p then w else node_in n (f p))
set_one f after node part p n w set h sets =
    changed (cond (is_eq (nat_cmp node n)) w) f after part p n set h sets
    ∙ ap (λ (b : Bool). cond (bytes_eq part p) (cond b w (node_in n (f p))) (node_in n (f p))) (at_node node n)
    ∙ both (n == node) (bytes_eq part p) (node_in n (f p))
  where
    both : (a b : Bool) (x : Option ℕ) → cond b (cond a w x) x ≡ (if a && b then w else x)
    both true true x = refl
    both true false x = refl
    both false true x = refl
    both false false x = refl

pub same_one : (f after : Nodes) (part p : List ℕ) (n : ℕ) (set : BTreeMap ℕ ℕ) → node_in n (Some set) ≡ node_in n (f part)
    → ((q : List ℕ) → after q ≡ cond (bytes_eq part q) (Some set) (f q)) → node_in n (after p) ≡ node_in n (f p)
same_one f after part p n set h sets = changed (λ o. o) f after part p n set h sets ∙ either (bytes_eq part p) (node_in n (f p))
  where
    either : (b : Bool) (x : Option ℕ) → cond b x x ≡ x
    either true x = refl
    either false x = refl

-- where nothing is under the text
pub none_one : (f : Nodes) (node : ℕ) (part p : List ℕ) (n : ℕ) → None ≡ f part → node_in n (f p) ≡ (if is_edge node part n p then None else node_in n (f p))
none_one f node part p n h = by_tests (n == node) (bytes_eq part p) refl
  where
    by_tests : (a b : Bool) → bytes_eq part p ≡ b → node_in n (f p) ≡ (if a && b then None else node_in n (f p))
    by_tests true true e = sym (ap (node_in n) (h ∙ ap f ((bytes_decides part p).0 e)))
    by_tests true false e = refl
    by_tests false b e = refl

-- ---- names

no_some : {X : Type 0} (n : ℕ) → None ≡ Some n → X
no_some n e = absurd (cc)

lone : (C : Children) → ((n : ℕ) (p : List ℕ) → C n p ≡ None) → (p : List ℕ) (ps : List (List ℕ)) → node_of C (p ∷ ps) ≡ None
unfolding node_of
lone C h p ps = by_node (node_of C ps)
  where
    by_node : (o : Option ℕ) → below C p o ≡ None
    by_node None = refl
    by_node (Some n) = h n p

last_first : (x : List ℕ) (xs : List (List ℕ)) → reverse (x ∷ xs) ≡ reverse xs ++ x ∷ []
last_first x xs = reverse-append (x ∷ []) xs

-- the first part of the name stands last
turned : (name : List ℕ) → (ps : List (List ℕ)) × (reverse (name_parts name) ≡ ps ++ first_part name ∷ [])
turned name = let at = first_of_parts name in (reverse at.0, ap reverse at.1 ∙ last_first (first_part name) at.0)

pub none_there : (names : PackageNames) (name : List ℕ) → ((n : ℕ) (p : List ℕ) → child_of names n p ≡ None) → is_there name names ≡ false
unfolding is_there
none_there names name h =
    let at = turned name in
    let C = child_of names in
    ap (λ (ps : List (List ℕ)). is_some (node_of C ps)) at.1 ∙ ap (λ (o : Option ℕ). is_some o) (none_behind C at.0 (first_part name ∷ []) (lone C h (first_part name) []))

pub none_sound : (names : PackageNames) → names.count ≡ 1 → ((n : ℕ) (p : List ℕ) → child_of names n p ≡ None) → IsSound names
none_sound names one h = (omega (arith, one), λ n c p e. no_some c (sym (h n p) ∙ e), λ n m c p q e g. no_some c (sym (h n p) ∙ e))

-- what is missing of a name is not there
pub missing_none : (names : PackageNames) (name : List ℕ) (missing : Missing) → IsMissing names name (Some missing) → is_there name names ≡ false
unfolding is_there node_of
missing_none names name missing h =
    let C = child_of names in
    let at = turned missing.parts.now in
    let below_none : node_of C (first_part missing.parts.now ∷ h.0) ≡ None = ap (below C (first_part missing.parts.now)) h.1 ∙ h.2 in
    let whole : reverse (name_parts name) ≡ at.0 ++ (first_part missing.parts.now ∷ h.0) =
    ap reverse h.3 ∙ reverse-append (reverse h.0) (name_parts missing.parts.now)
    ∙ ap (λ (ps : List (List ℕ)). reverse (name_parts missing.parts.now) ++ ps) (reverse-reverse h.0)
    ∙ ap (λ (ps : List (List ℕ)). ps ++ h.0) at.1 ∙ append_assoc at.0 (first_part missing.parts.now ∷ []) h.0 in
    ap (λ (ps : List (List ℕ)). is_some (node_of C ps)) whole
    ∙ ap (λ (o : Option ℕ). is_some o) (none_behind C at.0 (first_part missing.parts.now ∷ h.0) below_none)

-- ---- a part behind others

-- the node is that of the first parts of the name, and these are the others
abbrev pub AreBehind : PackageNames → List ℕ → ℕ → List ℕ → Type 0
AreBehind names name node rest =
    (parts : List (List ℕ)) × (node_of (child_of names) parts ≡ Some node) × (name_parts name ≡ reverse parts ++ name_parts rest)

pub behind_first : (names : PackageNames) (name : List ℕ) → AreBehind names name 0 name
unfolding node_of
behind_first names name = ([], refl, refl)

behind_cut : (parts : List (List ℕ)) (name part rest : List ℕ) → ((i : ℕ) → i < length part → get_or part i 0 ≢ 46) → name_parts name ≡ reverse parts ++ name_parts (part ++ 46 ∷ rest)
    → name_parts name ≡ reverse (part ∷ parts) ++ name_parts rest
behind_cut parts name part rest whole h =
    h ∙ ap (λ (ps : List (List ℕ)). reverse parts ++ ps) (more_parts part rest whole) ∙ sym (append_assoc (reverse parts) (part ∷ []) (name_parts rest))
    ∙ ap (λ (ps : List (List ℕ)). ps ++ name_parts rest) (sym (last_first part parts))

pub behind_more : (names : PackageNames) (name : List ℕ) (node child : ℕ) (rest part behind : List ℕ) → AreBehind names name node rest → rest ≡ part ++ 46 ∷ behind
    → ((i : ℕ) → i < length part → get_or part i 0 ≢ 46) → Some child ≡ child_of names node part → AreBehind names name child behind
unfolding node_of
behind_more names name node child rest part behind h cut whole is = (
  part ∷ h.0,
  ap (below (child_of names) part) h.1 ∙ sym is,
  behind_cut h.0 name part behind whole (h.2 ∙ ap (λ (r : List ℕ). reverse h.0 ++ name_parts r) cut),
)

-- nothing is below the node by the first of the parts
pub is_missing : (names : PackageNames) (name : List ℕ) (missing : Missing) → AreBehind names name missing.node missing.parts.now → None ≡ child_of names missing.node (first_part missing.parts.now)
    → IsMissing names name (Some missing)
is_missing names name missing h none = (h.0, h.1, sym none, h.2)

-- the last of the parts is there, and so is the name
pub is_whole : (names : PackageNames) (name : List ℕ) (node child : ℕ) (rest : List ℕ) → AreBehind names name node rest → ((i : ℕ) → i < length rest → get_or rest i 0 ≢ 46)
    → Some child ≡ child_of names node rest → IsMissing names name None
unfolding node_of
is_whole names name node child rest h whole is =
    let C = child_of names in
    let all : reverse (name_parts name) ≡ rest ∷ h.0 =
    ap reverse (h.2 ∙ ap (λ (ps : List (List ℕ)). reverse h.0 ++ ps) (one_part rest whole) ∙ sym (last_first rest h.0)) ∙ reverse-reverse (rest ∷ h.0) in
    ap (λ (ps : List (List ℕ)). is_some (node_of C ps)) all ∙ ap (λ (o : Option ℕ). is_some (below C rest o)) h.1 ∙ ap (λ (o : Option ℕ). is_some o) (sym is)

-- ---- while parts are added

-- what holds of the names before and while the parts of a name are added that are missing
pub record AreAdding (missing : Missing) (old now : PackageNames) (node : ℕ) (rest : List ℕ) : Type 0 where
  pub later : old.count ≤ now.count
  pub alike : AreAlikeBut missing old now
  pub apart : (n : ℕ) (p : List ℕ) → n < old.count → is_edge missing.node (first_part missing.parts.now) n p ≡ false → is_edge node (first_part rest) n p ≡ false
  pub sound : IsSound old → missing.node < old.count → IsSound now × (node < now.count)
  pub added : (name : List ℕ) → IsSound old → IsMissing old name (Some missing)
      → (parts : List (List ℕ)) × (node_of (child_of now) parts ≡ Some node) × (child_of now node (first_part rest) ≡ None) × (name_parts name ≡ reverse parts ++ name_parts rest)
      × ((qs : List (List ℕ)) → is_some (node_of (child_of now) qs) ≡ (starts (reverse parts) (reverse qs) || is_some (node_of (child_of old) qs)))

below_all : (C : Children) (parts qs : List (List ℕ)) (n : ℕ) → node_of C parts ≡ Some n → is_some (node_of C qs) ≡ (starts (reverse parts) (reverse qs) || is_some (node_of C qs))
unfolding starts
below_all C parts qs n at = by_test (starts (reverse parts) (reverse qs)) refl
  where
    begun : (xs ys : List (List ℕ)) → starts xs ys ≡ true → (zs : List (List ℕ)) × (xs ≡ ys ++ zs)
    begun xs [] h = (xs, refl)
    begun [] (y ∷ ys) h = absurd (cc)
    begun (x ∷ xs) (y ∷ ys) h = by_tests (bytes_eq x y) (starts xs ys) refl refl h (begun xs ys)
      where
        by_tests : (a b : Bool) → bytes_eq x y ≡ a → starts xs ys ≡ b → (a && b) ≡ true → (starts xs ys ≡ true → (zs : List (List ℕ)) × (xs ≡ ys ++ zs)) → (zs : List (List ℕ)) × (x ∷ xs ≡ (y ∷ ys) ++ zs)
        by_tests true true w v g ih =
            let rest = ih v in
            (rest.0, ap (λ (z : List ℕ). z ∷ xs) ((bytes_decides x y).0 w) ∙ ap (λ (zs : List (List ℕ)). y ∷ zs) rest.1)
        by_tests true false w v g ih = absurd (cc)
        by_tests false b w v g ih = absurd (cc)

    by_test : (b : Bool) → starts (reverse parts) (reverse qs) ≡ b → is_some (node_of C qs) ≡ (b || is_some (node_of C qs))
    by_test false e = refl
    by_test true e =
        let rest = begun (reverse parts) (reverse qs) e in
        let is : parts ≡ reverse rest.0 ++ qs =
        sym (reverse-reverse parts) ∙ ap reverse rest.1 ∙ reverse-append (reverse qs) rest.0 ∙ ap (λ (xs : List (List ℕ)). reverse rest.0 ++ xs) (reverse-reverse qs) in
        all_before C (reverse rest.0) qs (ap (λ (xs : List (List ℕ)). is_some (node_of C xs)) (sym is) ∙ ap (λ (o : Option ℕ). is_some o) at)

pub adding_first : (missing : Missing) (old : PackageNames) → AreAdding missing old old missing.node missing.parts.now
adding_first missing old = record {
  later = omega arith;
  alike = λ n p lt off. refl;
  apart = λ n p lt off. off;
  sound = λ s lt. (s, lt);
  added = λ name s m. (m.0, m.1, m.2, m.3, λ qs. below_all (child_of old) m.0 qs missing.node m.1);
}

module _ (missing : Missing) (old now next : PackageNames) (node child : ℕ) (rest : List ℕ) (h : AreAdding missing old now node rest) (more : HasChild node (first_part rest) child now next) where
  next_tree : IsSound now → node < now.count → IsSound next
  next_tree s lt =
      subst (λ (k : ℕ). AreTree (child_of next) k) (sym more.1)
      (tree_more (child_of now) (child_of next) now.count node (first_part rest) s lt (λ n p. more.2 n p ∙ ap (λ (c : ℕ). if is_edge node (first_part rest) n p then Some c else child_of now n p) more.0))

  next_later : old.count ≤ next.count
  next_later = omega (arith, h.later, more.1)

  pub next_alike : AreAlikeBut missing old next
  next_alike n p lt off = more.2 n p ∙ ap (λ (b : Bool). if b then Some child else child_of now n p) (h.apart n p lt off) ∙ h.alike n p lt off

  pub next_sound : IsSound old → missing.node < old.count → IsSound next
  next_sound s lt = let before = h.sound s lt in next_tree before.0 before.1

  -- all that is there with the part
  next_there : (name : List ℕ) → IsSound old → IsMissing old name (Some missing)
      → (parts : List (List ℕ)) × (node_of (child_of next) (first_part rest ∷ parts) ≡ Some child) × (name_parts name ≡ reverse parts ++ name_parts rest) × (next.count ≡ child + 1) × IsSound next
      × ((qs : List (List ℕ)) → is_some (node_of (child_of next) qs) ≡ (starts (reverse (first_part rest ∷ parts)) (reverse qs) || is_some (node_of (child_of old) qs)))
  next_there name s m =
      let before = h.sound s (bounded (child_of old) old.count s m.0 missing.node m.1) in
      let at = h.added name s m in
      let step : (n : ℕ) (p : List ℕ) → child_of next n p ≡ (if is_edge node (first_part rest) n p then Some now.count else child_of now n p) =
      λ n p. more.2 n p ∙ ap (λ (c : ℕ). if is_edge node (first_part rest) n p then Some c else child_of now n p) more.0 in (
        at.0,
        new_node (child_of now) (child_of next) now.count node (first_part rest) before.0 before.1 step at.2 at.0 at.1 ∙ ap (λ (c : ℕ). Some c) (sym more.0),
        at.3,
        more.1 ∙ ap (λ (c : ℕ). c + 1) (sym more.0),
        next_tree before.0 before.1,
        λ qs. starts_here (child_of now) (child_of next) now.count node (first_part rest) before.0 before.1 step at.2 at.0 at.1 (is_some (node_of (child_of old) qs)) qs (at.4 qs),
      )

  -- the part, with others behind it
  pub adding_more : (behind : List ℕ) → rest ≡ first_part rest ++ 46 ∷ behind → ((i : ℕ) → i < length (first_part rest) → get_or (first_part rest) i 0 ≢ 46) → AreAdding missing old next child behind
  adding_more behind cut whole = record {
    later = next_later;
    alike = next_alike;
    apart = λ n p lt off. by_count n p lt;
    sound = λ s lt. (next_sound s lt, omega (arith, more.0, more.1));
    added = λ name s m.
        let at = next_there name s m in (
          first_part rest ∷ at.0,
          at.1,
          later_none (h.sound s (bounded (child_of old) old.count s m.0 missing.node m.1)),
          behind_cut at.0 name (first_part rest) behind whole (at.2 ∙ ap (λ (r : List ℕ). reverse at.0 ++ name_parts r) cut),
          at.5,
        );
  }
    where
      later_none : IsSound now × (node < now.count) → child_of next child (first_part behind) ≡ None
      later_none before =
          more.2 child (first_part behind)
          ∙ ap (λ (b : Bool). if b then Some child else child_of now child (first_part behind)) (edge_above node (first_part rest) child (first_part behind) (omega (arith, before.1, more.0)))
          ∙ childless (child_of now) now.count before.0 child (first_part behind) (omega (arith, more.0))

      by_count : (n : ℕ) (p : List ℕ) → n < old.count → is_edge child (first_part behind) n p ≡ false
      by_count n p lt = edge_off child (first_part behind) n p (omega (arith, lt, h.later, more.0))

  -- the last part
  pub adding_last : (name : List ℕ) → ((i : ℕ) → i < length rest → get_or rest i 0 ≢ 46) → IsSound old → IsMissing old name (Some missing) → HasAdded name old next
  unfolding is_there
  adding_last name whole s m q =
      let at = next_there name s m in
      let own : rest ≡ first_part rest = whole_first rest whole in
      let parts : name_parts name ≡ reverse (first_part rest ∷ at.0) =
      at.2 ∙ ap (λ (ps : List (List ℕ)). reverse at.0 ++ ps) (one_part rest whole) ∙ ap (λ (p : List ℕ). reverse at.0 ++ p ∷ []) own ∙ sym (last_first (first_part rest) at.0) in
      at.5 (reverse (name_parts q))
      ∙ ap (λ (b : Bool). b || is_some (node_of (child_of old) (reverse (name_parts q))))
      (ap (λ (ys : List (List ℕ)). starts (reverse (first_part rest ∷ at.0)) ys) (reverse-reverse (name_parts q)) ∙ ap (λ (xs : List (List ℕ)). starts xs (name_parts q)) (sym parts) ∙ sym (starts_is name q))

-- one part more is added, with others behind it
pub adding_part : (missing : Missing) (old now next : PackageNames) (node child : ℕ) (rest part behind : List ℕ) → AreAdding missing old now node rest → rest ≡ part ++ 46 ∷ behind
    → ((i : ℕ) → i < length part → get_or part i 0 ≢ 46) → HasChild node part child now next → AreAdding missing old next child behind
adding_part missing old now next node child rest part behind h cut whole more =
    let own : part ≡ first_part rest = cut_first part behind whole ∙ ap first_part (sym cut) in
    adding_more missing old now next node child rest h (subst (λ (p : List ℕ). HasChild node p child now next) own more) behind
    (cut ∙ ap (λ (p : List ℕ). p ++ 46 ∷ behind) own) (subst (λ (p : List ℕ). (i : ℕ) → i < length p → get_or p i 0 ≢ 46) own whole)

-- the last part is added
pub adding_end : (missing : Missing) (old now next : PackageNames) (node child : ℕ) (rest : List ℕ) → AreAdding missing old now node rest → ((i : ℕ) → i < length rest → get_or rest i 0 ≢ 46)
    → HasChild node rest child now next
    → ((name : List ℕ) → IsSound old → IsMissing old name (Some missing) → HasAdded name old next) × (IsSound old → missing.node < old.count → IsSound next) × AreAlikeBut missing old next
adding_end missing old now next node child rest h whole more =
    let same : HasChild node (first_part rest) child now next = subst (λ (p : List ℕ). HasChild node p child now next) (whole_first rest whole) more in (
      λ name s m. adding_last missing old now next node child rest h same name whole s m,
      next_sound missing old now next node child rest h same,
      next_alike missing old now next node child rest h same,
    )

-- no part is added any more
pub adding_refused : (missing : Missing) (old now next : PackageNames) (node : ℕ) (rest : List ℕ) → AreAdding missing old now node rest → HasSameNodes now next
    → (IsSound old → missing.node < old.count → IsSound next) × AreAlikeBut missing old next
adding_refused missing old now next node rest h same = (
  λ s lt. kept (h.sound s lt).0,
  λ n p lt off. same.1 n p ∙ h.alike n p lt off,
)
  where
    kept : IsSound now → IsSound next
    kept s =
        subst (λ (k : ℕ). AreTree (child_of next) k) (sym same.0)
        (s.0, λ n c p e. s.1 n c p (sym (same.1 n p) ∙ e), λ n m c p q e g. s.2 n m c p q (sym (same.1 n p) ∙ e) (sym (same.1 m q) ∙ g))

-- ---- a name that is there already

pub added_already : (names : PackageNames) (name : List ℕ) → IsMissing names name None → HasAdded name names names
unfolding is_there starts
added_already names name h q = by_test (among (prefixes name) q) refl
  where
    by_node : (o : Option ℕ) → node_of (child_of names) (reverse (name_parts name)) ≡ o → is_some o ≡ true → is_some (node_of (child_of names) (reverse (name_parts q)))
        ≡ (starts (reverse (reverse (name_parts name))) (reverse (reverse (name_parts q))) || is_some (node_of (child_of names) (reverse (name_parts q))))
    by_node None e g = absurd (cc)
    by_node (Some n) e g = below_all (child_of names) (reverse (name_parts name)) (reverse (name_parts q)) n e

    by_test : (b : Bool) → among (prefixes name) q ≡ b → is_some (node_of (child_of names) (reverse (name_parts q))) ≡ (b || is_some (node_of (child_of names) (reverse (name_parts q))))
    by_test false e = refl
    by_test true e =
        let begun : starts (reverse (reverse (name_parts name))) (reverse (reverse (name_parts q))) ≡ true =
        ap (λ (xs : List (List ℕ)). starts xs (reverse (reverse (name_parts q)))) (reverse-reverse (name_parts name))
        ∙ ap (λ (ys : List (List ℕ)). starts (name_parts name) ys) (reverse-reverse (name_parts q)) ∙ sym (starts_is name q) ∙ e in
        by_node (node_of (child_of names) (reverse (name_parts name))) refl h
        ∙ ap (λ (b : Bool). b || is_some (node_of (child_of names) (reverse (name_parts q)))) begun

-- ---- what was added is taken out again

pub all_back : (old some new : PackageNames) (name : List ℕ) (missing : Missing) → IsSound old → IsMissing old name (Some missing) → AreAlikeBut missing old some
    → IsWithout missing.node (first_part missing.parts.now) some new → (q : List ℕ) → is_there q new ≡ is_there q old
unfolding is_there
all_back old some new name missing s m alike without q =
    ap (λ (o : Option ℕ). is_some o) (same_nodes (child_of old) old.count s (child_of new) below_same (reverse (name_parts q)))
  where
    by_test : (n : ℕ) (p : List ℕ) (b : Bool) → n < old.count → is_edge missing.node (first_part missing.parts.now) n p ≡ b → (if b then None else child_of some n p) ≡ child_of old n p
    by_test n p true lt e =
        let is = edge_is missing.node (first_part missing.parts.now) n p e in
        sym (subst (λ (x : ℕ). child_of old x p ≡ None) (sym is.0) (subst (λ (r : List ℕ). child_of old missing.node r ≡ None) is.1 m.2))
    by_test n p false lt e = alike n p lt e

    below_same : (n : ℕ) (p : List ℕ) → n < old.count → child_of new n p ≡ child_of old n p
    below_same n p lt = without.1 n p ∙ by_test n p (is_edge missing.node (first_part missing.parts.now) n p) lt refl

pub back_sound : (some new : PackageNames) (node : ℕ) (part : List ℕ) → IsSound some → IsWithout node part some new → IsSound new
back_sound some new node part s without =
    subst (λ (k : ℕ). AreTree (child_of new) k) (sym without.0) (tree_less (child_of some) (child_of new) some.count node part s without.1)

-- ---- answers

pub told : (names : PackageNames) (name : List ℕ) (missing : Option Missing) (none : Bool) → is_some missing ≡ not none → IsMissing names name missing → none ≡ is_there name names
unfolding is_there
told names name None true e h = sym h
told names name None false e h = absurd (cc)
told names name (Some missing) false e h = sym (missing_none names name missing h)
told names name (Some missing) true e h = absurd (cc)

pub no_node : (o : Option ℕ) → is_some o ≡ false → None ≡ o
no_node None e = refl
no_node (Some n) e = absurd (cc)

pub some_node : (o : Option ℕ) → is_some o ≡ true → (n : ℕ) × (Some n ≡ o)
some_node None e = absurd (cc)
some_node (Some n) e = (n, refl)

-- what was missing of the name is added
pub name_added : (old new : PackageNames) (name : List ℕ) (missing : Missing) → IsMissing old name (Some missing)
    → ((n : List ℕ) → IsSound old → IsMissing old n (Some missing) → HasAdded n old new) → (IsSound old → missing.node < old.count → IsSound new) → IsSound old → HasAdded name old new × IsSound new
name_added old new name missing m added sound s = (added name s m, sound s (bounded (child_of old) old.count s m.0 missing.node m.1))
