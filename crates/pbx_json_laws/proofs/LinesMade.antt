-- Lines make an object exactly where each has a tree and no key stands twice.
use Rattle.std.proofs.Common.{◌≡◌, ◌⊎◌, inl, inr, ℕ, suc, ◌≤◌, ◌||◌, ◌++◌, nat_le, List, [], ◌∷◌, length, filter, map, Bool, true, false, if◌then◌else◌, Option, Some, None, Ordering, Less, Equal, Greater, nat_cmp, refl, ap, sym, ◌∙◌, arith}
use Rattle.std.specs.List.{list_any}
use Rattle.std.specs.Ordering.{match_ordering}
use Rattle.std.specs.Cmp.Lexicographic.{slice_cmp}
use Rattle.std.specs.Str.{bytes_eq}
use Rattle.std.proofs.lemmas.Bool.Decides.{nat_tests}
use Rattle.std.proofs.lemmas.Slice.Eq.{bytes_eq-Decides}
use Rattle.serde_json.specs.Data.{Data, Members, no_members, member, put}
use Rattle.pbx_json_meaning.specs.Canonical.{Line, has_key, with_line, members_of_lines}
use Rattle.pbx_json_meaning.specs.WriteFaults.{is_twice}
use Rattle.pbx_json_laws.proofs.Parts.{neither, of_some, or_right}
use Rattle.pbx_json_laws.proofs.Told.{same_key}

-- the keys of lines
abbrev pub keys_of : List Line → List (List ℕ)
keys_of ls = map (λ (l : Line). l.0) ls

-- the key is one of these
abbrev pub any_key : List ℕ → List (List ℕ) → Bool
any_key s ks = list_any (λ k. bytes_eq k s) ks

-- a line has no tree
abbrev pub is_bare : Line → Bool
is_bare l = elim l.1 [ None ↦ true | Some d ↦ false ]

has_key-put : (s k : List ℕ) (d : Data) (ms : Members) → has_key s (put k d ms) ≡ (bytes_eq k s || has_key s ms)
has_key-put s k d no_members = refl
has_key-put s k d (member l e ms) = at (slice_cmp nat_cmp k l) refl (has_key-put s k d ms)
  where
    twice : (a b : Bool) → (a || b) ≡ (a || (a || b))
    twice true b = refl
    twice false b = refl

    swap : (a b c : Bool) → (a || (b || c)) ≡ (b || (a || c))
    swap true true c = refl
    swap true false c = refl
    swap false b c = refl

    at : (o : Ordering) → slice_cmp nat_cmp k l ≡ o → has_key s (put k d ms) ≡ (bytes_eq k s || has_key s ms)
        → has_key s (match_ordering o (member k d (member l e ms)) (member l d ms) (member l e (put k d ms))) ≡ (bytes_eq k s || (bytes_eq l s || has_key s ms))
    at Less q ih = refl
    at Equal q ih =
        twice (bytes_eq l s) (has_key s ms) ∙ ap (λ x. bytes_eq x s || (bytes_eq l s || has_key s ms)) (sym (same_key k l q))
    at Greater q ih = ap (λ x. bytes_eq l s || x) ih ∙ swap (bytes_eq l s) (bytes_eq k s) (has_key s ms)

-- what a line adds
pub record Added (l : Line) (ls : List Line) (ms : Members) : Type 0 where
  pub tree : Data
  pub others : Members
  pub has_tree : l.1 ≡ Some tree
  pub rest : members_of_lines ls ≡ Some others
  pub fresh : has_key l.0 others ≡ false
  pub whole : put l.0 tree others ≡ ms

pub added : (l : Line) (ls : List Line) (ms : Members) → members_of_lines (l ∷ ls) ≡ Some ms → Added l ls ms
added l ls ms h = at l.1 refl (members_of_lines ls) refl h
  where
    deep : (d : Data) (ns : Members) → l.1 ≡ Some d → members_of_lines ls ≡ Some ns → (b : Bool) → has_key l.0 ns ≡ b
        → (if b then None else Some (put l.0 d ns)) ≡ Some ms → Added l ls ms
    deep d ns p q true e k = absurd (cc)
    deep d ns p q false e k = record { tree = d; others = ns; has_tree = p; rest = q; fresh = e; whole = of_some _ ms k }

    at : (x : Option Data) → l.1 ≡ x → (r : Option Members) → members_of_lines ls ≡ r → with_line l.0 x r ≡ Some ms → Added l ls ms
    at (Some d) p (Some ns) q k = deep d ns p q (has_key l.0 ns) refl k
    at (Some d) p None q k = absurd (cc)
    at None p (Some ns) q k = absurd (cc)
    at None p None q k = absurd (cc)

-- the members have the keys of the lines
pub keys_made : (s : List ℕ) (ls : List Line) (ms : Members) → members_of_lines ls ≡ Some ms → has_key s ms ≡ any_key s (keys_of ls)
keys_made s [] ms h = ap (has_key s) (sym (of_some no_members ms h))
keys_made s (l ∷ ls) ms h =
    let it = added l ls ms h in
    ap (has_key s) (sym it.whole) ∙ has_key-put s l.0 it.tree it.others ∙ ap (λ x. bytes_eq l.0 s || x) (keys_made s ls it.others it.rest)

pub none_of : (s : List ℕ) (ks : List (List ℕ)) → any_key s ks ≡ false → filter (λ k. bytes_eq k s) ks ≡ []
none_of s [] h = refl
none_of s (k ∷ ks) h = let it = neither (bytes_eq k s) (any_key s ks) h in rw it.0 (none_of s ks it.1)

pub some_of : (s : List ℕ) (ks : List (List ℕ)) → any_key s ks ≡ true → 1 ≤ length (filter (λ k. bytes_eq k s) ks)
some_of s [] h = absurd (cc)
some_of s (k ∷ ks) h = at (bytes_eq k s) h (some_of s ks)
  where
    at : (b : Bool) → (b || any_key s ks) ≡ true → (any_key s ks ≡ true → 1 ≤ length (filter (λ k. bytes_eq k s) ks))
        → 1 ≤ length (if b then k ∷ filter (λ k. bytes_eq k s) ks else filter (λ k. bytes_eq k s) ks)
    at true q ih = omega arith
    at false q ih = ih q

-- no key stands twice in what is made
pub never_twice : (s : List ℕ) (ls : List Line) (ms : Members) → members_of_lines ls ≡ Some ms → is_twice s (keys_of ls) ≡ false
never_twice s [] ms h = refl
never_twice s (l ∷ ls) ms h = at (bytes_eq l.0 s) refl (never_twice s ls it.others it.rest)
  where
    it : Added l ls ms
    it = added l ls ms h

    at : (b : Bool) → bytes_eq l.0 s ≡ b → is_twice s (keys_of ls) ≡ false
        → nat_le 2 (length (if b then l.0 ∷ filter (λ k. bytes_eq k s) (keys_of ls) else filter (λ k. bytes_eq k s) (keys_of ls))) ≡ false
    at false q ih = ih
    at true q ih =
        let same : l.0 ≡ s = (bytes_eq-Decides l.0 s).0 q in
        let none : any_key s (keys_of ls) ≡ false =
        sym (keys_made s ls it.others it.rest) ∙ ap (λ x. has_key x it.others) (sym same) ∙ it.fresh in
        rw (none_of s (keys_of ls) none) refl

twice_from : (n : ℕ) → 1 ≤ n → nat_le 2 (suc n) ≡ true
twice_from n h = grind (arith, nat_tests)

-- a key that stands in front and behind
pub twice_in_front : (s k : List ℕ) (ks : List (List ℕ)) → bytes_eq k s ≡ true → any_key s ks ≡ true → is_twice s (k ∷ ks) ≡ true
twice_in_front s k ks e h = rw e (twice_from (length (filter (λ k. bytes_eq k s) ks)) (some_of s ks h))

more_twice : (m n : ℕ) → nat_le 2 m ≡ true → m ≤ n → nat_le 2 n ≡ true
more_twice m n h e = grind (arith, nat_tests)

pub twice_behind : (s k : List ℕ) (ks : List (List ℕ)) → is_twice s ks ≡ true → is_twice s (k ∷ ks) ≡ true
twice_behind s k ks h = at (bytes_eq k s)
  where
    at : (b : Bool) → nat_le 2 (length (if b then k ∷ filter (λ k. bytes_eq k s) ks else filter (λ k. bytes_eq k s) ks)) ≡ true
    at true = more_twice (length (filter (λ k. bytes_eq k s) ks)) (suc (length (filter (λ k. bytes_eq k s) ks))) h (omega arith)
    at false = h

pub twice_append : (s : List ℕ) (ks js : List (List ℕ)) → is_twice s ks ≡ true → is_twice s (ks ++ js) ≡ true
twice_append s ks js h = more_twice (length (filter (λ k. bytes_eq k s) ks)) (length (filter (λ k. bytes_eq k s) (ks ++ js))) h (longer ks)
  where
    longer : (ks : List (List ℕ)) → length (filter (λ k. bytes_eq k s) ks) ≤ length (filter (λ k. bytes_eq k s) (ks ++ js))
    longer [] = omega arith
    longer (k ∷ ks) = at (bytes_eq k s) (longer ks)
      where
        at : (b : Bool) → length (filter (λ k. bytes_eq k s) ks) ≤ length (filter (λ k. bytes_eq k s) (ks ++ js))
            → length (if b then k ∷ filter (λ k. bytes_eq k s) ks else filter (λ k. bytes_eq k s) ks)
            ≤ length (if b then k ∷ filter (λ k. bytes_eq k s) (ks ++ js) else filter (λ k. bytes_eq k s) (ks ++ js))
        at true ih = omega (arith, ih)
        at false ih = ih

-- where nothing is made a line has no tree, or a key stands twice
pub not_made : (ls : List Line) → members_of_lines ls ≡ None → (list_any is_bare ls ≡ true) ⊎ ((s : List ℕ) × (is_twice s (keys_of ls) ≡ true))
not_made [] h = absurd (cc)
not_made (l ∷ ls) h = at l.1 refl (members_of_lines ls) refl h (not_made ls)
  where
    tail : (list_any is_bare ls ≡ true) ⊎ ((s : List ℕ) × (is_twice s (keys_of ls) ≡ true))
        → (list_any is_bare (l ∷ ls) ≡ true) ⊎ ((s : List ℕ) × (is_twice s (keys_of (l ∷ ls)) ≡ true))
    tail (inl e) = inl (or_right (is_bare l) (list_any is_bare ls) e)
    tail (inr e) = inr (e.0, twice_behind e.0 l.0 (keys_of ls) e.1)

    deep : (d : Data) (ns : Members) → members_of_lines ls ≡ Some ns → (b : Bool) → has_key l.0 ns ≡ b → (if b then None else Some (put l.0 d ns)) ≡ None
        → (list_any is_bare (l ∷ ls) ≡ true) ⊎ ((s : List ℕ) × (is_twice s (keys_of (l ∷ ls)) ≡ true))
    deep d ns q false e k = absurd (cc)
    deep d ns q true e k =
        inr (l.0, twice_in_front l.0 l.0 (keys_of ls) ((bytes_eq-Decides l.0 l.0).1 refl) (sym (keys_made l.0 ls ns q) ∙ e))

    at : (x : Option Data) → l.1 ≡ x → (r : Option Members) → members_of_lines ls ≡ r → with_line l.0 x r ≡ None
        → (members_of_lines ls ≡ None → (list_any is_bare ls ≡ true) ⊎ ((s : List ℕ) × (is_twice s (keys_of ls) ≡ true)))
        → (list_any is_bare (l ∷ ls) ≡ true) ⊎ ((s : List ℕ) × (is_twice s (keys_of (l ∷ ls)) ≡ true))
    at None p r q k ih = inl (rw p refl)
    at (Some d) p None q k ih = tail (ih q)
    at (Some d) p (Some ns) q k ih = deep d ns q (has_key l.0 ns) refl k
