-- The walk from the last file of a pool to its first, along what is imported.
use Rattle.std.proofs.Common.{◌≡◌, ◌∙◌, ℕ, zero, suc, ◌+◌, ◌-◌, ◌<◌, ◌≤◌, max, List, [], ◌∷◌, ◌++◌, map, length, take, Bool, true, false, ◌||◌, ◌&&◌, if◌then◌else◌, Option, Some, None, refl, ap, sym, arith}
use Rattle.std.specs.Prelude.{slice_get, reverse, nat_lt}
use Rattle.std.specs.List.{All, list_any}
use Rattle.std.specs.Ordering.{nat_cmp, is_eq, is_lt}
use Rattle.std.specs.BTreeMap.{is_at}
use Rattle.std.specs.BTreeSet.{BTreeSet, contains, Updates, IsUpperBound}
use Rattle.std.proofs.lemmas.Bool.Decides.{nat_tests}
use Rattle.std.proofs.lemmas.List.{append-nil, append_assoc, map-append, reverse-append, take_all}
use Rattle.std.proofs.lemmas.List.Elements.{All-push}
use Rattle.pbx_desc_records.specs.declared.file.FileDescriptorProto.{FileDescriptorProto}
use Rattle.pbx_link_scope.specs.Scope.{is_file_of, public_imports, reached}
use Rattle.pbx_link_visible.specs.Imports.{Descend, AreVisible, is_named_file, is_file_at, HasAdded}
use Rattle.pbx_link_visible.proofs.Named.{file_of_append}

-- ---- the files before an index

within : {X : Type 0} (xs : List X) (k : ℕ) → k < length xs → (x : X) × (slice_get xs k ≡ Some x)
within [] k lt = absurd (omega (arith, lt))
within (x ∷ xs) zero lt = (x, refl)
within (x ∷ xs) (suc k) lt = within xs k (omega (arith, lt))

below_length : {X : Type 0} (xs : List X) (k : ℕ) (x : X) → slice_get xs k ≡ Some x → k < length xs
below_length [] k x e = absurd (cc)
below_length (y ∷ xs) zero x e = omega arith
below_length (y ∷ xs) (suc k) x e = let less = below_length xs k x e in omega (arith, less)

outside : {X : Type 0} (xs : List X) (k : ℕ) → length xs ≤ k → slice_get xs k ≡ None
outside [] k le = refl
outside (x ∷ xs) zero le = absurd (omega (arith, le))
outside (x ∷ xs) (suc k) le = outside xs k (omega (arith, le))

one_more : {X : Type 0} (xs : List X) (k : ℕ) (x : X) → slice_get xs k ≡ Some x → take (suc k) xs ≡ take k xs ++ x ∷ []
one_more [] k x e = absurd (cc)
one_more {X} (y ∷ xs) zero x e = let same : y ≡ x = cc in ap (λ (z : X). z ∷ []) same
one_more {X} (y ∷ xs) (suc k) x e = ap (λ (zs : List X). y ∷ zs) (one_more xs k x e)

last_first : {X : Type 0} (xs : List X) (k : ℕ) (x : X) → slice_get xs k ≡ Some x → reverse (take (suc k) xs) ≡ x ∷ reverse (take k xs)
last_first xs k x e = ap reverse (one_more xs k x e) ∙ reverse-append (take k xs) (x ∷ [])

module _ (files : List FileDescriptorProto) where
  -- files that have none of the names are passed
  pub passed : (names : List (List ℕ)) (low more : ℕ) → low + more ≤ length files → ((i : ℕ) → low ≤ i → i < low + more → is_file_at files names i ≡ false)
      → reached names (reverse (take (low + more) files)) ≡ reached names (reverse (take low files))
  passed names low zero fit none = ap (λ (n : ℕ). reached names (reverse (take n files))) (omega arith)
  passed names low (suc more) fit none =
      let at = within files (low + more) (omega (arith, fit)) in
      let other : is_file_of names at.0 ≡ false = ap (is_named_file names) (sym at.1) ∙ none (low + more) (omega arith) (omega arith) in
      let next : low + suc more ≡ suc (low + more) = omega arith in
      ap (λ (n : ℕ). reached names (reverse (take n files))) next
      ∙ ap (reached names) (last_first files (low + more) at.0 at.1)
      ∙ ap (λ (b : Bool). if b then at.0 ∷ reached (public_imports at.0 ++ names) (reverse (take (low + more) files)) else reached names (reverse (take (low + more) files))) other
      ∙ passed names low more (omega (arith, fit)) (λ i from below. none i from (omega (arith, below)))

  -- the greatest index of a file that has one of the names, and what is reached then
  pub reached_next : (names : List (List ℕ)) (limit index : ℕ) (f : FileDescriptorProto) → limit ≤ length files → index < limit → slice_get files index ≡ Some f → is_file_of names f ≡ true
      → ((i : ℕ) → index < i → i < limit → is_file_at files names i ≡ false)
      → reached names (reverse (take limit files)) ≡ f ∷ reached (public_imports f ++ names) (reverse (take index files))
  reached_next names limit index f fit less at is none =
      let all : suc index + (limit - suc index) ≡ limit = omega (arith, less) in
      ap (λ (n : ℕ). reached names (reverse (take n files))) (sym all)
      ∙ passed names (suc index) (limit - suc index) (omega (arith, fit, less)) (λ i from below. none i (omega (arith, from)) (omega (arith, below, less)))
      ∙ ap (reached names) (last_first files index f at)
      ∙ ap (λ (b : Bool). if b then f ∷ reached (public_imports f ++ names) (reverse (take index files)) else reached names (reverse (take index files))) is

-- ---- the walk

-- what was found of the files of these names and those that they import publicly, and the indexes that are still to be looked at
pub record Walked (files : List FileDescriptorProto) (names : List (List ℕ)) (found : List ℕ) (pending : BTreeSet ℕ) : Type 0 where
  pub limit : ℕ
  pub gathered : List (List ℕ)
  pub fit : limit ≤ length files
  pub is : map (slice_get files) found ++ map Some (reached gathered (reverse (take limit files))) ≡ map Some (reached names (reverse files))
  pub left : (i : ℕ) → contains nat_cmp pending i ≡ (nat_lt i limit && is_file_at files gathered i)
  pub descend : Descend found
  pub behind : All (λ i. limit ≤ i) found

-- the first index that is greater than each of these
abbrev pub next_index : List ℕ → ℕ
next_index [] = 0
next_index (i ∷ is) = max (suc i) (next_index is)

-- the walk begins behind the last file
pub started : (files : List FileDescriptorProto) (names : List (List ℕ)) (none pending : BTreeSet ℕ) → none.keys ≡ [] → HasAdded files None names none pending → Walked files names [] pending
started files names none pending empty added = record {
  limit = length files;
  gathered = names;
  fit = omega arith;
  is = ap (λ (fs : List FileDescriptorProto). map Some (reached names (reverse fs))) (take_all (length files) files (omega arith));
  left = λ i. added i ∙ ap (λ (ks : List ℕ). is_file_at files names i || list_any (is_at (nat_cmp i)) ks) empty ∙ in_pool i (nat_lt i (length files)) refl;
  descend = tt;
  behind = λ k d lt. absurd (omega (arith, lt));
}
  where
    in_pool : (i : ℕ) (b : Bool) → nat_lt i (length files) ≡ b → (is_file_at files names i || false) ≡ (b && is_file_at files names i)
    in_pool i true w = no_more (is_file_at files names i)
      where
        no_more : (c : Bool) → (c || false) ≡ c
        no_more true = refl
        no_more false = refl
    in_pool i false w = ap (λ (o : Option FileDescriptorProto). is_named_file names o || false) (outside files i (grind (arith, nat_tests, w)))

descend_more : (xs : List ℕ) (i : ℕ) → Descend xs → All (λ j. i < j) xs → Descend (xs ++ i ∷ [])
descend_more [] i d all = (λ k e lt. absurd (omega (arith, lt)), tt)
descend_more (x ∷ xs) i d all = (
  All-push (λ (j : ℕ). j < x) xs i d.0 (all 0 0 (omega arith)),
  descend_more xs i d.1 (λ k e lt. all (suc k) e (omega (arith, lt))),
)

-- at an index that is left stands a file
pub file_left : (files : List FileDescriptorProto) (names : List (List ℕ)) (found : List ℕ) (pending : BTreeSet ℕ) (i : ℕ) → Walked files names found pending → contains nat_cmp pending i ≡ true
    → (f : FileDescriptorProto) × (slice_get files i ≡ Some f)
file_left files names found pending i w there = by_file (slice_get files i) refl (nat_lt i w.limit) (sym (w.left i) ∙ there)
  where
    by_file : (o : Option FileDescriptorProto) → slice_get files i ≡ o → (b : Bool) → (b && is_named_file w.gathered (slice_get files i)) ≡ true → (f : FileDescriptorProto) × (slice_get files i ≡ Some f)
    by_file (Some f) at b e = (f, at)
    by_file None at false e = absurd (cc)
    by_file None at true e = absurd (let none : is_named_file w.gathered (slice_get files i) ≡ false = ap (is_named_file w.gathered) at in cc)

-- ---- one index that is taken

module _ (files : List FileDescriptorProto) (index : ℕ) (f : FileDescriptorProto) (old taken new : BTreeSet ℕ)
    (there : contains nat_cmp old index ≡ true) (greatest : IsUpperBound nat_cmp old index) (updates : Updates nat_cmp old taken index false)
    (at : slice_get files index ≡ Some f) (added : HasAdded files (Some index) (public_imports f) taken new) where
  none_above : (i : ℕ) → index < i → contains nat_cmp old i ≡ false
  none_above i less = by_test (contains nat_cmp old i) refl
    where
      by_test : (b : Bool) → contains nat_cmp old i ≡ b → b ≡ false
      by_test true w = absurd (let not_less : is_lt (nat_cmp index i) ≡ false = greatest i w in let is : is_lt (nat_cmp index i) ≡ true = grind (arith, nat_tests, less) in cc)
      by_test false w = refl

  -- what is left of the indexes are those below
  taken_is : (i : ℕ) → contains nat_cmp taken i ≡ (nat_lt i index && contains nat_cmp old i)
  taken_is i = updates.0 i ∙ by_order (nat_lt i index) (is_eq (nat_cmp index i)) refl refl
    where
      by_order : (b e : Bool) → nat_lt i index ≡ b → is_eq (nat_cmp index i) ≡ e → (if e then false else contains nat_cmp old i) ≡ (b && contains nat_cmp old i)
      by_order true true w v = absurd (grind (arith, nat_tests, w, v))
      by_order true false w v = refl
      by_order false true w v = refl
      by_order false false w v = none_above i (grind (arith, nat_tests, w, v))

  new_is : (i : ℕ) → contains nat_cmp new i ≡ (nat_lt i index && (is_file_at files (public_imports f) i || contains nat_cmp old i))
  new_is i = added i ∙ ap (λ (b : Bool). (nat_lt i index && is_file_at files (public_imports f) i) || b) (taken_is i) ∙ shared (nat_lt i index) (is_file_at files (public_imports f) i) (contains nat_cmp old i)
    where
      shared : (b x y : Bool) → ((b && x) || (b && y)) ≡ (b && (x || y))
      shared true x y = refl
      shared false x y = refl

  pub all_below : (i : ℕ) → contains nat_cmp new i ≡ true → i < index
  all_below i e = by_order (nat_lt i index) refl (sym (new_is i) ∙ e)
    where
      by_order : (b : Bool) → nat_lt i index ≡ b → (b && (is_file_at files (public_imports f) i || contains nat_cmp old i)) ≡ true → i < index
      by_order true w h = grind (arith, nat_tests, w)
      by_order false w h = absurd (cc)

  module _ (names : List (List ℕ)) (found : List ℕ) (w : Walked files names found old) where
    both : (nat_lt index w.limit ≡ true) × (is_file_at files w.gathered index ≡ true)
    both = by_parts (nat_lt index w.limit) (is_file_at files w.gathered index) (sym (w.left index) ∙ there)
      where
        by_parts : (b c : Bool) → (b && c) ≡ true → (b ≡ true) × (c ≡ true)
        by_parts true true e = (refl, refl)
        by_parts true false e = absurd (cc)
        by_parts false c e = absurd (cc)

    less : index < w.limit
    less = let yes = both.0 in grind (arith, nat_tests, yes)

    reaches : reached w.gathered (reverse (take w.limit files)) ≡ f ∷ reached (public_imports f ++ w.gathered) (reverse (take index files))
    reaches =
        reached_next files w.gathered w.limit index f w.fit less at (ap (is_named_file w.gathered) (sym at) ∙ both.1)
        (λ i above below. let is : nat_lt i w.limit ≡ true = grind (arith, nat_tests, below) in ap (λ (b : Bool). b && is_file_at files w.gathered i) (sym is) ∙ sym (w.left i) ∙ none_above i above)

    left_below : (i : ℕ) (b : Bool) → nat_lt i index ≡ b
        → (b && (is_file_at files (public_imports f) i || contains nat_cmp old i)) ≡ (b && is_file_at files (public_imports f ++ w.gathered) i)
    left_below i false v = refl
    left_below i true v =
        let is : nat_lt i w.limit ≡ true = let lt = less in grind (arith, nat_tests, v, lt) in
        ap (λ (c : Bool). is_file_at files (public_imports f) i || c) (w.left i ∙ ap (λ (c : Bool). c && is_file_at files w.gathered i) is)
        ∙ sym (file_of_append (public_imports f) w.gathered (slice_get files i))

    -- the walk goes on below the index
    pub stepped : Walked files names (found ++ index ∷ []) new
    stepped = record {
      limit = index;
      gathered = public_imports f ++ w.gathered;
      fit = let lt = less in let fit = w.fit in omega arith;
      is = ap (λ (os : List (Option FileDescriptorProto)). os ++ map Some (reached (public_imports f ++ w.gathered) (reverse (take index files)))) (map-append (slice_get files) found (index ∷ []))
          ∙ append_assoc (map (slice_get files) found) (slice_get files index ∷ []) (map Some (reached (public_imports f ++ w.gathered) (reverse (take index files))))
          ∙ ap (λ (o : Option FileDescriptorProto). map (slice_get files) found ++ o ∷ map Some (reached (public_imports f ++ w.gathered) (reverse (take index files)))) at
          ∙ ap (λ (fs : List FileDescriptorProto). map (slice_get files) found ++ map Some fs) (sym reaches) ∙ w.is;
      left = λ i. new_is i ∙ left_below i (nat_lt i index) refl;
      descend = descend_more found index w.descend (λ k d lt. let from = w.behind k d lt in let below = less in omega (arith, from, below));
      behind = All-push (λ (j : ℕ). index ≤ j) found index (λ k d lt. let from = w.behind k d lt in let below = less in omega (arith, from, below)) (omega arith);
    }

-- ---- the end

pub ended : (files : List FileDescriptorProto) (f : FileDescriptorProto) (found : List ℕ) (pending : BTreeSet ℕ) → Walked files f.dependency found pending → pending.keys ≡ [] → AreVisible files f found
ended files f found pending w empty = (sym (append-nil (map (slice_get files) found)) ∙ ap (λ (fs : List FileDescriptorProto). map (slice_get files) found ++ map Some fs) (sym nothing) ∙ w.is, w.descend)
  where
    none_left : (i : ℕ) → i < w.limit → is_file_at files w.gathered i ≡ false
    none_left i lt =
        let is : nat_lt i w.limit ≡ true = grind (arith, nat_tests, lt) in
        ap (λ (b : Bool). b && is_file_at files w.gathered i) (sym is) ∙ sym (w.left i) ∙ ap (λ (ks : List ℕ). list_any (is_at (nat_cmp i)) ks) empty

    nothing : reached w.gathered (reverse (take w.limit files)) ≡ []
    nothing =
        let all : 0 + w.limit ≡ w.limit = omega arith in
        ap (λ (n : ℕ). reached w.gathered (reverse (take n files))) (sym all)
        ∙ passed files w.gathered 0 w.limit (let fit = w.fit in omega arith) (λ i from below. none_left i (omega (arith, below)))

-- ---- the measure

bounded : (ks : List ℕ) (limit : ℕ) → ((i : ℕ) → list_any (is_at (nat_cmp i)) ks ≡ true → i < limit) → next_index ks ≤ limit
bounded [] limit below = omega arith
bounded (k ∷ ks) limit below =
    let here : k < limit = below k (first k (is_eq (nat_cmp k k)) refl) in
    let others : next_index ks ≤ limit = bounded ks limit (λ i e. below i (either (is_at (nat_cmp i) k) e)) in
    omega (arith, here, others)
  where
    either : (b : Bool) {c : Bool} → c ≡ true → (b || c) ≡ true
    either true e = refl
    either false e = e

    first : (n : ℕ) (b : Bool) → is_eq (nat_cmp n n) ≡ b → (b || list_any (is_at (nat_cmp n)) ks) ≡ true
    first n true e = refl
    first n false e = absurd (grind (arith, nat_tests, e))

exceeded : (ks : List ℕ) (i : ℕ) → list_any (is_at (nat_cmp i)) ks ≡ true → i < next_index ks
exceeded [] i e = absurd (cc)
exceeded (k ∷ ks) i e = by_test (is_eq (nat_cmp i k)) refl e (exceeded ks i)
  where
    by_test : (b : Bool) → is_eq (nat_cmp i k) ≡ b → (b || list_any (is_at (nat_cmp i)) ks) ≡ true
        → (list_any (is_at (nat_cmp i)) ks ≡ true → i < next_index ks) → i < max (suc k) (next_index ks)
    by_test true w h ih = let same : i ≡ k = grind (arith, nat_tests, w) in omega (arith, same)
    by_test false w h ih = let less = ih h in omega (arith, less)

pub smaller : (index : ℕ) (old new : BTreeSet ℕ) → contains nat_cmp old index ≡ true → ((i : ℕ) → contains nat_cmp new i ≡ true → i < index) → next_index new.keys < next_index old.keys
smaller index old new there below = let above = exceeded old.keys index there in let most = bounded new.keys index below in omega (arith, above, most)

pub no_keys : (ks : List ℕ) → (0 < length ks → false ≡ true) → ks ≡ []
no_keys [] none = refl
no_keys (k ∷ ks) none = absurd (let never = none (omega arith) in cc)
