-- Lists: the first place of a property, what is told of files beside the pool, and items of parts.
use Rattle.std.proofs.Common.{◌≡◌, ◌∙◌, ℕ, suc, ◌+◌, ◌<◌, cond, List, [], ◌∷◌, ◌++◌, map, length, Bool, true, false, Option, Some, None, refl, ap, sym, arith}
use Rattle.std.specs.Prelude.{find, position, option_map, nat_lt, not}
use Rattle.std.specs.List.{flat_map, enumerate_from, position_or_len}
use Rattle.std.specs.Option.{option_or}
use Rattle.std.proofs.lemmas.Bool.Decides.{nat_tests}
use Rattle.std.proofs.lemmas.List.{map-append}
use Rattle.std.proofs.lemmas.List.Folds.{find-append}
use Rattle.pbx_link_definitions.specs.Definitions.{Part, Place, part, parts}
use Rattle.pbx_link_meaning.specs.Descriptors.{Described, described}
use Rattle.pbx_link_meaning.proofs.DescribedLists.{File, described_parts}

-- ---- options

pub map_or : {A B : Type 0} (g : A → B) (o p : Option A) → option_map g (option_or o p) ≡ option_or (option_map g o) (option_map g p)
map_or g None p = refl
map_or g (Some a) p = refl

pub map_map : {A B C : Type 0} (g : B → C) (h : A → B) (k : A → C) → ((a : A) → g (h a) ≡ k a) → (o : Option A) → option_map g (option_map h o) ≡ option_map k o
map_map g h k e None = refl
map_map g h k e (Some a) = ap Some (e a)

map_same : (g : ℕ → ℕ) → ((n : ℕ) → g n ≡ n) → (o : Option ℕ) → option_map g o ≡ o
map_same g e None = refl
map_same g e (Some n) = ap Some (e n)

pub no_image : {A B : Type 0} (g : A → B) (o : Option A) → option_map g o ≡ None → o ≡ None
no_image g None e = refl
no_image g (Some a) e = absurd (cc)

-- ---- the first place of a property

abbrev pub first_at : {X : Type 0} → (X → Bool) → List X → Option ℕ
first_at test [] = None
first_at test (x ∷ xs) = cond (test x) (Some 0) (option_map (λ n. suc n) (first_at test xs))

lt_yes : (m n : ℕ) → m < n → nat_lt m n ≡ true
lt_yes m n h = grind (arith, nat_tests)

lt_suc : (m n : ℕ) → nat_lt (1 + m) (suc n) ≡ nat_lt m n
lt_suc m n = grind (arith, nat_tests)

pub position_is : {X : Type 0} (test : X → Bool) (xs : List X) → position test xs ≡ first_at test xs
position_is test [] = refl
position_is {X} test (x ∷ xs) = by_test (test x) (position_is test xs)
  where
    next : (c : Bool) → cond c (Some (1 + position_or_len test xs)) None ≡ option_map (λ n. suc n) (cond c (Some (position_or_len test xs)) None)
    next true = ap (λ (n : ℕ). Some n) (omega arith)
    next false = refl

    by_test : (b : Bool) → position test xs ≡ first_at test xs
        → cond (nat_lt (cond (not b) (1 + position_or_len test xs) 0) (suc (length xs))) (Some (cond (not b) (1 + position_or_len test xs) 0)) None
        ≡ cond b (Some 0) (option_map (λ n. suc n) (first_at test xs))
    by_test true ih = ap (λ (c : Bool). cond c (Some 0) None) (lt_yes 0 (suc (length xs)) (omega arith))
    by_test false ih =
        ap (λ (c : Bool). cond c (Some (1 + position_or_len test xs)) None) (lt_suc (position_or_len test xs) (length xs))
        ∙ next (nat_lt (position_or_len test xs) (length xs)) ∙ ap (option_map (λ n. suc n)) ih

pub first_append : {X : Type 0} (test : X → Bool) (xs ys : List X)
    → first_at test (xs ++ ys) ≡ option_or (first_at test xs) (option_map (λ n. length xs + n) (first_at test ys))
first_append test [] ys = sym (map_same (λ n. 0 + n) (λ n. omega arith) (first_at test ys))
first_append {X} test (x ∷ xs) ys = by_test (test x) (first_append test xs ys)
  where
    by_test : (b : Bool) → first_at test (xs ++ ys) ≡ option_or (first_at test xs) (option_map (λ n. length xs + n) (first_at test ys))
        → cond b (Some 0) (option_map (λ n. suc n) (first_at test (xs ++ ys)))
        ≡ option_or (cond b (Some 0) (option_map (λ n. suc n) (first_at test xs))) (option_map (λ n. suc (length xs) + n) (first_at test ys))
    by_test true ih = refl
    by_test false ih =
        ap (option_map (λ n. suc n)) ih ∙ map_or (λ n. suc n) (first_at test xs) (option_map (λ n. length xs + n) (first_at test ys))
        ∙ ap (option_or (option_map (λ n. suc n) (first_at test xs)))
        (map_map (λ n. suc n) (λ n. length xs + n) (λ n. suc (length xs) + n) (λ n. omega arith) (first_at test ys))

pub first_map : {X Y : Type 0} (test : Y → Bool) (g : X → Y) (xs : List X) → first_at test (map g xs) ≡ first_at (λ x. test (g x)) xs
first_map test g [] = refl
first_map test g (x ∷ xs) = ap (λ (o : Option ℕ). cond (test (g x)) (Some 0) (option_map (λ n. suc n) o)) (first_map test g xs)

pub first_within : {X : Type 0} (test : X → Bool) (xs : List X) (n : ℕ) → first_at test xs ≡ Some n → n < length xs
first_within test [] n h = absurd (cc)
first_within {X} test (x ∷ xs) n h = by_test (test x) (first_at test xs) refl h (first_within test xs)
  where
    by_test : (b : Bool) (o : Option ℕ) → first_at test xs ≡ o → cond b (Some 0) (option_map (λ m. suc m) o) ≡ Some n
        → ((m : ℕ) → first_at test xs ≡ Some m → m < length xs) → n < suc (length xs)
    by_test true o w e ih = let same : 0 ≡ n = cc in omega (arith, same)
    by_test false None w e ih = absurd (cc)
    by_test false (Some m) w e ih = let same : suc m ≡ n = cc in let lt = ih m w in omega (arith, same, lt)

pub enumerated : {X : Type 0} (test : X → Bool) (k : ℕ) (xs : List X)
    → option_map (λ (y : ℕ × X). y.0) (find (λ (y : ℕ × X). test y.1) (enumerate_from k xs)) ≡ option_map (λ n. k + n) (first_at test xs)
enumerated test k [] = refl
enumerated {X} test k (x ∷ xs) = by_test (test x) (enumerated test (k + 1) xs)
  where
    by_test : (b : Bool) → option_map (λ (y : ℕ × X). y.0) (find (λ (y : ℕ × X). test y.1) (enumerate_from (k + 1) xs)) ≡ option_map (λ n. k + 1 + n) (first_at test xs)
        → option_map (λ (y : ℕ × X). y.0) (cond b (Some (k, x)) (find (λ (y : ℕ × X). test y.1) (enumerate_from (k + 1) xs)))
        ≡ option_map (λ n. k + n) (cond b (Some 0) (option_map (λ n. suc n) (first_at test xs)))
    by_test true ih = ap (λ (n : ℕ). Some n) (omega arith)
    by_test false ih = ih ∙ sym (map_map (λ n. k + n) (λ n. suc n) (λ n. k + 1 + n) (λ n. omega arith) (first_at test xs))

-- ---- what is found among images

pub find_mapped : {X Y : Type 0} (test : Y → Bool) (g : X → Y) (xs : List X) → find test (map g xs) ≡ option_map g (find (λ x. test (g x)) xs)
find_mapped test g [] = refl
find_mapped {X} {Y} test g (x ∷ xs) = by_test (test (g x)) (find_mapped test g xs)
  where
    by_test : (b : Bool) → find test (map g xs) ≡ option_map g (find (λ y. test (g y)) xs)
        → cond b (Some (g x)) (find test (map g xs)) ≡ option_map g (cond b (Some x) (find (λ y. test (g y)) xs))
    by_test true ih = refl
    by_test false ih = ih

-- ---- items of parts

items_from : {X : Type 0} (scope : List ℕ) (place : Place) (n k : ℕ) (xs : List X)
    → map (λ (p : Part X). p.item) (map (λ (e : ℕ × X). part scope place n e.0 e.1) (enumerate_from k xs)) ≡ xs
items_from scope place n k [] = refl
items_from {X} scope place n k (x ∷ xs) = ap (λ (ys : List X). x ∷ ys) (items_from scope place n (k + 1) xs)

pub items_of_parts : {X : Type 0} (scope : List ℕ) (place : Place) (n : ℕ) (xs : List X) → map (λ (p : Part X). p.item) (parts scope place n xs) ≡ xs
items_of_parts scope place n xs = items_from scope place n 0 xs

-- ---- parts beside their pool

module _ {X : Type 0} (pool : List File) where
  pub mapped_items : {Y : Type 0} (f : File) (F : Described X → Y) (G : X → Y) → ((p : Part X) → F (described pool f p) ≡ G p.item) → (ps : List (Part X))
      → map F (map (described pool f) ps) ≡ map G (map (λ (p : Part X). p.item) ps)
  mapped_items f F G same [] = refl
  mapped_items {Y} f F G same (p ∷ ps) =
      ap (λ (y : Y). y ∷ map F (map (described pool f) ps)) (same p) ∙ ap (λ (ys : List Y). G p.item ∷ ys) (mapped_items f F G same ps)

  mapped_own : {Y : Type 0} (f : File) (F : Described X → Y) (G : Part X → Y) → ((p : Part X) → F (described pool f p) ≡ G p) → (ps : List (Part X))
      → map F (map (described pool f) ps) ≡ map G ps
  mapped_own f F G same [] = refl
  mapped_own {Y} f F G same (p ∷ ps) = ap (λ (y : Y). y ∷ map F (map (described pool f) ps)) (same p) ∙ ap (λ (ys : List Y). G p ∷ ys) (mapped_own f F G same ps)

  pub mapped_parts : {Y : Type 0} (tell : File → List (Part X)) (F : Described X → Y) (G : File → Part X → Y)
      → ((f : File) (p : Part X) → F (described pool f p) ≡ G f p) → (files : List File)
      → map F (described_parts pool tell files) ≡ flat_map (λ f. map (G f) (tell f)) files
  mapped_parts tell F G same [] = refl
  mapped_parts {Y} tell F G same (f ∷ fs) =
      map-append F (map (described pool f) (tell f)) (described_parts pool tell fs)
      ∙ ap (λ (ys : List Y). ys ++ map F (described_parts pool tell fs)) (mapped_own f F (G f) (same f) (tell f))
      ∙ ap (λ (ys : List Y). map (G f) (tell f) ++ ys) (mapped_parts tell F G same fs)

  -- what is found has the pool
  pub has_pool : (tell : File → List (Part X)) (test : Described X → Bool) (files : List File) (d : Described X)
      → find test (described_parts pool tell files) ≡ Some d → d.pool ≡ pool
  has_pool tell test [] d h = absurd (cc)
  has_pool tell test (f ∷ fs) d h =
      by_own (find (λ p. test (described pool f p)) (tell f))
      (sym (ap (λ (o : Option (Described X)). option_or o (find test (described_parts pool tell fs))) (find_mapped test (described pool f) (tell f)))
      ∙ sym (find-append test (map (described pool f) (tell f)) (described_parts pool tell fs)) ∙ h) (has_pool tell test fs d)
    where
      by_own : (o : Option (Part X)) → option_or (option_map (described pool f) o) (find test (described_parts pool tell fs)) ≡ Some d
          → (find test (described_parts pool tell fs) ≡ Some d → d.pool ≡ pool) → d.pool ≡ pool
      by_own None e ih = ih e
      by_own (Some p) e ih = let same : described pool f p ≡ d = cc in sym (ap (λ (x : Described X). x.pool) same)
