-- Lists of lists of which one alone has what is looked for, and the first item that passes a test.
use Rattle.std.proofs.Common.{◌≡◌, ◌∙◌, ℕ, zero, suc, ◌+◌, ◌<◌, ◌≤◌, cond, not, List, [], ◌∷◌, ◌++◌, map, drop, length, get_or, Bool, true, false}
use Rattle.std.proofs.Common.{Option, Some, None, find, refl, ap, sym, subst, arith}
use Rattle.std.specs.Prelude.{Contains, filter, option_and_then, if◌then◌else◌}
use Rattle.std.specs.List.{flat_map, position_or_len}
use Rattle.std.proofs.lemmas.List.{append-nil}
use Rattle.std.proofs.lemmas.List.Elements.{filter-append}
use Rattle.pbx_link_rules.proofs.Counted.{count}

-- ---- searches and filters

abbrev pub first_of : {X : Type 0} → List X → Option X
first_of [] = None
first_of (x ∷ xs) = Some x

pub find_filtered : {X : Type 0} (p : X → Bool) (xs : List X) → find p xs ≡ first_of (filter p xs)
find_filtered p [] = refl
find_filtered {X} p (x ∷ xs) = at (p x) (find_filtered p xs)
  where
    at : (b : Bool) → find p xs ≡ first_of (filter p xs) → cond b (Some x) (find p xs) ≡ first_of (cond b (x ∷ filter p xs) (filter p xs))
    at true ih = refl
    at false ih = ih

pub filter_mapped : {X Y : Type 0} (p : Y → Bool) (g : X → Y) (xs : List X) → filter p (map g xs) ≡ map g (filter (λ x. p (g x)) xs)
filter_mapped p g [] = refl
filter_mapped {X} {Y} p g (x ∷ xs) = at (p (g x)) (filter_mapped p g xs)
  where
    at : (b : Bool) → filter p (map g xs) ≡ map g (filter (λ y. p (g y)) xs)
        → cond b (g x ∷ filter p (map g xs)) (filter p (map g xs)) ≡ map g (cond b (x ∷ filter (λ y. p (g y)) xs) (filter (λ y. p (g y)) xs))
    at true ih = ap (λ (ys : List Y). g x ∷ ys) ih
    at false ih = ih

pub find_same : {X : Type 0} (p q : X → Bool) → ((x : X) → p x ≡ q x) → (xs : List X) → find p xs ≡ find q xs
find_same p q h [] = refl
find_same {X} p q h (x ∷ xs) = ap (λ (b : Bool). cond b (Some x) (find p xs)) (h x) ∙ ap (λ (o : Option X). cond (q x) (Some x) o) (find_same p q h xs)

pub find_none : {X : Type 0} (p : X → Bool) → ((x : X) → p x ≡ false) → (xs : List X) → find p xs ≡ None
find_none p h [] = refl
find_none {X} p h (x ∷ xs) = ap (λ (b : Bool). cond b (Some x) (find p xs)) (h x) ∙ find_none p h xs

pub filter_none : {X : Type 0} (p : X → Bool) → ((x : X) → p x ≡ false) → (xs : List X) → filter p xs ≡ []
filter_none p h [] = refl
filter_none {X} p h (x ∷ xs) = ap (λ (b : Bool). cond b (x ∷ filter p xs) (filter p xs)) (h x) ∙ filter_none p h xs

pub filter_same : {X : Type 0} (p q : X → Bool) → ((x : X) → p x ≡ q x) → (xs : List X) → filter p xs ≡ filter q xs
filter_same p q h [] = refl
filter_same {X} p q h (x ∷ xs) =
    ap (λ (b : Bool). cond b (x ∷ filter p xs) (filter p xs)) (h x) ∙ ap (λ (ys : List X). cond (q x) (x ∷ ys) ys) (filter_same p q h xs)

-- ---- the only one of a list of lists

module _ {X Y : Type 0} (test : X → Bool) (f : X → List Y) (p : Y → Bool) (others : (x : X) → test x ≡ false → filter p (f x) ≡ []) where
  passed_over : (x : X) (xs : List X) → test x ≡ false → filter p (f x ++ flat_map f xs) ≡ filter p (flat_map f xs)
  passed_over x xs w = filter-append p (f x) (flat_map f xs) ∙ ap (λ (ys : List Y). ys ++ filter p (flat_map f xs)) (others x w)

  none_left : (xs : List X) → count test xs ≡ 0 → filter p (flat_map f xs) ≡ []
  none_left [] e = refl
  none_left (x ∷ xs) e = at (test x) refl e (none_left xs)
    where
      at : (b : Bool) → test x ≡ b → (if b then 1 else 0) + count test xs ≡ 0 → (count test xs ≡ 0 → filter p (flat_map f xs) ≡ [])
          → filter p (f x ++ flat_map f xs) ≡ []
      at true w e ih = absurd (omega (arith, e))
      at false w e ih = passed_over x xs w ∙ ih (omega (arith, e))

  module _ (x : X) (passes : test x ≡ true) where
    abbrev at_one : Bool → ℕ
    at_one b = if b then 1 else 0

    one_of : (y : X) → y ≡ x → at_one (test y) ≡ 1
    one_of y e = ap at_one (ap test e ∙ passes)

    counted : (xs : List X) (i : ℕ) → i < length xs → get_or xs i x ≡ x → 1 ≤ count test xs
    counted [] i lt e = absurd (omega (arith, lt))
    counted (y ∷ ys) zero lt e = let one = one_of y e in omega (arith, one)
    counted (y ∷ ys) (suc i) lt e = let more = counted ys i (omega (arith, lt)) e in omega (arith, more)

    alone : (xs : List X) (i : ℕ) → i < length xs → get_or xs i x ≡ x → count test xs ≤ 1 → filter p (flat_map f xs) ≡ filter p (f x)
    alone [] i lt e once = absurd (omega (arith, lt))
    alone (y ∷ ys) zero lt e once =
        let one = one_of y e in
        filter-append p (f y) (flat_map f ys) ∙ ap (λ (zs : List Y). filter p (f y) ++ zs) (none_left ys (omega (arith, one, once)))
        ∙ append-nil (filter p (f y)) ∙ ap (λ (z : X). filter p (f z)) e
    alone (y ∷ ys) (suc i) lt e once = at (test y) refl once (counted ys i (omega (arith, lt)) e) (alone ys i (omega (arith, lt)) e)
      where
        at : (b : Bool) → test y ≡ b → (if b then 1 else 0) + count test ys ≤ 1 → 1 ≤ count test ys
            → (count test ys ≤ 1 → filter p (flat_map f ys) ≡ filter p (f x)) → filter p (f y ++ flat_map f ys) ≡ filter p (f x)
        at true w less more ih = absurd (omega (arith, less, more))
        at false w less more ih = passed_over y ys w ∙ ih (omega (arith, less))

    pub only_piece : (xs : List X) → Contains xs x → count test xs ≤ 1 → filter p (flat_map f xs) ≡ filter p (f x)
    only_piece xs h once = alone xs h.0 h.1 h.2 once

-- ---- the first that passes

module _ {X : Type 0} (q : X → Bool) where
  pub at_first : (ys : List X) (d : X) → position_or_len q ys < length ys
      → filter q ys ≡ get_or ys (position_or_len q ys) d ∷ filter q (drop (position_or_len q ys + 1) ys)
  at_first [] d lt = absurd (omega (arith, lt))
  at_first (y ∷ ys) d lt = at (q y) (position_or_len q ys) lt (at_first ys d)
    where
      at : (b : Bool) (n : ℕ) → cond (not b) (1 + n) 0 < length (y ∷ ys) → (n < length ys → filter q ys ≡ get_or ys n d ∷ filter q (drop (n + 1) ys))
          → cond b (y ∷ filter q ys) (filter q ys)
          ≡ get_or (y ∷ ys) (cond (not b) (1 + n) 0) d ∷ filter q (drop (cond (not b) (1 + n) 0 + 1) (y ∷ ys))
      at true n lt ih = refl
      at false n lt ih =
          let same : suc n ≡ 1 + n = omega arith in
          let more : suc (n + 1) ≡ suc n + 1 = omega arith in
          subst (λ (k : ℕ). filter q ys ≡ get_or (y ∷ ys) k d ∷ filter q (drop (k + 1) (y ∷ ys))) same
          (subst (λ (k : ℕ). filter q ys ≡ get_or ys n d ∷ filter q (drop k (y ∷ ys))) more (ih (omega (arith, lt))))

  pub none_first : (ys : List X) → length ys ≤ position_or_len q ys → filter q ys ≡ []
  none_first [] le = refl
  none_first (y ∷ ys) le = at (q y) (position_or_len q ys) le (none_first ys)
    where
      at : (b : Bool) (n : ℕ) → length (y ∷ ys) ≤ cond (not b) (1 + n) 0 → (length ys ≤ n → filter q ys ≡ [])
          → cond b (y ∷ filter q ys) (filter q ys) ≡ []
      at true n le ih = absurd (omega (arith, le))
      at false n le ih = ih (omega (arith, le))

-- ---- the one that passes two tests

module _ {X : Type 0} (r o : X → Bool) where
  none_of_both : (xs : List X) → count r xs ≡ 0 → find r (filter o xs) ≡ None
  none_of_both [] e = refl
  none_of_both (x ∷ xs) e = at (r x) (o x) refl e (none_of_both xs)
    where
      at : (b c : Bool) → r x ≡ b → (if b then 1 else 0) + count r xs ≡ 0 → (count r xs ≡ 0 → find r (filter o xs) ≡ None)
          → find r (cond c (x ∷ filter o xs) (filter o xs)) ≡ None
      at true c w e ih = absurd (omega (arith, e))
      at false false w e ih = ih (omega (arith, e))
      at false true w e ih = ap (λ (b : Bool). cond b (Some x) (find r (filter o xs))) w ∙ ih (omega (arith, e))

  abbrev pub kept : X → Option X
  kept x = cond (o x) (Some x) None

  pub found_by_both : (xs : List X) → count r xs ≤ 1 → find r (filter o xs) ≡ option_and_then kept (find r xs)
  found_by_both [] e = refl
  found_by_both (x ∷ xs) e = at (r x) (o x) refl refl e (found_by_both xs)
    where
      at : (b c : Bool) → r x ≡ b → o x ≡ c → (if b then 1 else 0) + count r xs ≤ 1 → (count r xs ≤ 1 → find r (filter o xs) ≡ option_and_then kept (find r xs))
          → find r (cond c (x ∷ filter o xs) (filter o xs)) ≡ option_and_then kept (cond b (Some x) (find r xs))
      at true true w v e ih =
          ap (λ (b : Bool). cond b (Some x) (find r (filter o xs))) w ∙ sym (ap (λ (c : Bool). cond c (Some x) None) v)
      at true false w v e ih = none_of_both xs (omega (arith, e)) ∙ sym (ap (λ (c : Bool). cond c (Some x) None) v)
      at false true w v e ih = ap (λ (b : Bool). cond b (Some x) (find r (filter o xs))) w ∙ ih (omega (arith, e))
      at false false w v e ih = ih (omega (arith, e))
