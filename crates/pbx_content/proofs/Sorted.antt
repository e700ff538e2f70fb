-- Filters of records, and what sorting keeps.
use Rattle.std.proofs.Common.{◌≡◌, ℕ, ◌≤◌, Bool, true, false, cond, if◌then◌else◌, nat_lt, List, [], ◌∷◌, ◌++◌, refl, ap, ◌∙◌, arith}
use Rattle.std.specs.List.{filter}
use Rattle.std.proofs.lemmas.Bool.Decides.{nat_tests}
use Rattle.std.proofs.lemmas.List.Elements.{filter-append}
use Rattle.pbx_wire.specs.declared.rec.Rec.{Rec}
use Rattle.pbx_content.specs.Encoding.{with_kept}
use Rattle.pbx_content.specs.Records.{number_of, is_of, those_of, insert, sorted, any, after_last}

-- ---- one number

pub those_of-insert : (n : ℕ) (r : Rec) (ss : List Rec) → those_of n (insert r ss) ≡ those_of n (r ∷ ss)
those_of-insert n r [] = refl
those_of-insert n r (s ∷ ss) = let ih = those_of-insert n r ss in grind (arith, nat_tests, ih)

pub those_of-sorted : (n : ℕ) (rs : List Rec) → those_of n (sorted rs) ≡ those_of n rs
those_of-sorted n [] = refl
those_of-sorted n (r ∷ rs) = those_of-insert n r (sorted rs) ∙ ap (λ (t : List Rec). cond (is_of n r) (r ∷ t) t) (those_of-sorted n rs)

-- ---- ascending numbers

-- no number is below n
abbrev pub IsLow : ℕ → List Rec → Type 0
IsLow n [] = Unit {0}
IsLow n (s ∷ ss) = (n ≤ number_of s) × IsLow n ss

abbrev pub IsSorted : List Rec → Type 0
IsSorted [] = Unit {0}
IsSorted (s ∷ ss) = IsLow (number_of s) ss × IsSorted ss

lower : (m n : ℕ) (ss : List Rec) → m ≤ n → IsLow n ss → IsLow m ss
lower m n [] le h = tt
lower m n (s ∷ ss) le h = (omega (arith, h.0), lower m n ss le h.1)

low_insert : (n : ℕ) (r : Rec) (ss : List Rec) → n ≤ number_of r → IsLow n ss → IsLow n (insert r ss)
low_insert n r [] le h = (le, tt)
low_insert n r (s ∷ ss) le h = at (nat_lt (number_of s) (number_of r)) (low_insert n r ss le h.1)
  where
    at : (b : Bool) → IsLow n (insert r ss) → IsLow n (if b then s ∷ insert r ss else r ∷ s ∷ ss)
    at true ih = (h.0, ih)
    at false ih = (le, h)

sorted_insert : (r : Rec) (ss : List Rec) → IsSorted ss → IsSorted (insert r ss)
sorted_insert r [] h = (tt, tt)
sorted_insert r (s ∷ ss) h = at (nat_lt (number_of s) (number_of r)) refl (sorted_insert r ss h.1)
  where
    at : (b : Bool) → nat_lt (number_of s) (number_of r) ≡ b → IsSorted (insert r ss) → IsSorted (if b then s ∷ insert r ss else r ∷ s ∷ ss)
    at true e ih = (low_insert (number_of s) r ss (grind (arith, nat_tests)) h.0, ih)
    at false e ih =
        let le : number_of r ≤ number_of s = grind (arith, nat_tests) in
        ((le, lower (number_of r) (number_of s) ss le h.0), h)

pub sorted_ascends : (rs : List Rec) → IsSorted (sorted rs)
sorted_ascends [] = tt
sorted_ascends (r ∷ rs) = sorted_insert r (sorted rs) (sorted_ascends rs)

first_of_low : (p : Rec → Bool) (r : Rec) (ss : List Rec) → IsLow (number_of r) ss → insert r (filter p ss) ≡ r ∷ filter p ss
first_of_low p r [] h = refl
first_of_low p r (s ∷ ss) h =
    let stop : nat_lt (number_of s) (number_of r) ≡ false = grind (arith, nat_tests, h.0) in
    at (p s) (first_of_low p r ss h.1) stop
  where
    at : (b : Bool) → insert r (filter p ss) ≡ r ∷ filter p ss → nat_lt (number_of s) (number_of r) ≡ false
        → insert r (cond b (s ∷ filter p ss) (filter p ss)) ≡ r ∷ cond b (s ∷ filter p ss) (filter p ss)
    at true ih stop = rw stop refl
    at false ih stop = ih

pub filter-insert : (p : Rec → Bool) (r : Rec) (ss : List Rec) → IsSorted ss → filter p (insert r ss) ≡ cond (p r) (insert r (filter p ss)) (filter p ss)
filter-insert p r [] h = refl
filter-insert p r (s ∷ ss) h = at (nat_lt (number_of s) (number_of r)) refl (filter-insert p r ss h.1)
  where
    at : (a : Bool) → nat_lt (number_of s) (number_of r) ≡ a → filter p (insert r ss) ≡ cond (p r) (insert r (filter p ss)) (filter p ss)
        → filter p (if a then s ∷ insert r ss else r ∷ s ∷ ss) ≡ cond (p r) (insert r (filter p (s ∷ ss))) (filter p (s ∷ ss))
    at true e ih = grind (arith, ih, e)
    at false e ih =
        let le : number_of r ≤ number_of s = grind (arith, nat_tests) in
        let low = first_of_low p r (s ∷ ss) (le, lower (number_of r) (number_of s) ss le h.0) in
        grind (arith, low)

pub filter-sorted : (p : Rec → Bool) (rs : List Rec) → filter p (sorted rs) ≡ sorted (filter p rs)
filter-sorted p [] = refl
filter-sorted p (r ∷ rs) = at (p r) (filter-insert p r (sorted rs) (sorted_ascends rs)) (filter-sorted p rs)
  where
    at : (b : Bool) → filter p (insert r (sorted rs)) ≡ cond b (insert r (filter p (sorted rs))) (filter p (sorted rs))
        → filter p (sorted rs) ≡ sorted (filter p rs)
        → filter p (insert r (sorted rs)) ≡ sorted (cond b (r ∷ filter p rs) (filter p rs))
    at true e ih = e ∙ ap (insert r) ih
    at false e ih = e ∙ ih

-- ---- tests

pub any-insert : (p : Rec → Bool) (r : Rec) (ss : List Rec) → any p (insert r ss) ≡ any p (r ∷ ss)
any-insert p r [] = refl
any-insert p r (s ∷ ss) = let ih = any-insert p r ss in grind (arith, nat_tests, ih)

pub any-sorted : (p : Rec → Bool) (rs : List Rec) → any p (sorted rs) ≡ any p rs
any-sorted p [] = refl
any-sorted p (r ∷ rs) = any-insert p r (sorted rs) ∙ ap (λ b. if p r then true else b) (any-sorted p rs)

pub any-append : (p : Rec → Bool) (xs ys : List Rec) → any p xs ≡ false → any p ys ≡ false → any p (xs ++ ys) ≡ false
any-append p [] ys e f = f
any-append p (x ∷ xs) ys e f = let ih = any-append p xs ys in grind (arith, ih)

pub after_last_none : (p : Rec → Bool) (rs : List Rec) → any p rs ≡ false → after_last p rs ≡ rs
after_last_none p [] e = refl
after_last_none p (r ∷ rs) e = grind (arith)

-- ---- kept records behind others, or among them

pub filter-with_kept : (p : Rec → Bool) (b : Bool) (rs kept : List Rec) → filter p (with_kept b rs kept) ≡ with_kept b (filter p rs) (filter p kept)
filter-with_kept p true rs kept = filter-append p (sorted rs) kept ∙ ap (λ xs. xs ++ filter p kept) (filter-sorted p rs)
filter-with_kept p false rs kept = filter-sorted p (rs ++ kept) ∙ ap sorted (filter-append p rs kept)

pub those_of-with_kept : (n : ℕ) (b : Bool) (rs kept : List Rec) → those_of n (with_kept b rs kept) ≡ those_of n rs ++ those_of n kept
those_of-with_kept n true rs kept = filter-append (is_of n) (sorted rs) kept ∙ ap (λ xs. xs ++ those_of n kept) (those_of-sorted n rs)
those_of-with_kept n false rs kept = those_of-sorted n (rs ++ kept) ∙ filter-append (is_of n) rs kept

pub any-with_kept : (p : Rec → Bool) (b : Bool) (rs kept : List Rec) → any p rs ≡ false → any p kept ≡ false → any p (with_kept b rs kept) ≡ false
any-with_kept p true rs kept e f = any-append p (sorted rs) kept (any-sorted p rs ∙ e) f
any-with_kept p false rs kept e f = any-sorted p (rs ++ kept) ∙ any-append p rs kept e f

-- what no record has, the last ones have not
pub none_after : (n : ℕ) (p : Rec → Bool) (rs : List Rec) → those_of n rs ≡ [] → those_of n (after_last p rs) ≡ []
none_after n p [] e = refl
none_after n p (r ∷ rs) e = let ih = none_after n p rs in grind (arith, ih)
