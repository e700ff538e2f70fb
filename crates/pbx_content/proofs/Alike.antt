-- Sorted records are told by their records of each number.
use Rattle.std.proofs.Common.{◌≡◌, ℕ, suc, ◌<◌, ◌≤◌, Bool, true, false, cond, List, [], ◌∷◌, inl, inr, refl, sym, ap, ◌∙◌, arith}
use Rattle.std.proofs.lemmas.Bool.Decides.{nat_tests}
use Rattle.std.proofs.lemmas.Bool.{cases_lt}
use Rattle.pbx_wire.specs.declared.rec.Rec.{Rec}
use Rattle.pbx_content.specs.Records.{number_of, is_of, those_of, sorted}
use Rattle.pbx_content.proofs.Sorted.{IsLow, IsSorted, sorted_ascends, those_of-sorted}

-- no record of a number below all
none_below : (n : ℕ) (rs : List Rec) → IsLow (suc n) rs → those_of n rs ≡ []
none_below n [] h = refl
none_below n (r ∷ rs) h = let apart : is_of n r ≡ false = grind (arith, nat_tests, h.0) in rw apart (none_below n rs h.1)

own_first : (r : Rec) (rs : List Rec) → those_of (number_of r) (r ∷ rs) ≡ r ∷ those_of (number_of r) rs
own_first r rs = let own : is_of (number_of r) r ≡ true = grind (arith, nat_tests) in rw own refl

lowered : (m n : ℕ) (rs : List Rec) → m ≤ n → IsLow n rs → IsLow m rs
lowered m n [] le h = tt
lowered m n (r ∷ rs) le h = (omega (arith, h.0), lowered m n rs le h.1)

-- the least record of one list is in no list whose numbers are all greater
not_below : (r s : Rec) (rs ss : List Rec) → number_of r < number_of s → IsLow (number_of s) ss
    → those_of (number_of r) (r ∷ rs) ≡ those_of (number_of r) (s ∷ ss) → ⊥
not_below r s rs ss lt low e =
    let above : IsLow (suc (number_of r)) (s ∷ ss) = (omega arith, lowered (suc (number_of r)) (number_of s) ss (omega arith) low) in
    let none : those_of (number_of r) (s ∷ ss) ≡ [] = none_below (number_of r) (s ∷ ss) above in
    let bad : r ∷ those_of (number_of r) rs ≡ [] = sym (own_first r rs) ∙ e ∙ none in
    cc

tails : (r : Rec) (rs ss : List Rec) (n : ℕ) → those_of n (r ∷ rs) ≡ those_of n (r ∷ ss) → those_of n rs ≡ those_of n ss
tails r rs ss n e = at (is_of n r) e
  where
    at : (b : Bool) → cond b (r ∷ those_of n rs) (those_of n rs) ≡ cond b (r ∷ those_of n ss) (those_of n ss) → those_of n rs ≡ those_of n ss
    at true e = cc
    at false e = e

-- the rest of two lists whose first records have one number
together : (r s : Rec) (rs ss : List Rec) → number_of r ≡ number_of s → ((n : ℕ) → those_of n (r ∷ rs) ≡ those_of n (s ∷ ss))
    → ((r ≡ s) → ((n : ℕ) → those_of n rs ≡ those_of n ss) → rs ≡ ss) → r ∷ rs ≡ s ∷ ss
together r s rs ss n e rest =
    let firsts : r ∷ those_of (number_of r) rs ≡ s ∷ those_of (number_of s) ss =
    sym (own_first r rs) ∙ e (number_of r) ∙ ap (λ m. those_of m (s ∷ ss)) n ∙ own_first s ss in
    let first : r ≡ s = cc in
    let more : rs ≡ ss = rest first (λ m. tails r rs ss m (e m ∙ ap (λ (x : Rec). those_of m (x ∷ ss)) (sym first))) in
    cc

alike : (rs ss : List Rec) → IsSorted rs → IsSorted ss → ((n : ℕ) → those_of n rs ≡ those_of n ss) → rs ≡ ss
alike [] [] h k e = refl
alike [] (s ∷ ss) h k e = absurd (let bad : [] ≡ s ∷ those_of (number_of s) ss = e (number_of s) ∙ own_first s ss in cc)
alike (r ∷ rs) [] h k e = absurd (let bad : r ∷ those_of (number_of r) rs ≡ [] = sym (own_first r rs) ∙ e (number_of r) in cc)
alike (r ∷ rs) (s ∷ ss) h k e =
    elim (cases_lt (number_of r) (number_of s)) [
      | inl lt ↦ absurd (not_below r s rs ss lt k.0 (e (number_of r)))
      | inr le ↦
          elim (cases_lt (number_of s) (number_of r)) [
            | inl lt ↦ absurd (not_below s r ss rs lt h.0 (sym (e (number_of s))))
            | inr ge ↦ together r s rs ss (omega arith) e (λ first. alike rs ss h.1 k.1)
          ]
    ]

pub sorted_alike : (rs ss : List Rec) → ((n : ℕ) → those_of n rs ≡ those_of n ss) → sorted rs ≡ sorted ss
sorted_alike rs ss e =
    alike (sorted rs) (sorted ss) (sorted_ascends rs) (sorted_ascends ss) (λ n. those_of-sorted n rs ∙ e n ∙ sym (those_of-sorted n ss))

pub alike_sorted : (rs ss : List Rec) → sorted rs ≡ sorted ss → (n : ℕ) → those_of n rs ≡ those_of n ss
alike_sorted rs ss e n = sym (those_of-sorted n rs) ∙ ap (those_of n) e ∙ those_of-sorted n ss
