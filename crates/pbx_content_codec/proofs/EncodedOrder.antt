-- Records by ascending number, as code finds them.
use Rattle.std.proofs.Common.{◌≡◌, ℕ, suc, ◌<◌, ◌≤◌, Bool, true, false, List, [], ◌∷◌, length, get_or, nat_lt, refl, sym, ap, ◌∙◌, arith}
use Rattle.std.specs.Prelude.{◌==◌, ◌&&◌, not}
use Rattle.std.specs.List.{filter}
use Rattle.std.specs.List.Sorted.{IsNonDecreasingBy, IsStableByKey}
use Rattle.std.specs.Ordering.{is_lt, nat_cmp}
use Rattle.std.proofs.lemmas.Bool.Decides.{nat_tests}
use Rattle.pbx_wire.specs.declared.rec.Rec.{Rec}
use Rattle.pbx_wire.specs.declared.rec.Rec.TheVariants as rec
use Rattle.pbx_content.specs.Records.{number_of, is_of, those_of, insert, sorted}
use Rattle.pbx_content.proofs.Sorted.{IsLow, IsSorted}
use Rattle.pbx_content.proofs.Alike.{sorted_alike}
use Rattle.pbx_content_codec.specs.Places.{ascend}

insert_first : (r : Rec) (rs : List Rec) → IsLow (number_of r) rs → insert r rs ≡ r ∷ rs
insert_first r [] h = refl
insert_first r (s ∷ ss) h = let stop : nat_lt (number_of s) (number_of r) ≡ false = grind (arith, nat_tests, h.0) in rw stop refl

sorted_same : (rs : List Rec) → IsSorted rs → sorted rs ≡ rs
sorted_same [] h = refl
sorted_same (r ∷ rs) h = ap (insert r) (sorted_same rs h.1) ∙ insert_first r rs h.0

-- ---- found by comparing each with the one before it

lowered : (m n : ℕ) (rs : List Rec) → m ≤ n → IsLow n rs → IsLow m rs
lowered m n [] le h = tt
lowered m n (r ∷ rs) le h = (omega (arith, h.0), lowered m n rs le h.1)

ascend_low : (n : ℕ) (rs : List Rec) → ascend n rs ≡ true → IsLow n rs × IsSorted rs
ascend_low n [] e = (tt, tt)
ascend_low n (r ∷ rs) e = at (nat_lt (number_of r) n) refl e (ascend_low (number_of r) rs)
  where
    at : (b : Bool) → nat_lt (number_of r) n ≡ b → (not b && ascend (number_of r) rs) ≡ true
        → (ascend (number_of r) rs ≡ true → IsLow (number_of r) rs × IsSorted rs)
        → IsLow n (r ∷ rs) × IsSorted (r ∷ rs)
    at true l e ih = absurd cc
    at false l e ih = let t = ih e in let le : n ≤ number_of r = grind (arith, nat_tests) in ((le, lowered n (number_of r) rs le t.0), (t.0, t.1))

pub ascending_is : (rs : List Rec) → ascend 0 rs ≡ true → rs ≡ sorted rs
ascending_is rs e = sym (sorted_same rs (ascend_low 0 rs e).1)

-- ---- sorted by std

low_each : (n : ℕ) (rs : List Rec) → ((k : ℕ) (d : Rec) → k < length rs → n ≤ number_of (get_or rs k d)) → IsLow n rs
low_each n [] h = tt
low_each n (r ∷ rs) h = (h 0 r (omega arith), low_each n rs (λ k d lt. h (suc k) d (omega (arith, lt))))

rising_sorted : (rs : List Rec) → IsNonDecreasingBy number_of rs → IsSorted rs
rising_sorted [] h = tt
rising_sorted (r ∷ rs) h = (
  low_each (number_of r) rs (λ k d lt. h 0 (suc k) d (omega arith) (omega (arith, lt))),
  rising_sorted rs (λ i j d le lt. h (suc i) (suc j) d (omega (arith, le)) (omega (arith, lt))),
)

ties_number : (n m : ℕ) → (not (is_lt (nat_cmp n m)) && not (is_lt (nat_cmp m n))) ≡ (m == n)
ties_number n m = grind (arith, nat_tests)

filter_same : {X : Type 0} (p q : X → Bool) → ((x : X) → p x ≡ q x) → (xs : List X) → filter p xs ≡ filter q xs
filter_same p q e [] = refl
filter_same p q e (x ∷ xs) = rw (e x, filter_same p q e xs) refl

stable_those : (xs ys : List Rec) → IsStableByKey number_of nat_cmp xs ys → (n : ℕ) → those_of n ys ≡ those_of n xs
stable_those xs ys h n =
    let same = λ (rs : List Rec). filter_same _ (is_of n) (λ r. ties_number n (number_of r)) rs in
    sym (same ys) ∙ h (rec.Varint n 0) ∙ same xs

pub stably_sorted : (xs ys : List Rec) → IsNonDecreasingBy number_of ys → IsStableByKey number_of nat_cmp xs ys → ys ≡ sorted xs
stably_sorted xs ys up stays = sym (sorted_same ys (rising_sorted ys up)) ∙ sorted_alike ys xs (stable_those xs ys stays)
