-- Numbers of fields, as tests for one number.
use Rattle.std.proofs.Common.{◌≡◌, ◌∙◌, ℕ, ℤ, pos, negsuc, ◌==◌, not, Bool, true, false, Option, Some, None, refl, ap, arith}
use Rattle.std.proofs.lemmas.Bool.Decides.{nat_tests}
use Rattle.pbx_link_definitions.specs.Says.{is_number, are_equal, number_or_zero}
use Rattle.pbx_link_definitions.specs.Ranges.{is_field_number}
use Rattle.pbx_link_meaning.proofs.Lists.{equal_is}

flipped : (m n : ℕ) → (m == n) ≡ (n == m)
flipped m n = at (m == n) (n == m) refl refl
  where
    at : (a b : Bool) → (m == n) ≡ a → (n == m) ≡ b → a ≡ b
    at true true p q = refl
    at false false p q = refl
    at true false p q = absurd (let same = equal_is m n p in cc)
    at false true p q = absurd (let same = equal_is n m q in cc)

-- of a number that a field may have
pub fit_number : (o : Option ℤ) (n : ℕ) → not (is_field_number o) ≡ false → (n == number_or_zero o) ≡ is_number o n
fit_number None n h = absurd (cc)
fit_number (Some (negsuc m)) n h = absurd (cc)
fit_number (Some (pos m)) n h = flipped n m

pub number_is : (o : Option ℤ) (n : ℕ) → is_number o n ≡ true → o ≡ Some (pos n)
number_is None n h = absurd (cc)
number_is (Some (negsuc m)) n h = absurd (cc)
number_is (Some (pos m)) n h = ap (λ (k : ℕ). Some (pos k)) (equal_is m n h)

pub equal_is_number : (o : Option ℤ) (n : ℕ) → are_equal o (Some (pos n)) ≡ is_number o n
equal_is_number None n = refl
equal_is_number (Some (negsuc m)) n = refl
equal_is_number (Some (pos m)) n = grind (arith, nat_tests)

pub equal_numbers : (o p : Option ℤ) (n : ℕ) → is_number o n ≡ true → is_number p n ≡ true → are_equal o p ≡ true
equal_numbers o p n h g = ap (are_equal o) (number_is p n g) ∙ equal_is_number o n ∙ h
