-- Padded digits of two and four places: the marks of a picture that they fit, and the number that they spell.
use Rattle.std.proofs.Common.{◌≡◌, ℕ, ◌+◌, ◌/◌, ◌%◌, ◌<◌, List, ◌∷◌, ◌++◌, nat_le, true, refl, arith}
use Rattle.std.proofs.lemmas.Bool.{le-leb}
use Rattle.pbx_text.specs.Decimal.{digits_value, is_digit, padded}
use Rattle.pbx_text.specs.Clock.{fits_picture}

digit_is : (n : ℕ) → is_digit (48 + n % 10) ≡ true
digit_is n =
    let low : nat_le 48 (48 + n % 10) ≡ true = le-leb 48 (48 + n % 10) (omega arith) in
    let high : nat_le (48 + n % 10) 57 ≡ true = le-leb (48 + n % 10) 57 (omega arith) in
    rw (low, high) refl

pub two_fit : (n : ℕ) (ms cs : List ℕ) → fits_picture (48 ∷ 48 ∷ ms) (padded 2 n ++ cs) ≡ fits_picture ms cs
unfolding padded
two_fit n ms cs = rw (digit_is (n / 10), digit_is n) refl

pub four_fit : (n : ℕ) (ms cs : List ℕ) → fits_picture (48 ∷ 48 ∷ 48 ∷ 48 ∷ ms) (padded 4 n ++ cs) ≡ fits_picture ms cs
unfolding padded
four_fit n ms cs = rw (digit_is (n / 10 / 10 / 10), digit_is (n / 10 / 10), digit_is (n / 10), digit_is n) refl

pub two_value : (n : ℕ) → n < 100 → digits_value (padded 2 n) ≡ n
unfolding padded
two_value n h = omega arith

pub four_value : (n : ℕ) → n < 10000 → digits_value (padded 4 n) ≡ n
unfolding padded
four_value n h = omega arith
