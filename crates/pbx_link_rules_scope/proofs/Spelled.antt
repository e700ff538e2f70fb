-- Numbers that decimal digits spell, digit by digit.
use Rattle.std.proofs.Common.{◌≡◌, ◌∙◌, ℕ, ◌+◌, ◌-◌, ◌*◌, ◌^◌, ◌<◌, ◌≤◌, Bool, true, false, List, [], ◌∷◌, length, drop, get_or, refl, ap, sym, arith}
use Rattle.std.specs.Prelude.{Option, Some, None, nat_lt, ◌&&◌, if◌then◌else◌, option_and_then}
use Rattle.std.specs.List.{fold, list_all}
use Rattle.std.proofs.lemmas.Bool.Decides.{nat_tests}
use Rattle.std.proofs.lemmas.List.{at_drop_more, at_drop_all}
use Rattle.pbx_parse_token.specs.Bytes.{is_digit}
use Rattle.pbx_link_rules_scope.specs.Defaults.{digits_value}
use Rattle.pbx_link_rules_scope.specs.Digits.{with_digit, small}

-- the number that digits spell behind those of a number
abbrev pub digits_from : ℕ → List ℕ → ℕ
digits_from n bs = fold (λ n b. n * 10 + (b - 48)) n bs

-- the same of what may be no digits, if it is below 2^64
abbrev pub spelled : ℕ → List ℕ → Option ℕ
spelled n bs = if list_all is_digit bs then small (Some (digits_from n bs)) else None

grows : (n : ℕ) (bs : List ℕ) → n ≤ digits_from n bs
grows n [] = omega arith
grows n (b ∷ bs) = omega (arith, grows (n * 10 + (b - 48)) bs)

too_large : (n : ℕ) (bs : List ℕ) → nat_lt n (2 ^ 64) ≡ false → spelled n bs ≡ None
too_large n bs h = at (list_all is_digit bs) (nat_lt (digits_from n bs) (2 ^ 64)) refl
  where
    at : (a c : Bool) → nat_lt (digits_from n bs) (2 ^ 64) ≡ c → (if a then (if c then Some (digits_from n bs) else None) else None) ≡ None
    at false c e = refl
    at true false e = refl
    at true true e = absurd (let more = grows n bs in grind (arith, nat_tests))

-- one digit more
step : (n b : ℕ) (bs : List ℕ) → spelled n (b ∷ bs) ≡ option_and_then (λ m. spelled m bs) (with_digit n b)
step n b bs = at (is_digit b) (nat_lt (n * 10 + (b - 48)) (2 ^ 64)) refl
  where
    at : (a c : Bool) → nat_lt (n * 10 + (b - 48)) (2 ^ 64) ≡ c
        → (if a && list_all is_digit bs then small (Some (digits_from (n * 10 + (b - 48)) bs)) else None)
        ≡ option_and_then (λ m. spelled m bs) (if a && c then Some (n * 10 + (b - 48)) else None)
    at false c e = refl
    at true true e = refl
    at true false e = too_large (n * 10 + (b - 48)) bs e

-- all digits, if there is one
pub spelled_all : (bs : List ℕ) → 0 < length bs → spelled 0 (drop 0 bs) ≡ small (digits_value bs)
spelled_all [] lt = absurd (omega arith)
spelled_all (b ∷ bs) lt = at (list_all is_digit (b ∷ bs))
  where
    at : (a : Bool) → (if a then small (Some (digits_from 0 (b ∷ bs))) else None) ≡ small (if a then Some (digits_from 0 (b ∷ bs)) else None)
    at true = refl
    at false = refl

module _ (n : ℕ) (bs : List ℕ) (i b : ℕ) (within : i < length bs) (is : b ≡ get_or bs i 0) (all : Option ℕ) (so_far : spelled n (drop i bs) ≡ all)
    (o : Option ℕ) (said : o ≡ with_digit n b) where
  left : all ≡ option_and_then (λ m. spelled m (drop (i + 1) bs)) o
  left =
      sym so_far ∙ at_drop_more (spelled n) bs i 0 within ∙ ap (λ d. spelled n (d ∷ drop (i + 1) bs)) (sym is) ∙ step n b (drop (i + 1) bs)
      ∙ ap (λ (r : Option ℕ). option_and_then (λ m. spelled m (drop (i + 1) bs)) r) (sym said)

  pub spelled_next : (m : ℕ) → o ≡ Some m → spelled m (drop (i + 1) bs) ≡ all
  spelled_next m e = sym (left ∙ ap (λ (r : Option ℕ). option_and_then (λ m. spelled m (drop (i + 1) bs)) r) e)

  pub spelled_none : o ≡ None → None ≡ all
  spelled_none e = sym (left ∙ ap (λ (r : Option ℕ). option_and_then (λ m. spelled m (drop (i + 1) bs)) r) e)

pub spelled_done : (n : ℕ) (bs : List ℕ) (i : ℕ) (all : Option ℕ) → length bs ≤ i → n < 2 ^ 64 → spelled n (drop i bs) ≡ all → Some n ≡ all
spelled_done n bs i all done fits so_far = at (nat_lt n (2 ^ 64)) refl ∙ sym (at_drop_all (spelled n) bs i done) ∙ so_far
  where
    at : (c : Bool) → nat_lt n (2 ^ 64) ≡ c → Some n ≡ (if c then Some n else None)
    at true e = refl
    at false e = absurd (grind (arith, nat_tests))

-- what is spelled so far stays below 2^64
pub digit_fits : (n b : ℕ) (o : Option ℕ) → o ≡ with_digit n b → (m : ℕ) → o ≡ Some m → m < 2 ^ 64
digit_fits n b o said m e = at (is_digit b) (nat_lt (n * 10 + (b - 48)) (2 ^ 64)) refl (sym said ∙ e)
  where
    at : (a c : Bool) → nat_lt (n * 10 + (b - 48)) (2 ^ 64) ≡ c → (if a && c then Some (n * 10 + (b - 48)) else None) ≡ Some m → m < 2 ^ 64
    at true true k h =
        let same : n * 10 + (b - 48) ≡ m = cc in
        let small : n * 10 + (b - 48) < 2 ^ 64 = grind (arith, nat_tests, k) in
        omega (arith, same, small)
    at true false k h = absurd (cc)
    at false c k h = absurd (cc)
