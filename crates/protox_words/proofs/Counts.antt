-- Digits behind a number that is too large make no smaller one.
use Rattle.std.proofs.Common.{Bool, true, Some, if◌then◌else◌, subst, ◌≡◌, ◌+◌, ◌-◌, ◌*◌, ◌<◌, ◌≤◌, ℕ, suc, List, [], ◌∷◌, ◌&&◌, not, false, nat_lt, length, drop, get_or, fold, None, refl, sym, ap, ◌∙◌, arith, drop-cons}
use Rattle.std.specs.List.{list_all}
use Rattle.std.proofs.lemmas.Bool.Decides.{nat_tests}
use Rattle.protox_words.specs.Words.{digits_value, begins_with_zero, is_digit, count_of}

grows : (n : ℕ) (digits : List ℕ) → n ≤ fold (λ n b. n * 10 + (b - 48)) n digits
grows n [] = omega arith
grows n (b ∷ bs) =
    let more : n * 10 + (b - 48) ≤ fold (λ n b. n * 10 + (b - 48)) (n * 10 + (b - 48)) bs = grows (n * 10 + (b - 48)) bs in
    omega arith

and_false : (b : Bool) → (b && false) ≡ false
and_false true = refl
and_false false = refl

not_below : (n : ℕ) → 2000 < n → nat_lt n 2001 ≡ false
not_below n large = grind (arith, nat_tests)

too_large : (text : List ℕ) → 2000 < digits_value text → count_of text ≡ None
too_large text large =
    ap (λ b. if nat_lt 0 (length text) && nat_lt (length text) 5 && not (begins_with_zero text) && list_all is_digit text && b then Some (digits_value text) else None)
    (not_below (digits_value text) large)
    ∙ ap (λ b. if b then Some (digits_value text) else None)
    (and_false (nat_lt 0 (length text) && nat_lt (length text) 5 && not (begins_with_zero text) && list_all is_digit text))

above : (m n : ℕ) → 2000 < m → m ≤ n → 2000 < n
above m n large more = omega arith

-- a number so far that is too large makes no count
pub passed : (text digits : List ℕ) (i n : ℕ) → digits_value text ≡ fold (λ n b. n * 10 + (b - 48)) n (drop i digits) → i < length digits
    → 2000 < n * 10 + (get_or digits i 0 - 48) → None ≡ count_of text
passed text digits i n value within large =
    let f : ℕ → ℕ → ℕ = λ n b. n * 10 + (b - 48) in
    let next : ℕ = n * 10 + (get_or digits i 0 - 48) in
    let steps : fold f n (drop i digits) ≡ fold f next (drop (suc i) digits) = ap (fold f n) (drop-cons digits i 0 within) in
    let more : next ≤ fold f next (drop (suc i) digits) = grows next (drop (suc i) digits) in
    let P : ℕ → Type 0 = λ v. 2000 < v in
    sym (too_large text (subst P (sym (value ∙ steps)) (above next (fold f next (drop (suc i) digits)) large more)))
