-- Digits of a fraction of a second, read and written.
use Rattle.std.proofs.Common.{◌≡◌, ℕ, zero, suc, ◌+◌, ◌-◌, ◌*◌, ◌<◌, ◌≤◌, ◌^◌, List, [], ◌∷◌, ◌++◌, true, if◌then◌else◌, nat_le, Some, None, length, take, get_or, slice_index, replicate, fold, refl, sym, ◌∙◌, inl, inr, arith, le_refl, add-zero, append-nil, append_assoc, ◌≢◌, ◌/◌, ◌%◌}
use Rattle.std.specs.List.{list_all, prefix_len}
use Rattle.std.proofs.lemmas.Bool.{cases_Bool, cases_lt, lt-leb}
use Rattle.std.proofs.lemmas.Grind.{pow_more}
use Rattle.std.proofs.lemmas.List.{length-append, get_or_append_left, get_or-append_right, get_or-replicate, get_or_past}
use Rattle.std.proofs.lemmas.List.Sums.{fold_more}
use Rattle.pbx_text.specs.Clock.{front_digits}
use Rattle.pbx_text.specs.Decimal.{digits_value, is_digit, padded}

-- more digits spell no smaller number
grows : (n : ℕ) (ds : List ℕ) → n ≤ fold (λ n c. n * 10 + (c - 48)) n ds
grows n [] = omega arith
grows n (c ∷ cs) = omega (arith, grows (n * 10 + (c - 48)) cs)

pub too_large : (number max whole : ℕ) (rest : List ℕ) → fold (λ n c. n * 10 + (c - 48)) number rest ≡ whole → 1 ≤ length rest
    → max < number * 10 + (slice_index rest 0 - 48) → None ≡ (if nat_le whole max then Some whole else None)
too_large number max whole [] is some past = absurd (omega arith)
too_large number max whole (c ∷ cs) is some past =
    let beyond : max < whole = omega (arith, is, grows (number * 10 + (c - 48)) cs) in
    rw (lt-leb whole max beyond) refl

-- the digits at the front are digits
front_are_digits : (text : List ℕ) (n : ℕ) → prefix_len is_digit text ≡ n → list_all is_digit (take n text) ≡ true
front_are_digits [] n is = rw (← is) refl
front_are_digits (c ∷ cs) n is = elim (cases_Bool (is_digit c)) [
  | inl h ↦
      let next : 1 + prefix_len is_digit cs ≡ suc (prefix_len is_digit cs) = omega arith in
      rw (← is, h, next, h) (front_are_digits cs (prefix_len is_digit cs) refl)
  | inr h ↦ rw (← is, h) refl
]

pub front_digits_are : (text : List ℕ) → list_all is_digit (front_digits text) ≡ true
front_digits_are text = front_are_digits text (prefix_len is_digit text) refl

-- a digit of nine, where zeros follow
padded_digit : (ds : List ℕ) (i : ℕ) → i < 9 → get_or (ds ++ replicate 9 48) i 48 ≡ get_or ds i 48
padded_digit ds i h = elim (cases_lt i (length ds)) [
  | inl inside ↦ get_or_append_left ds (replicate 9 48) 48 i inside
  | inr past ↦
      get_or-append_right ds (replicate 9 48) (length ds) i 48 refl past
      ∙ get_or-replicate 9 (i - length ds) 48 48 (omega arith)
      ∙ sym (get_or_past ds i 48 past)
]

pub nanos_more : (ds : List ℕ) (i nanos digit : ℕ) → i < 9 → nanos ≡ digits_value (take i (ds ++ replicate 9 48)) → digit + 48 ≡ get_or ds i 48
    → nanos * 10 + digit ≡ digits_value (take (i + 1) (ds ++ replicate 9 48))
nanos_more ds i nanos digit h is at =
    let long : i < length (ds ++ replicate 9 48) = omega (arith, length-append ds (replicate 9 48)) in
    let here : digit ≡ get_or (ds ++ replicate 9 48) i 48 - 48 = omega (arith, at, padded_digit ds i h) in
    rw (fold_more (λ n c. n * 10 + (c - 48)) 0 (ds ++ replicate 9 48) i 48 long, is, here) refl

pub nanos_below : (nanos digit i : ℕ) → nanos < 10 ^ i → digit ≤ 9 → nanos * 10 + digit < 10 ^ (i + 1)
nanos_below nanos digit i h d = omega (arith, h, d, pow_more 10 i)

-- less than nine digits are less than nine nines
power_up : (k i : ℕ) → 10 ^ i ≤ 10 ^ (i + k)
power_up zero i = rw (add-zero i) (le_refl (10 ^ i))
power_up (suc k) i =
    let next : i + suc k ≡ i + k + 1 = omega arith in
    rw next (omega (arith, power_up k i, pow_more 10 (i + k)))

pub power_small : (i : ℕ) → i < 9 → 10 ^ i ≤ 100000000
power_small i h =
    let whole : i + (8 - i) ≡ 8 = omega arith in
    let up : 10 ^ i ≤ 10 ^ (i + (8 - i)) = power_up (8 - i) i in
    rw whole at up

-- padded digits, the last one behind the others
pub padded_none : (w n : ℕ) (text : List ℕ) → w ≡ 0 → text ≡ text ++ padded w n
unfolding padded
padded_none w n text is = rw (is, append-nil text) refl

pub padded_more : (w n : ℕ) (text : List ℕ) → w ≢ 0 → (text ++ padded (w - 1) (n / 10)) ++ (48 + n % 10) ∷ [] ≡ text ++ padded w n
unfolding padded
padded_more zero n text some = absurd (some refl)
padded_more (suc w) n text some =
    let less : suc w - 1 ≡ w = omega arith in
    rw less (append_assoc text (padded w (n / 10)) ((48 + n % 10) ∷ []))
