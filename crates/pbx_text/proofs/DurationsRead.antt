-- What is written of a duration reads as the duration.
use Rattle.std.proofs.Common.{◌≡◌, ℕ, zero, suc, ◌+◌, ◌-◌, ◌*◌, ◌/◌, ◌%◌, ◌^◌, ◌<◌, ◌==◌, ◌&&◌, List, [], ◌∷◌, ◌++◌, length, take, drop, replicate, fold, Bool, true, false, ℤ, pos, negsuc, neg_ℤ, int_le, unsigned_abs, nat_le, Some, option_map, option_and_then, codes, decimal, refl, ap, ◌∙◌, inl, inr, arith, append_assoc, rules}
use Rattle.std.specs.List.{list_all, prefix_len}
use Rattle.std.proofs.lemmas.Bool.{cases_Bool, eqb-true, le-leb}
use Rattle.std.proofs.lemmas.Fmt.{decimal_nonempty, digits_decimal}
use Rattle.std.proofs.lemmas.Bool.Decides.{nat_tests}
use Rattle.std.proofs.lemmas.Grind.{pow_more}
use Rattle.std.proofs.lemmas.List.{drop_at, length-append, take_at}
use Rattle.std.proofs.lemmas.List.Folds.{list_all-append}
use Rattle.std.proofs.lemmas.List.Sums.{fold-append}
use Rattle.pbx_text.specs.Decimal.{digits_value, is_digit, natural_of, padded}
use Rattle.pbx_text.specs.Clock.{after_digits, dotted, fraction_of, fraction_text, front_digits, nanos_of_digits}
use Rattle.pbx_text.specs.Duration.{duration_of, duration_text, is_duration_second, length_of, nanos_before_s, negated, sign_text, signs_agree}
use Rattle.pbx_text.proofs.Decimals.{digits_model, natural_reads}

-- digits in front of a text that begins with none
prefix_of : (ds rest : List ℕ) → list_all is_digit ds ≡ true → prefix_len is_digit rest ≡ 0 → prefix_len is_digit (ds ++ rest) ≡ length ds
prefix_of [] rest all none = none
prefix_of (d ∷ ds) rest all none = elim (cases_Bool (is_digit d)) [
  | inl h ↦ rw h (omega (arith, prefix_of ds rest (rw h at all) none))
  | inr h ↦ cc (rw h at all)
]

front_of : (ds rest : List ℕ) → list_all is_digit ds ≡ true → prefix_len is_digit rest ≡ 0 → front_digits (ds ++ rest) ≡ ds
front_of ds rest all none = ap (λ n. take n (ds ++ rest)) (prefix_of ds rest all none) ∙ take_at ds rest (length ds) refl

after_of : (ds rest : List ℕ) → list_all is_digit ds ≡ true → prefix_len is_digit rest ≡ 0 → after_digits (ds ++ rest) ≡ rest
after_of ds rest all none = ap (λ xs. drop (length xs) (ds ++ rest)) (front_of ds rest all none) ∙ drop_at ds rest (length ds) refl

-- what is padded are digits, so many, and spells the number
digit_is : (n : ℕ) → is_digit (48 + n % 10) ≡ true
digit_is n =
    let low : nat_le 48 (48 + n % 10) ≡ true = le-leb 48 (48 + n % 10) (omega arith) in
    let high : nat_le (48 + n % 10) 57 ≡ true = le-leb (48 + n % 10) 57 (omega arith) in
    rw (low, high) refl

padded_digits : (w n : ℕ) → list_all is_digit (padded w n) ≡ true
unfolding padded
padded_digits zero n = refl
padded_digits (suc w) n = rw (list_all-append is_digit (padded w (n / 10)) ((48 + n % 10) ∷ []), padded_digits w (n / 10), digit_is n) refl

padded_length : (w n : ℕ) → length (padded w n) ≡ w
unfolding padded
padded_length zero n = refl
padded_length (suc w) n = omega (arith, length-append (padded w (n / 10)) ((48 + n % 10) ∷ []), padded_length w (n / 10))

abbrev then_digit : ℕ → ℕ → ℕ
then_digit n c = n * 10 + (c - 48)

padded_value : (w n : ℕ) → n < 10 ^ w → digits_value (padded w n) ≡ n
unfolding padded
padded_value zero n h = omega arith
padded_value (suc w) n h =
    let next : suc w ≡ w + 1 = omega arith in
    let more : 10 ^ suc w ≡ 10 ^ w * 10 = ap (λ k. 10 ^ k) next ∙ pow_more 10 w in
    let before : digits_value (padded w (n / 10)) ≡ n / 10 = padded_value w (n / 10) (omega (arith, more)) in
    fold-append then_digit 0 (padded w (n / 10)) ((48 + n % 10) ∷ []) ∙ ap (λ k. k * 10 + (48 + n % 10 - 48)) before ∙ omega arith

take_over : (ds xs : List ℕ) (k : ℕ) → take (length ds + k) (ds ++ xs) ≡ ds ++ take k xs
take_over [] xs k =
    let same : length {A = ℕ} [] + k ≡ k = omega arith in
    ap (λ n. take n xs) same
take_over (d ∷ ds) xs k =
    let next : length (d ∷ ds) + k ≡ suc (length ds + k) = omega arith in
    ap (λ n. take n (d ∷ ds ++ xs)) next ∙ ap (λ ys. d ∷ ys) (take_over ds xs k)

shown : (w k m : ℕ) → w + k ≡ 9 → m < 10 ^ w → nanos_of_digits (padded w m) ≡ fold then_digit m (take k (replicate 9 48))
shown w k m whole h =
    let nine : 9 ≡ length (padded w m) + k = omega (arith, padded_length w m, whole) in
    ap (λ n. digits_value (take n (padded w m ++ replicate 9 48))) nine
    ∙ ap (λ ds. digits_value ds) (take_over (padded w m) (replicate 9 48) k)
    ∙ fold-append then_digit 0 (padded w m) (take k (replicate 9 48))
    ∙ ap (λ n. fold then_digit n (take k (replicate 9 48))) (padded_value w m h)

three : (m : ℕ) → m < 1000 → nanos_of_digits (padded 3 m) ≡ m * 1000000
three m h = shown 3 6 m refl h ∙ omega arith

six : (m : ℕ) → m < 1000000 → nanos_of_digits (padded 6 m) ≡ m * 1000
six m h = shown 6 3 m refl h ∙ omega arith

nine : (m : ℕ) → m < 1000000000 → nanos_of_digits (padded 9 m) ≡ m
nine m h = shown 9 0 m refl h

-- the fraction that is written, before what is no digit and no `.`
dotted_is : (ds rest : List ℕ) → 0 < length ds → dotted ds rest ≡ Some (nanos_of_digits ds, rest)
dotted_is [] rest some = absurd (omega arith)
dotted_is (d ∷ ds) rest some = refl

dotted_back : (w m n c : ℕ) (cs : List ℕ) → 0 < w → nanos_of_digits (padded w m) ≡ n → is_digit c ≡ false
    → fraction_of (46 ∷ padded w m ++ c ∷ cs) ≡ Some (n, c ∷ cs)
dotted_back w m n c cs some is other =
    let none : prefix_len is_digit (c ∷ cs) ≡ 0 = rw other refl in
    let digits = padded_digits w m in
    let long : 0 < length (padded w m) = omega (arith, padded_length w m) in
    ap (λ ds. dotted ds (after_digits (padded w m ++ c ∷ cs))) (front_of (padded w m) (c ∷ cs) digits none)
    ∙ ap (λ rest. dotted (padded w m) rest) (after_of (padded w m) (c ∷ cs) digits none)
    ∙ dotted_is (padded w m) (c ∷ cs) long
    ∙ ap (λ k. Some (k, c ∷ cs)) is

pub fraction_back : (n c : ℕ) (cs : List ℕ) → n < 1000000000 → is_digit c ≡ false → (c == 46) ≡ false
    → fraction_of (fraction_text n ++ c ∷ cs) ≡ Some (n, c ∷ cs)
fraction_back n c cs h other dot = elim (cases_Bool (n == 0)) [
  | inl none ↦ rw (none, dot, eqb-true n 0 none) refl
  | inr some ↦ elim (cases_Bool (n % 1000000 == 0)) [
    | inl millis ↦
        let rest : n % 1000000 ≡ 0 = eqb-true (n % 1000000) 0 millis in
        rw (some, millis) (dotted_back 3 (n / 1000000) n c cs (omega arith) (three (n / 1000000) (omega arith) ∙ omega arith) other)
    | inr no_millis ↦ elim (cases_Bool (n % 1000 == 0)) [
      | inl micros ↦
          let rest : n % 1000 ≡ 0 = eqb-true (n % 1000) 0 micros in
          rw (some, no_millis, micros) (dotted_back 6 (n / 1000) n c cs (omega arith) (six (n / 1000) (omega arith) ∙ omega arith) other)
      | inr no_micros ↦ rw (some, no_millis, no_micros) (dotted_back 9 n n c cs (omega arith) (nine n h) other)
    ]
  ]
]

-- and it begins with no digit
fraction_begins : (n c : ℕ) (cs : List ℕ) → is_digit c ≡ false → prefix_len is_digit (fraction_text n ++ c ∷ cs) ≡ 0
fraction_begins n c cs other = elim (cases_Bool (n == 0)) [
  | inl none ↦ rw (none, other) refl
  | inr some ↦ elim (cases_Bool (n % 1000000 == 0)) [
    | inl millis ↦ rw (some, millis) refl
    | inr no_millis ↦ elim (cases_Bool (n % 1000 == 0)) [
      | inl micros ↦ rw (some, no_millis, micros) refl
      | inr no_micros ↦ rw (some, no_millis, no_micros) refl
    ]
  ]
]

length_of_parts : (text digits behind : List ℕ) (s n : ℕ) → front_digits text ≡ digits → after_digits text ≡ behind → natural_of digits ≡ Some s
    → option_and_then nanos_before_s (fraction_of behind) ≡ Some n → length_of text ≡ Some (s, n)
length_of_parts text digits behind s n front back natural fraction = rw (back, front, natural, fraction) refl

length_back : (s n : ℕ) → s < 2 ^ 64 → n < 1000000000 → length_of (decimal s ++ (fraction_text n ++ codes "s")) ≡ Some (s, n)
length_back s n h small =
    let rest : List ℕ = fraction_text n ++ codes "s" in
    let none : prefix_len is_digit rest ≡ 0 = fraction_begins n 115 [] refl in
    let digits = digits_decimal digits_model s h in
    length_of_parts (decimal s ++ rest) (decimal s) rest s n (front_of (decimal s) rest digits none) (after_of (decimal s) rest digits none)
    (natural_reads s h) (ap (λ o. option_and_then nanos_before_s o) (fraction_back n 115 [] small refl refl))

-- digits begin with no `-`
plain_of : (ds rest : List ℕ) → list_all is_digit ds ≡ true → 0 < length ds
    → duration_of (ds ++ rest) ≡ option_map (λ t. (pos t.0, pos t.1)) (length_of (ds ++ rest))
unfolding duration_of
plain_of [] rest all some = absurd (omega arith)
plain_of (d ∷ ds) rest all some = elim (cases_Bool (d == 45)) [
  | inl h ↦ cc (rw (eqb-true d 45 h) at all)
  | inr h ↦ rw h refl
]

minus_of : (cs : List ℕ) → duration_of (45 ∷ cs) ≡ option_map negated (length_of cs)
unfolding duration_of
minus_of cs = refl

written_plain : (s n : ℕ) → s < 2 ^ 64 → n < 1000000000 → duration_of (decimal s ++ (fraction_text n ++ codes "s")) ≡ Some (pos s, pos n)
written_plain s n h small =
    plain_of (decimal s) (fraction_text n ++ codes "s") (digits_decimal digits_model s h) (decimal_nonempty s h)
    ∙ ap (λ o. option_map (λ t. (pos t.0, pos t.1)) o) (length_back s n h small)

written_minus : (s n : ℕ) → s < 2 ^ 64 → n < 1000000000
    → duration_of (45 ∷ (decimal s ++ (fraction_text n ++ codes "s"))) ≡ Some (neg_ℤ (pos s), neg_ℤ (pos n))
written_minus s n h small =
    minus_of (decimal s ++ (fraction_text n ++ codes "s")) ∙ ap (λ o. option_map negated o) (length_back s n h small)

-- what is known of numbers that are written
both : (a b : Bool) → (a && b) ≡ true → (a ≡ true) × (b ≡ true)
both true b h = (refl, h)
both false b h = cc h

abbrev IsDuration : ℤ → ℤ → Type 0
IsDuration seconds nanos = (is_duration_second seconds && nat_le (unsigned_abs nanos) 999999999 && signs_agree seconds nanos) ≡ true

abbrev whole_text : ℤ → ℤ → List ℕ
whole_text seconds nanos = sign_text seconds nanos ++ (decimal (unsigned_abs seconds) ++ (fraction_text (unsigned_abs nanos) ++ codes "s"))

grouped : (a b c d : List ℕ) → a ++ b ++ c ++ d ≡ a ++ (b ++ (c ++ d))
grouped a b c d = append_assoc (a ++ b) c d ∙ append_assoc a b (c ++ d)

fits_of : (seconds nanos : ℤ) (text : List ℕ) → duration_text seconds nanos ≡ Some text → IsDuration seconds nanos
unfolding duration_text
fits_of seconds nanos text e = elim (cases_Bool (is_duration_second seconds && nat_le (unsigned_abs nanos) 999999999 && signs_agree seconds nanos)) [
  | inl h ↦ h
  | inr h ↦ cc (rw h at e)
]

text_is : (seconds nanos : ℤ) (text : List ℕ) → duration_text seconds nanos ≡ Some text → text ≡ whole_text seconds nanos
unfolding duration_text
text_is seconds nanos text e =
    let written : text ≡ sign_text seconds nanos ++ decimal (unsigned_abs seconds) ++ fraction_text (unsigned_abs nanos) ++ codes "s" =
    cc (rw (fits_of seconds nanos text e) at e) in
    written ∙ grouped (sign_text seconds nanos) (decimal (unsigned_abs seconds)) (fraction_text (unsigned_abs nanos)) (codes "s")

seconds_low : (seconds nanos : ℤ) → IsDuration seconds nanos → unsigned_abs seconds < 2 ^ 64
seconds_low seconds nanos h =
    let low : nat_le (unsigned_abs seconds) 315576000000 ≡ true = (both _ _ (both _ _ h).0).0 in
    grind (arith, nat_tests, low)

nanos_low : (seconds nanos : ℤ) → IsDuration seconds nanos → unsigned_abs nanos < 1000000000
nanos_low seconds nanos h =
    let low : nat_le (unsigned_abs nanos) 999999999 ≡ true = (both _ _ (both _ _ h).0).1 in
    grind (arith, nat_tests, low)

zero_le : (n : ℕ) → int_le (pos 0) (pos n) ≡ true
zero_le n = search rules

read_whole : (seconds nanos : ℤ) → IsDuration seconds nanos → duration_of (whole_text seconds nanos) ≡ Some (seconds, nanos)
read_whole (pos s) (pos n) h =
    rw (zero_le s, zero_le n) (written_plain s n (seconds_low (pos s) (pos n) h) (nanos_low (pos s) (pos n) h))
read_whole (negsuc s) (negsuc n) h = written_minus (suc s) (suc n) (seconds_low (negsuc s) (negsuc n) h) (nanos_low (negsuc s) (negsuc n) h)
read_whole (pos zero) (negsuc n) h = written_minus 0 (suc n) (seconds_low (pos 0) (negsuc n) h) (nanos_low (pos 0) (negsuc n) h)
read_whole (negsuc s) (pos zero) h = written_minus (suc s) 0 (seconds_low (negsuc s) (pos 0) h) (nanos_low (negsuc s) (pos 0) h)
read_whole (pos (suc s)) (negsuc n) h =
    let agree : signs_agree (pos (suc s)) (negsuc n) ≡ true = (both _ _ h).1 in
    absurd (search (rules, agree))
read_whole (negsuc s) (pos (suc n)) h =
    let agree : signs_agree (negsuc s) (pos (suc n)) ≡ true = (both _ _ h).1 in
    absurd (search (rules, agree))

pub durations_read : (seconds nanos : ℤ) (text : List ℕ) → duration_text seconds nanos ≡ Some text → duration_of text ≡ Some (seconds, nanos)
durations_read seconds nanos text e = ap duration_of (text_is seconds nanos text e) ∙ read_whole seconds nanos (fits_of seconds nanos text e)
