-- Duration texts, read behind their sign, and written.
use Rattle.std.proofs.Common.{◌≡◌, ◌≢◌, ◌⊎◌, ℕ, zero, suc, ◌<◌, ◌≤◌, ◌&&◌, List, [], ◌∷◌, ◌++◌, length, drop, slice_index, true, false, if◌then◌else◌, nat_le, ℤ, pos, neg_ℤ, unsigned_abs, Option, Some, None, option_map, option_and_then, Result, Ok, Err, codes, decimal, refl, inl, inr, arith}
use Rattle.std.proofs.lemmas.Bool.{cases_Bool, ne_eqb}
use Rattle.pbx_text.specs.Decimal.{and_then, digits_value, natural_of, or_form}
use Rattle.pbx_text.specs.Clock.{after_digits, fraction_of, fraction_text, front_digits}
use Rattle.pbx_text.specs.Duration.{duration_of, duration_read, duration_text, duration_written, is_duration_second, length_of, nanos_before_s, negated, sign_text, signs_agree}
use Rattle.pbx_text.proofs.Clocks.{front_digits_are}
use Rattle.pbx_text.proofs.Decimals.{natural_is}
use Rattle.pbx_text.specs.declared.fault.TextFault.{TextFault}
use Rattle.pbx_text.specs.declared.fault.TextFault.TheVariants.{Form, Range}

-- what stands behind the sign, where its seconds are not too many
abbrev pub limited : Option (ℕ × ℕ) → Result (ℕ × ℕ) TextFault
limited o = and_then (or_form o) (λ t. if nat_le t.0 315576000000 then Ok t else Err Range)

-- what a whole text says, by what stands behind its sign
abbrev answered : Option (ℤ × ℤ) → Result (ℤ × ℤ) TextFault
answered o = and_then (or_form o) (λ t. if is_duration_second t.0 then Ok t else Err Range)

abs_neg : (n : ℕ) → unsigned_abs (neg_ℤ (pos n)) ≡ n
abs_neg zero = refl
abs_neg (suc n) = refl

minus_ok_of : (o : Option (ℕ × ℕ)) (t : ℕ × ℕ) → Ok t ≡ limited o → Ok (negated t) ≡ answered (option_map negated o)
minus_ok_of None t h = cc h
minus_ok_of (Some u) t h = elim (cases_Bool (nat_le u.0 315576000000)) [
  | inl low ↦
      let same : t ≡ u = cc (rw low at h) in
      rw (abs_neg u.0, low, same) refl
  | inr high ↦ cc (rw high at h)
]

minus_err_of : (o : Option (ℕ × ℕ)) (e : TextFault) → Err e ≡ limited o → Err e ≡ answered (option_map negated o)
minus_err_of None e h =
    let same : e ≡ Form = cc h in
    rw same refl
minus_err_of (Some u) e h = elim (cases_Bool (nat_le u.0 315576000000)) [
  | inl low ↦ cc (rw low at h)
  | inr high ↦
      let same : e ≡ Range = cc (rw high at h) in
      rw (abs_neg u.0, high, same) refl
]

plain_ok_of : (o : Option (ℕ × ℕ)) (t : ℕ × ℕ) → Ok t ≡ limited o → Ok (pos t.0, pos t.1) ≡ answered (option_map (λ t. (pos t.0, pos t.1)) o)
plain_ok_of None t h = cc h
plain_ok_of (Some u) t h = elim (cases_Bool (nat_le u.0 315576000000)) [
  | inl low ↦
      let same : t ≡ u = cc (rw low at h) in
      rw (low, same) refl
  | inr high ↦ cc (rw high at h)
]

plain_err_of : (o : Option (ℕ × ℕ)) (e : TextFault) → Err e ≡ limited o → Err e ≡ answered (option_map (λ t. (pos t.0, pos t.1)) o)
plain_err_of None e h =
    let same : e ≡ Form = cc h in
    rw same refl
plain_err_of (Some u) e h = elim (cases_Bool (nat_le u.0 315576000000)) [
  | inl low ↦ cc (rw low at h)
  | inr high ↦
      let same : e ≡ Range = cc (rw high at h) in
      rw (high, same) refl
]

abbrev NoMinus : List ℕ → Type 0
NoMinus text = (length text < 1) ⊎ (slice_index text 0 ≢ 45)

behind_minus : (text : List ℕ) → 1 ≤ length text → slice_index text 0 ≡ 45 → duration_of text ≡ option_map negated (length_of (drop 1 text))
unfolding duration_of
behind_minus [] some is = absurd (omega arith)
behind_minus (c ∷ cs) some is = rw is refl

without_minus : (text : List ℕ) → NoMinus text → duration_of text ≡ option_map (λ t. (pos t.0, pos t.1)) (length_of text)
unfolding duration_of
without_minus [] why = refl
without_minus (c ∷ cs) (inl none) = absurd (omega arith)
without_minus (c ∷ cs) (inr other) = rw (ne_eqb c 45 other) refl

pub minus_ok : (text : List ℕ) (t : ℕ × ℕ) → 1 ≤ length text → slice_index text 0 ≡ 45 → Ok t ≡ limited (length_of (drop 1 text)) → Ok (negated t) ≡ duration_read text
minus_ok text t some is read = rw (behind_minus text some is) (minus_ok_of (length_of (drop 1 text)) t read)

pub minus_err : (text : List ℕ) (e : TextFault) → 1 ≤ length text → slice_index text 0 ≡ 45 → Err e ≡ limited (length_of (drop 1 text)) → Err e ≡ duration_read text
minus_err text e some is read = rw (behind_minus text some is) (minus_err_of (length_of (drop 1 text)) e read)

pub plain_ok : (text : List ℕ) (t : ℕ × ℕ) → NoMinus text → Ok t ≡ limited (length_of text) → Ok (pos t.0, pos t.1) ≡ duration_read text
plain_ok text t why read = rw (without_minus text why) (plain_ok_of (length_of text) t read)

pub plain_err : (text : List ℕ) (e : TextFault) → NoMinus text → Err e ≡ limited (length_of text) → Err e ≡ duration_read text
plain_err text e why read = rw (without_minus text why) (plain_err_of (length_of text) e read)

-- what is written where the numbers fit
pub written_is : (seconds nanos : ℤ) (text : List ℕ)
    → (is_duration_second seconds && nat_le (unsigned_abs nanos) 999999999 && signs_agree seconds nanos) ≡ true
    → text ≡ sign_text seconds nanos ++ decimal (unsigned_abs seconds) ++ fraction_text (unsigned_abs nanos) ++ codes "s"
    → duration_written seconds nanos ≡ Ok text
unfolding duration_text
written_is seconds nanos text fits is = rw (fits, is) refl

number_low : (n seconds : ℕ) → Some seconds ≡ (if nat_le n 315576000000 then Some n else None) → (nat_le n 315576000000 ≡ true) × (seconds ≡ n)
number_low n seconds h = elim (cases_Bool (nat_le n 315576000000)) [
  | inl low ↦ (low, cc (rw low at h))
  | inr high ↦ cc (rw high at h)
]

number_high : (n : ℕ) → None ≡ (if nat_le n 315576000000 then Some n else None) → nat_le n 315576000000 ≡ false
number_high n h = elim (cases_Bool (nat_le n 315576000000)) [
  | inl low ↦ cc (rw low at h)
  | inr high ↦ high
]

-- the parts of a text without a sign
pub length_ok : (text digits behind : List ℕ) (seconds nanos : ℕ) → digits ≡ front_digits text → behind ≡ after_digits text → 0 < length digits
    → Some nanos ≡ option_and_then nanos_before_s (fraction_of behind)
    → Some seconds ≡ (if nat_le (digits_value digits) 315576000000 then Some (digits_value digits) else None)
    → Ok (seconds, nanos) ≡ limited (length_of text)
length_ok text digits behind seconds nanos front back some fraction number =
    let natural : natural_of digits ≡ Some (digits_value digits) = natural_is digits (rw front (front_digits_are text)) some in
    let small = number_low (digits_value digits) seconds number in
    rw (← back, ← front, natural, ← fraction, small.0, small.1) refl

pub length_far : (text digits behind : List ℕ) (nanos : ℕ) → digits ≡ front_digits text → behind ≡ after_digits text → 0 < length digits
    → Some nanos ≡ option_and_then nanos_before_s (fraction_of behind)
    → None ≡ (if nat_le (digits_value digits) 315576000000 then Some (digits_value digits) else None)
    → Err Range ≡ limited (length_of text)
length_far text digits behind nanos front back some fraction number =
    let natural : natural_of digits ≡ Some (digits_value digits) = natural_is digits (rw front (front_digits_are text)) some in
    let large = number_high (digits_value digits) number in
    rw (← back, ← front, natural, ← fraction, large) refl
