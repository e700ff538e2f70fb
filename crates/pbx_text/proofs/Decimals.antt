-- Decimal texts in the words that std's `parse` is told in.
use Rattle.std.proofs.Common.{◌≡◌, ℕ, suc, unsigned_abs, inl, inr, ap, ◌∙◌, ◌⊎◌, int_le, FitsSigned, w64, ◌+◌, ◌-◌, ◌*◌, ◌<◌, ◌≤◌, ◌^◌, ◌==◌, List, [], ◌∷◌, true, false, if◌then◌else◌, ℤ, pos, negsuc, neg_ℤ, Some, None, option_map, length, Ok, Err, refl, arith, rules}
use Rattle.std.proofs.lemmas.Bool.{cases_Bool, cases_lt, le-leb, lt-leb}
use Rattle.std.specs.List.{list_all, fold}
use Rattle.std.specs.Fmt.{decimal, signed_decimal}
use Rattle.std.specs.Str.Parse.{without_leading_plus, without_leading_sign, starts_with_minus, digits_value as std_value, signed_digits_value, IsNumeral}
use Rattle.std.proofs.lemmas.Str.Parse.{IsNumeralModel, numerals_by_fold}
use Rattle.std.proofs.lemmas.Fmt.{digits_decimal, digits_value-decimal, decimal_nonempty}
use Rattle.pbx_text.specs.Decimal.{is_digit, digits_value, natural_of, unsigned_of, signed_of, unsigned_read, signed_read}
use Rattle.pbx_text.specs.declared.fault.TextFault.TheVariants.{Range}

abbrev pub AreDigits : List ℕ → Type 0
AreDigits ds = list_all is_digit ds ≡ true

pub digits_model : IsNumeralModel AreDigits digits_value
digits_model = numerals_by_fold _ (search rules) (λ n ds. fold (λ n c. n * 10 + (c - 48)) n ds) (search rules)

-- digits are a natural number
pub natural_is : (ds : List ℕ) → AreDigits ds → 0 < length ds → natural_of ds ≡ Some (digits_value ds)
natural_is [] h some = absurd (omega arith)
natural_is (c ∷ cs) h some = rw h refl

pub natural_none : (ds : List ℕ) → list_all is_digit ds ≡ false → natural_of ds ≡ None
natural_none [] h = cc h
natural_none (c ∷ cs) h = rw h refl

-- a text by what stands behind its sign
pub unsigned_of_is : (text : List ℕ) → unsigned_of text ≡ natural_of (without_leading_plus text)
unsigned_of_is [] = refl
unsigned_of_is (c ∷ cs) = elim (cases_Bool (c == 43)) [
  | inl h ↦ rw h refl
  | inr h ↦ rw h refl
]

pub signed_of_is : (text : List ℕ)
    → signed_of text ≡ option_map (λ n. if starts_with_minus text then neg_ℤ (pos n) else pos n) (natural_of (without_leading_sign text))
signed_of_is [] = refl
signed_of_is (c ∷ cs) = elim (cases_Bool (c == 45)) [
  | inl h ↦ rw h refl
  | inr h ↦ elim (cases_Bool (c == 43)) [
    | inl p ↦ rw (h, p) refl
    | inr p ↦ rw (h, p) refl
  ]
]

pub unsigned_is : (text : List ℕ) → AreDigits (without_leading_plus text) → 0 < length (without_leading_plus text)
    → unsigned_of text ≡ Some (std_value 10 (without_leading_plus text))
unsigned_is text h some = rw (unsigned_of_is text, natural_is _ h some, digits_model.same _ (digits_model.to _ h)) refl

pub signed_is : (text : List ℕ) → AreDigits (without_leading_sign text) → 0 < length (without_leading_sign text)
    → signed_of text ≡ Some (signed_digits_value 10 text)
signed_is text h some = rw (signed_of_is text, natural_is _ h some, digits_model.same _ (digits_model.to _ h)) refl

-- what is written reads as itself
pub natural_reads : (n : ℕ) → n < 2 ^ 64 → natural_of (decimal n) ≡ Some n
natural_reads n h = rw (natural_is (decimal n) (digits_decimal digits_model n h) (decimal_nonempty n h), digits_value-decimal digits_model n h) refl

-- digits begin with no sign
unsigned_digits : (ds : List ℕ) → AreDigits ds → unsigned_of ds ≡ natural_of ds
unsigned_digits [] h = refl
unsigned_digits (c ∷ cs) h = elim (cases_Bool (c == 43)) [
  | inl p ↦ search rules
  | inr p ↦ rw p refl
]

signed_digits : (ds : List ℕ) → AreDigits ds → signed_of ds ≡ option_map pos (natural_of ds)
signed_digits [] h = refl
signed_digits (c ∷ cs) h = elim (cases_Bool (c == 45)) [
  | inl p ↦ search rules
  | inr p ↦ rw p (ap (option_map pos) (unsigned_digits (c ∷ cs) h))
]

pub unsigned_reads : (n : ℕ) → n < 2 ^ 64 → unsigned_of (decimal n) ≡ Some n
unsigned_reads n h = unsigned_digits (decimal n) (digits_decimal digits_model n h) ∙ natural_reads n h

pub signed_reads : (z : ℤ) → unsigned_abs z < 2 ^ 64 → signed_of (signed_decimal z) ≡ Some z
signed_reads (pos n) h = signed_digits (decimal n) (digits_decimal digits_model n h) ∙ ap (option_map pos) (natural_reads n h)
signed_reads (negsuc n) h = ap (option_map (λ n. neg_ℤ (pos n))) (natural_reads (suc n) h)

-- what reading answers, by the value of the digits
pub unsigned_ok : (text : List ℕ) (max n : ℕ) → AreDigits (without_leading_plus text) → 0 < length (without_leading_plus text)
    → std_value 10 (without_leading_plus text) ≡ n → n ≤ max → Ok n ≡ unsigned_read max text
unsigned_ok text max n h some is low = rw (unsigned_is text h some, is, le-leb n max low) refl

pub unsigned_far : (text : List ℕ) (max : ℕ) → AreDigits (without_leading_plus text) → 0 < length (without_leading_plus text)
    → max < std_value 10 (without_leading_plus text) → Err Range ≡ unsigned_read max text
unsigned_far text max h some far = rw (unsigned_is text h some, lt-leb (std_value 10 (without_leading_plus text)) max far) refl

pub signed_ok : (text : List ℕ) (min max z : ℤ) → AreDigits (without_leading_sign text) → 0 < length (without_leading_sign text)
    → signed_digits_value 10 text ≡ z → int_le min z ≡ true → int_le z max ≡ true → Ok z ≡ signed_read min max text
signed_ok text min max z h some is low high = rw (signed_is text h some, is, low, high) refl

pub signed_low : (text : List ℕ) (min max : ℤ) → AreDigits (without_leading_sign text) → 0 < length (without_leading_sign text)
    → int_le min (signed_digits_value 10 text) ≡ false → Err Range ≡ signed_read min max text
signed_low text min max h some low = rw (signed_is text h some, low) refl

pub signed_high : (text : List ℕ) (min max : ℤ) → AreDigits (without_leading_sign text) → 0 < length (without_leading_sign text)
    → int_le (signed_digits_value 10 text) max ≡ false → Err Range ≡ signed_read min max text
signed_high text min max h some high = elim (cases_Bool (int_le min (signed_digits_value 10 text))) [
  | inl low ↦ rw (signed_is text h some, low, high) refl
  | inr low ↦ signed_low text min max h some low
]

-- a number past 64 bits lies past limits of 64 bits
outside : (min max z : ℤ) → FitsSigned w64 min → FitsSigned w64 max → ¬ (FitsSigned w64 z) → (int_le min z ≡ false) ⊎ (int_le z max ≡ false)
outside min max (pos n) low high out = elim (cases_Bool (int_le (pos n) max)) [
  | inl h ↦ absurd (search rules)
  | inr h ↦ inr h
]
outside min max (negsuc n) low high out = elim (cases_Bool (int_le min (negsuc n))) [
  | inl h ↦ absurd (search rules)
  | inr h ↦ inl h
]

pub signed_past : (text : List ℕ) (min max : ℤ) → FitsSigned w64 min → FitsSigned w64 max → AreDigits (without_leading_sign text)
    → 0 < length (without_leading_sign text) → ¬ (IsNumeral 10 (without_leading_sign text) × FitsSigned w64 (signed_digits_value 10 text))
    → Err Range ≡ signed_read min max text
signed_past text min max low high h some out = elim (outside min max (signed_digits_value 10 text) low high (λ fits. out ((some, digits_model.to _ h), fits))) [
  | inl l ↦ signed_low text min max h some l
  | inr l ↦ signed_high text min max h some l
]

pub unsigned_past : (text : List ℕ) (max : ℕ) → max < 2 ^ 64 → AreDigits (without_leading_plus text) → 0 < length (without_leading_plus text)
    → ¬ (IsNumeral 10 (without_leading_plus text) × (std_value 10 (without_leading_plus text) < 2 ^ 64)) → Err Range ≡ unsigned_read max text
unsigned_past text max high h some out = elim (cases_lt (std_value 10 (without_leading_plus text)) (2 ^ 64)) [
  | inl fits ↦ absurd (out ((some, digits_model.to _ h), fits))
  | inr past ↦ unsigned_far text max h some (omega arith)
]
