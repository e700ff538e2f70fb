-- Texts and the pictures that they fit.
use Rattle.std.proofs.Common.{◌≡◌, ◌∙◌, ℕ, zero, suc, ◌-◌, ◌<◌, ◌≤◌, ◌==◌, ◌&&◌, List, [], ◌∷◌, length, take, drop, slice_index, codes, true, false, refl, ap, arith, inl, inr}
use Rattle.std.specs.List.{list_all}
use Rattle.std.proofs.lemmas.Bool.{cases_Bool}
use Rattle.std.proofs.lemmas.Bool.Decides.{nat_tests}
use Rattle.std.proofs.lemmas.List.{length-take}
use Rattle.pbx_text.specs.Decimal.{digits_value, is_digit}
use Rattle.pbx_text.specs.Clock.{fits_mark, fits_picture}

-- one mark and one character
pub mark_fits : (picture text ms cs : List ℕ) → fits_picture picture text ≡ fits_picture ms cs → 0 < length ms → 0 < length cs
    → fits_mark (slice_index ms 0) (slice_index cs 0) ≡ true → fits_picture picture text ≡ fits_picture (drop 1 ms) (drop 1 cs)
mark_fits picture text [] cs left some more fits = absurd (omega arith)
mark_fits picture text (m ∷ ms) [] left some more fits = absurd (omega arith)
mark_fits picture text (m ∷ ms) (c ∷ cs) left some more fits = left ∙ ap (λ b. b && fits_picture ms cs) fits

pub mark_fails : (picture text ms cs : List ℕ) → fits_picture picture text ≡ fits_picture ms cs → 0 < length ms → 0 < length cs
    → fits_mark (slice_index ms 0) (slice_index cs 0) ≡ false → fits_picture picture text ≡ false
mark_fails picture text [] cs left some more fits = absurd (omega arith)
mark_fails picture text (m ∷ ms) [] left some more fits = absurd (omega arith)
mark_fails picture text (m ∷ ms) (c ∷ cs) left some more fits = left ∙ ap (λ b. b && fits_picture ms cs) fits

pub marks_end : (ms cs : List ℕ) → length ms < 1 → fits_picture ms cs ≡ (length cs == 0)
marks_end [] [] none = refl
marks_end [] (c ∷ cs) none =
    let some : (length (c ∷ cs) == 0) ≡ false = grind (arith, nat_tests) in
    rw some refl
marks_end (m ∷ ms) cs none = absurd (omega arith)

pub text_ends : (ms cs : List ℕ) → 0 < length ms → length cs < 1 → fits_picture ms cs ≡ false
text_ends [] cs some none = absurd (omega arith)
text_ends (m ∷ ms) [] some none = refl
text_ends (m ∷ ms) (c ∷ cs) some none = absurd (omega arith)

-- a text that fits is as long as its picture
pub fits_length : (ms cs : List ℕ) → fits_picture ms cs ≡ true → length cs ≡ length ms
fits_length [] [] h = refl
fits_length [] (c ∷ cs) h = cc h
fits_length (m ∷ ms) [] h = cc h
fits_length (m ∷ ms) (c ∷ cs) h = elim (cases_Bool (fits_mark m c)) [
  | inl p ↦ omega (arith, fits_length ms cs (rw p at h))
  | inr p ↦ cc (rw p at h)
]

drop_fits : (i : ℕ) (ms cs : List ℕ) → fits_picture ms cs ≡ true → fits_picture (drop i ms) (drop i cs) ≡ true
drop_fits zero ms cs h = h
drop_fits (suc i) [] [] h = refl
drop_fits (suc i) [] (c ∷ cs) h = cc h
drop_fits (suc i) (m ∷ ms) [] h = cc h
drop_fits (suc i) (m ∷ ms) (c ∷ cs) h = elim (cases_Bool (fits_mark m c)) [
  | inl p ↦ drop_fits i ms cs (rw p at h)
  | inr p ↦ cc (rw p at h)
]

are_digits : (n : ℕ) (ms cs : List ℕ) → fits_picture ms cs ≡ true → list_all (λ m. m == 48) (take n ms) ≡ true → list_all is_digit (take n cs) ≡ true
are_digits zero ms cs h zeros = refl
are_digits (suc n) [] [] h zeros = refl
are_digits (suc n) [] (c ∷ cs) h zeros = cc h
are_digits (suc n) (m ∷ ms) [] h zeros = cc h
are_digits (suc n) (m ∷ ms) (c ∷ cs) h zeros = elim (cases_Bool (m == 48)) [
  | inl p ↦ elim (cases_Bool (is_digit c)) [
    | inl d ↦ rw d (are_digits n ms cs (rw (p, d) at h) (rw p at zeros))
    | inr d ↦ cc (rw (p, d) at h)
  ]
  | inr p ↦ cc (rw p at zeros)
]

-- where the picture has zeros, the text has digits
pub digits_in : (i n : ℕ) (ms cs : List ℕ) → fits_picture ms cs ≡ true → list_all (λ m. m == 48) (take n (drop i ms)) ≡ true
    → list_all is_digit (take n (drop i cs)) ≡ true
digits_in i n ms cs h zeros = are_digits n (drop i ms) (drop i cs) (drop_fits i ms cs h) zeros

-- the places of a text `YYYY-MM-DDTHH:MM:SS`
abbrev pub IsLocalForm : List ℕ → Type 0
IsLocalForm text = fits_picture (codes "0000-00-00T00:00:00") text ≡ true

pub local_length : (text : List ℕ) → IsLocalForm text → length text ≡ 19
local_length text h = fits_length (codes "0000-00-00T00:00:00") text h

pub year_digits : (text : List ℕ) → IsLocalForm text → list_all is_digit (take 4 text) ≡ true
year_digits text h = digits_in 0 4 (codes "0000-00-00T00:00:00") text h refl

pub month_digits : (text : List ℕ) → IsLocalForm text → list_all is_digit (take 2 (drop 5 text)) ≡ true
month_digits text h = digits_in 5 2 (codes "0000-00-00T00:00:00") text h refl

pub day_digits : (text : List ℕ) → IsLocalForm text → list_all is_digit (take 2 (drop 8 text)) ≡ true
day_digits text h = digits_in 8 2 (codes "0000-00-00T00:00:00") text h refl

pub hour_digits : (text : List ℕ) → IsLocalForm text → list_all is_digit (take 2 (drop 11 text)) ≡ true
hour_digits text h = digits_in 11 2 (codes "0000-00-00T00:00:00") text h refl

pub minute_digits : (text : List ℕ) → IsLocalForm text → list_all is_digit (take 2 (drop 14 text)) ≡ true
minute_digits text h = digits_in 14 2 (codes "0000-00-00T00:00:00") text h refl

pub second_digits : (text : List ℕ) → IsLocalForm text → list_all is_digit (take 2 (drop 17 text)) ≡ true
second_digits text h = digits_in 17 2 (codes "0000-00-00T00:00:00") text h refl

low : (c : ℕ) (cs : List ℕ) → list_all is_digit (c ∷ cs) ≡ true → (c - 48 ≤ 9) × (list_all is_digit cs ≡ true)
low c cs h = elim (cases_Bool (is_digit c)) [
  | inl p ↦
      let small : c - 48 ≤ 9 = grind (arith, nat_tests, p) in
      (small, rw p at h)
  | inr p ↦ cc (rw p at h)
]

-- four digits are at most 9999
four_low : (ds : List ℕ) → list_all is_digit ds ≡ true → length ds ≡ 4 → digits_value ds ≤ 9999
four_low [] h four = absurd (omega arith)
four_low (a ∷ []) h four = absurd (omega arith)
four_low (a ∷ b ∷ []) h four = absurd (omega arith)
four_low (a ∷ b ∷ c ∷ []) h four = absurd (omega arith)
four_low (a ∷ b ∷ c ∷ d ∷ []) h four =
    let first = low a (b ∷ c ∷ d ∷ []) h in
    let second = low b (c ∷ d ∷ []) first.1 in
    let third = low c (d ∷ []) second.1 in
    let last = low d [] third.1 in
    omega (arith, first.0, second.0, third.0, last.0)
four_low (a ∷ b ∷ c ∷ d ∷ e ∷ ds) h four = absurd (omega arith)

pub year_low : (text : List ℕ) → IsLocalForm text → digits_value (take 4 text) ≤ 9999
year_low text h = four_low (take 4 text) (year_digits text h) (omega (arith, local_length text h, length-take 4 text))
