-- Days of the calendar, as `jiff_core` has them.
use Rattle.std.proofs.Common.{◌≡◌, ℕ, ◌+◌, ◌*◌, ◌<◌, ◌≤◌, nat_le, if◌then◌else◌, ℤ, pos, true, false, Option, Some, None, refl, arith, inl, inr}
use Rattle.std.proofs.lemmas.Bool.{cases_Bool, le-leb, lt-leb}
use Rattle.std.proofs.lemmas.Bool.Decides.{nat_tests}
use Rattle.jiff_core.specs.declared.civil.date.Date.{Date}
use Rattle.jiff_core.specs.Calendar.{days_from_civil, days_in_month, IsDate}
use Rattle.jiff_core.specs.Date.{epoch_day, IsYmd}
use Rattle.jiff_core.proofs.CalendarLemmas.{days_in_month_bounds}
use Rattle.jiff_core.proofs.SignedLemmas.{signed_arith}
use Rattle.pbx_text.specs.Timestamp.{is_civil_date, is_clock_time}

is_civil : (y m d : ℕ) → IsDate (pos y) (pos m) (pos d) → is_civil_date y m d ≡ true
is_civil y m d h =
    let month_low : nat_le 1 m ≡ true = le-leb 1 m (omega (arith, signed_arith)) in
    let month_high : nat_le m 12 ≡ true = le-leb m 12 (omega (arith, signed_arith)) in
    let day_low : nat_le 1 d ≡ true = le-leb 1 d (omega (arith, signed_arith)) in
    let day_high : nat_le d (days_in_month (pos y) m) ≡ true = le-leb d (days_in_month (pos y) m) (omega (arith, signed_arith)) in
    rw (month_low, month_high, day_low, day_high) refl

-- the day of the calendar, if it is one
abbrev pub day_of : ℕ → ℕ → ℕ → Option ℤ
day_of y m d = if is_civil_date y m d then Some (days_from_civil (pos y) m d) else None

pub day_is : (date : Date) (y m d : ℕ) → IsDate (pos y) (pos m) (pos d) → IsYmd (pos y) (pos m) (pos d) date → Some (epoch_day date) ≡ day_of y m d
day_is date y m d h is =
    let month : date.month ≡ m = cc is.1 in
    let day : date.day ≡ d = cc is.2 in
    rw (is_civil y m d h, is.0, month, day) refl

no_civil : (y m d : ℕ) → y ≤ 9999 → ¬ (IsDate (pos y) (pos m) (pos d)) → is_civil_date y m d ≡ false
no_civil y m d year none = elim (cases_Bool (nat_le 1 m)) [
  | inr h ↦ rw h refl
  | inl month_low ↦ elim (cases_Bool (nat_le m 12)) [
    | inr h ↦ rw (month_low, h) refl
    | inl month_high ↦ elim (cases_Bool (nat_le 1 d)) [
      | inr h ↦ rw (month_low, month_high, h) refl
      | inl day_low ↦ elim (cases_Bool (nat_le d (days_in_month (pos y) m))) [
        | inr h ↦ rw (month_low, month_high, day_low, h) refl
        | inl day_high ↦
            let a : 1 ≤ m = grind (arith, nat_tests, month_low) in
            let b : m ≤ 12 = grind (arith, nat_tests, month_high) in
            let e : 1 ≤ d = grind (arith, nat_tests, day_low) in
            let f : d ≤ days_in_month (pos y) m = grind (arith, nat_tests, day_high) in
            let is : IsDate (pos y) (pos m) (pos d) = (
              (omega (arith, signed_arith), omega (arith, signed_arith)),
              (omega (arith, signed_arith), omega (arith, signed_arith)),
              (omega (arith, signed_arith), omega (arith, signed_arith)),
            )
            in
            absurd (none is)
      ]
    ]
  ]
]

pub no_day : (y m d : ℕ) → y ≤ 9999 → ¬ (IsDate (pos y) (pos m) (pos d)) → None ≡ day_of y m d
no_day y m d year none = rw (no_civil y m d year none) refl

pub far_month : (y m d : ℕ) → nat_le m 12 ≡ false → None ≡ day_of y m d
far_month y m d h = elim (cases_Bool (nat_le 1 m)) [
  | inl low ↦ rw (low, h) refl
  | inr low ↦ rw low refl
]

pub far_day : (y m d : ℕ) → nat_le d 31 ≡ false → None ≡ day_of y m d
far_day y m d h =
    let bounds = days_in_month_bounds (pos y) m in
    let past : 31 < d = grind (arith, nat_tests, h) in
    let far : nat_le d (days_in_month (pos y) m) ≡ false = lt-leb d (days_in_month (pos y) m) (omega (arith, bounds)) in
    elim (cases_Bool (nat_le 1 m)) [
      | inr low ↦ rw low refl
      | inl low ↦ elim (cases_Bool (nat_le m 12)) [
        | inr high ↦ rw (low, high) refl
        | inl high ↦ elim (cases_Bool (nat_le 1 d)) [
          | inr first ↦ rw (low, high, first) refl
          | inl first ↦ rw (low, high, first, far) refl
        ]
      ]
    ]

-- the second of a time of the day, if it is one
abbrev pub second_of : ℕ → ℕ → ℕ → Option ℕ
second_of h m s = if is_clock_time h m s then Some (h * 3600 + m * 60 + s) else None

pub far_hour : (h m s : ℕ) → nat_le h 23 ≡ false → None ≡ second_of h m s
far_hour h m s far = rw far refl

pub far_minute : (h m s : ℕ) → nat_le m 59 ≡ false → None ≡ second_of h m s
far_minute h m s far = elim (cases_Bool (nat_le h 23)) [
  | inl p ↦ rw (p, far) refl
  | inr p ↦ rw p refl
]

pub far_second : (h m s : ℕ) → nat_le s 59 ≡ false → None ≡ second_of h m s
far_second h m s far = elim (cases_Bool (nat_le h 23)) [
  | inl p ↦ elim (cases_Bool (nat_le m 59)) [
    | inl q ↦ rw (p, q, far) refl
    | inr q ↦ rw (p, q) refl
  ]
  | inr p ↦ rw p refl
]
