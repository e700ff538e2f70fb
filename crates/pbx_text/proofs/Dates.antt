-- Years and months that pass, against the day counts of `jiff_core`, and the texts of a day and of a time of the day.
use Rattle.std.proofs.Common.{◌≡◌, ◌∙◌, ℕ, zero, suc, ◌+◌, ◌-◌, ◌/◌, ◌%◌, ◌<◌, ◌≤◌, nat_lt, ℤ, pos, ◌+ℤ◌, unsigned_abs, List, [], ◌∷◌, ◌++◌, append_assoc, refl, ap, sym, arith, inl, inr, rules}
use Rattle.std.proofs.lemmas.Bool.{cases_Bool, cases_order}
use Rattle.std.proofs.lemmas.Bool.Decides.{nat_tests}
use Rattle.jiff_core.specs.declared.civil.date.Date.{Date}
use Rattle.jiff_core.specs.Date.{epoch_day}
use Rattle.jiff_core.specs.Calendar.{day_count, days_in_month, days_in_year, days_of_months, IsCivilDate, IsYear}
use Rattle.jiff_core.proofs.CalendarLemmas.{day_count-day_of_year, day_count-end, day_count-next_year, day_count-year_is, day_of_year_before, days_from_civil-day_count, days_of_months-zero, days_of_months_all, days_of_months_more}
use Rattle.jiff_core.proofs.DateLemmas.{civil}
use Rattle.jiff_core.proofs.MarchLemmas.{day_count-early}
use Rattle.jiff_core.proofs.SignedLemmas.{signed_arith}
use Rattle.pbx_text.specs.Decimal.{padded}
use Rattle.pbx_text.specs.Timestamp.{clock_text, date_text, month_and_day, year_and_day}

-- the days before a year
abbrev pub first : ℕ → ℕ
first y = day_count (pos y) 1 1

next_year : (y : ℕ) → first (y + 1) ≡ first y + days_in_year (pos y)
next_year y = day_count-next_year (pos y) (pos (y + 1)) (search rules) refl

-- the year y' and the day r in it of the day n behind the first of year y
abbrev pub IsInYear : ℕ → ℕ → ℕ × ℕ → Type 0
IsInYear y n yr = (y ≤ yr.0) × (yr.1 < days_in_year (pos yr.0)) × (first yr.0 + yr.1 ≡ first y + n)

pub years_pass : (turns y n : ℕ) → first y + n < first (turns + y) → IsInYear y n (year_and_day turns y n) × (year_and_day turns y n).0 < turns + y
unfolding year_and_day
years_pass zero y n h =
    let same : zero + y ≡ y = omega arith in
    absurd (omega (arith, rw same at h))
years_pass (suc turns) y n h = elim (cases_Bool (nat_lt n (days_in_year (pos y)))) [
  | inl within ↦
      let low : n < days_in_year (pos y) = grind (arith, nat_tests, within) in
      rw within ((omega arith, low, refl), omega arith)
  | inr past ↦
      let over : days_in_year (pos y) ≤ n = grind (arith, nat_tests, past) in
      let same : suc turns + y ≡ turns + (y + 1) = omega arith in
      let more = years_pass turns (y + 1) (n - days_in_year (pos y)) (omega (arith, next_year y, rw same at h)) in
      rw past ((omega (arith, more.0.0), more.0.1, more.0.2 ∙ omega (arith, next_year y)), omega (arith, more.1))
]

-- the same in a year, where k months are over
abbrev pub IsInMonth : ℕ → ℕ → ℕ → ℕ × ℕ → Type 0
IsInMonth y k n md =
    (k + 1 ≤ md.0) × (md.1 < days_in_month (pos y) md.0) × (days_of_months (pos y) (md.0 - 1) + md.1 ≡ days_of_months (pos y) k + n)

pub months_pass : (turns y k n : ℕ) → days_of_months (pos y) k + n < days_of_months (pos y) (turns + k)
    → IsInMonth y k n (month_and_day turns y (k + 1) n) × (month_and_day turns y (k + 1) n).0 ≤ turns + k
unfolding month_and_day
months_pass zero y k n h =
    let same : zero + k ≡ k = omega arith in
    absurd (omega (arith, rw same at h))
months_pass (suc turns) y k n h =
    let next = days_of_months_more (pos y) (k + 1) (omega arith) in
    let back : k + 1 - 1 ≡ k = omega arith in
    elim (cases_Bool (nat_lt n (days_in_month (pos y) (k + 1)))) [
      | inl within ↦
          let low : n < days_in_month (pos y) (k + 1) = grind (arith, nat_tests, within) in
          rw within ((omega arith, low, rw back refl), omega arith)
      | inr past ↦
          let over : days_in_month (pos y) (k + 1) ≤ n = grind (arith, nat_tests, past) in
          let same : suc turns + k ≡ turns + (k + 1) = omega arith in
          let more = months_pass turns y (k + 1) (n - days_in_month (pos y) (k + 1)) (omega (arith, rw back at next, rw same at h)) in
          rw past ((omega (arith, more.0.0), more.0.1, more.0.2 ∙ omega (arith, rw back at next)), omega (arith, more.1))
    ]

first_day : first 1 ≡ 3652791
first_day = day_count-early (pos 1) 10000 1 1 refl (omega arith) (omega arith) (omega arith)

-- a day counted from 0001-01-01 lies in a year up to 9999
in_year : (day : ℕ) → day ≤ 3652058 → IsInYear 1 day (year_and_day 9999 1 day) × (year_and_day 9999 1 day).0 < 10000
in_year day h = years_pass 9999 1 day (omega (arith, h, first_day, day_count-end))

in_month : (y n : ℕ) → n < days_in_year (pos y) → IsInMonth y 0 n (month_and_day 12 y 1 n) × (month_and_day 12 y 1 n).0 ≤ 12
in_month y n h = months_pass 12 y 0 n (omega (arith, h, days_of_months-zero (pos y), days_of_months_all (pos y)))

-- one day has one month and one day in it
one_day : (y m d n : ℕ) (md : ℕ × ℕ) → 1 ≤ m → 1 ≤ d → d ≤ days_in_month (pos y) m → IsInMonth y 0 n md
    → days_of_months (pos y) (m - 1) + d ≡ n + 1 → (md.0 ≡ m) × (md.1 + 1 ≡ d)
one_day y m d n md month low high is at = elim (cases_order m md.0) [
  | inr (inl before) ↦
      let past = day_of_year_before (pos y) m d (md.0 - 1) month high (omega arith) in
      absurd (omega (arith, days_of_months-zero (pos y), is.2, past, at))
  | inl same ↦ (sym same, omega (arith, days_of_months-zero (pos y), rw (← same) at is.2, at))
  | inr (inr behind) ↦
      let past = day_of_year_before (pos y) md.0 (md.1 + 1) (m - 1) (omega (arith, is.0)) (omega (arith, is.1)) (omega arith) in
      absurd (omega (arith, days_of_months-zero (pos y), is.2, past, at))
]

-- the digits of a day of the calendar
date_of_parts : (z : ℤ) (m d day : ℕ) → day ≤ 3652058 → IsCivilDate z m d → day_count z m d ≡ day + 3652791
    → date_text day ≡ padded 4 (unsigned_abs z) ++ 45 ∷ padded 2 m ++ 45 ∷ padded 2 d
date_of_parts z m d day h is count =
    let yr : ℕ × ℕ = year_and_day 9999 1 day in
    let at = in_year day h in
    let low : 1 ≤ yr.0 = at.0.0 in
    let within : yr.1 < days_in_year (pos yr.0) = at.0.1 in
    let sum : first yr.0 + yr.1 ≡ day + 3652791 = omega (arith, at.0.2, first_day) in
    let library : IsYear (pos yr.0) = (omega (arith, signed_arith), omega (arith, signed_arith, at.1)) in
    let year : z ≡ pos yr.0 = day_count-year_is (pos yr.0) z m d library is (omega (arith, sum, count)) (omega (arith, sum, count, within)) in
    let day_high : d ≤ days_in_month (pos yr.0) m = rw year at is.2.1 in
    let same_count : day_count (pos yr.0) m d ≡ day + 3652791 = rw year at count in
    let month = in_month yr.0 yr.1 within in
    let place = day_count-day_of_year (pos yr.0) m d is.2.0 in
    let same = one_day yr.0 m d yr.1 (month_and_day 12 yr.0 1 yr.1) is.1.0 is.2.0 day_high month.0 (omega (arith, place, same_count, sum)) in
    rw (year, same.0, same.1) refl

date_is : (date : Date) (day : ℕ) → day ≤ 3652058 → epoch_day date +ℤ pos 4371587 ≡ pos (day + 3652425)
    → date_text day ≡ padded 4 (unsigned_abs date.year) ++ 45 ∷ padded 2 date.month ++ 45 ∷ padded 2 date.day
date_is date day h is =
    date_of_parts date.year date.month date.day day h (civil date)
    (omega (arith, signed_arith, is, days_from_civil-day_count date.year date.month date.day))

-- two parts behind a text, with a character between them
two_behind : (text a b : List ℕ) (mark : ℕ) → ((text ++ a) ++ mark ∷ []) ++ b ≡ text ++ (a ++ mark ∷ b)
two_behind text a b mark = append_assoc (text ++ a) (mark ∷ []) b ∙ append_assoc text a (mark ∷ b)

-- three parts
three_behind : (text a b e : List ℕ) (mark : ℕ) → ((((text ++ a) ++ mark ∷ []) ++ b) ++ mark ∷ []) ++ e ≡ text ++ ((a ++ mark ∷ b) ++ mark ∷ e)
three_behind text a b e mark =
    append_assoc (((text ++ a) ++ mark ∷ []) ++ b) (mark ∷ []) e
    ∙ ap (λ t. t ++ mark ∷ e) (two_behind text a b mark)
    ∙ append_assoc text (a ++ mark ∷ b) (mark ∷ e)

pub date_pushed : (text : List ℕ) (date : Date) (day : ℕ) → day ≤ 3652058 → epoch_day date +ℤ pos 4371587 ≡ pos (day + 3652425)
    → ((((text ++ padded 4 (unsigned_abs date.year)) ++ 45 ∷ []) ++ padded 2 date.month) ++ 45 ∷ []) ++ padded 2 date.day ≡ text ++ date_text day
date_pushed text date day h is =
    three_behind text (padded 4 (unsigned_abs date.year)) (padded 2 date.month) (padded 2 date.day) 45 ∙ ap (λ t. text ++ t) (sym (date_is date day h is))

pub clock_pushed : (text : List ℕ) (second : ℕ)
    → ((((text ++ padded 2 (second / 3600)) ++ 58 ∷ []) ++ padded 2 (second / 60 % 60)) ++ 58 ∷ []) ++ padded 2 (second % 60) ≡ text ++ clock_text second
clock_pushed text second = three_behind text (padded 2 (second / 3600)) (padded 2 (second / 60 % 60)) (padded 2 (second % 60)) 58
