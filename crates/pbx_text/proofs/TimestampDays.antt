-- The date that is written for a day: it is a day of the calendar, and its day number is the one that it is written for.
use Rattle.std.proofs.Common.{◌≡◌, ℕ, ◌+◌, ◌<◌, ◌≤◌, nat_le, true, pos, refl, arith}
use Rattle.std.proofs.lemmas.Bool.{le-leb}
use Rattle.jiff_core.specs.Calendar.{day_count, days_in_month, days_in_year, days_from_civil}
use Rattle.jiff_core.proofs.CalendarLemmas.{day_count-day_of_year, day_count-end, days_from_civil-day_count, days_in_month_bounds, days_of_months-zero, days_of_months_all}
use Rattle.jiff_core.proofs.MarchLemmas.{day_count-early}
use Rattle.pbx_text.specs.Timestamp.{is_civil_date, month_and_day, year_and_day}
use Rattle.pbx_text.proofs.Dates.{IsInMonth, IsInYear, first, months_pass, years_pass}
use borrow.Author.Differences.{up, down}

first_day : first 1 ≡ 3652791
first_day = day_count-early (pos 1) 10000 1 1 refl (omega arith) (omega arith) (omega arith)

-- the year of a day counted from 0001-01-01, with the day in it
abbrev pub year_of : ℕ → ℕ × ℕ
year_of day = year_and_day 9999 1 day

-- the month of a day in a year, with the days that passed in it
abbrev pub month_of : ℕ × ℕ → ℕ × ℕ
month_of yn = month_and_day 12 yn.0 1 yn.1

in_year : (day : ℕ) → day ≤ 3652058 → IsInYear 1 day (year_of day) × (year_of day).0 < 10000
in_year day h = years_pass 9999 1 day (omega (arith, h, first_day, day_count-end))

in_month : (yn : ℕ × ℕ) → yn.1 < days_in_year (pos yn.0) → IsInMonth yn.0 0 yn.1 (month_of yn) × (month_of yn).0 ≤ 12
in_month yn h = months_pass 12 yn.0 0 yn.1 (omega (arith, h, days_of_months-zero (pos yn.0), days_of_months_all (pos yn.0)))

-- the year, month and day of the month that are written for a day
abbrev pub IsWrittenFor : ℕ → ℕ → ℕ → ℕ → Type 0
IsWrittenFor day y m d =
    (y < 10000) × (m < 100) × (d < 100) × (is_civil_date y m d ≡ true)
    × (up (days_from_civil (pos y) m d) + 719162 ≡ down (days_from_civil (pos y) m d) + day)

of_parts : (day y n : ℕ) (md : ℕ × ℕ) → IsInYear 1 day (y, n) → y < 10000 → IsInMonth y 0 n md → md.0 ≤ 12 → IsWrittenFor day y md.0 (md.1 + 1)
of_parts day y n md year small month last =
    let place = day_count-day_of_year (pos y) md.0 (md.1 + 1) (omega arith) in
    let count : day_count (pos y) md.0 (md.1 + 1) ≡ day + 3652791 =
    omega (arith, place, year.2, month.2, first_day, days_of_months-zero (pos y)) in
    let month_low : nat_le 1 md.0 ≡ true = le-leb 1 md.0 (omega (arith, month.0)) in
    let month_high : nat_le md.0 12 ≡ true = le-leb md.0 12 last in
    let day_low : nat_le 1 (md.1 + 1) ≡ true = le-leb 1 (md.1 + 1) (omega arith) in
    let day_high : nat_le (md.1 + 1) (days_in_month (pos y) md.0) ≡ true =
    le-leb (md.1 + 1) (days_in_month (pos y) md.0) (omega (arith, month.1)) in
    let civil : is_civil_date y md.0 (md.1 + 1) ≡ true = rw (month_low, month_high, day_low, day_high) refl in
    let bounds = days_in_month_bounds (pos y) md.0 in
    let number = days_from_civil-day_count (pos y) md.0 (md.1 + 1) in
    (small, omega (arith, last), omega (arith, bounds.0, month.1), civil, omega (arith, number, count))

-- for each day from 0001-01-01 to 9999-12-31
pub written_for : (day : ℕ) → day ≤ 3652058 → IsWrittenFor day (year_of day).0 (month_of (year_of day)).0 ((month_of (year_of day)).1 + 1)
written_for day h =
    let yn : ℕ × ℕ = year_of day in
    let year = in_year day h in
    let month = in_month yn year.0.1 in
    of_parts day yn.0 yn.1 (month_of yn) year.0 year.1 month.0 month.1
