-- A date and a time of the day, read back from their text.
use Rattle.std.proofs.Common.{◌≡◌, ◌∙◌, ℕ, ◌+◌, ◌*◌, ◌/◌, ◌%◌, ◌<◌, nat_le, true, List, [], ◌∷◌, ◌++◌, take, drop, codes, pos, ◌+ℤ◌, ◌-ℤ◌, ◌*ℤ◌, Some, refl, sym, ap, arith}
use Rattle.std.proofs.lemmas.Bool.{le-leb}
use Rattle.jiff_core.specs.Calendar.{days_from_civil}
use Rattle.pbx_text.specs.Decimal.{padded}
use Rattle.pbx_text.specs.Clock.{digits_at, fits_picture, fraction_text}
use Rattle.pbx_text.specs.Timestamp.{clock_text, date_digits, is_civil_date, is_clock_time, timestamp_of}
use Rattle.pbx_text.proofs.DurationsRead.{fraction_back}
use Rattle.pbx_text.proofs.Instants.{instant_is, local_of}
use Rattle.pbx_text.proofs.Digits.{four_fit, four_value, two_fit, two_value}

-- a date, a time of the day and what stands behind them
abbrev pub moment : ℕ → ℕ × ℕ → ℕ → List ℕ → List ℕ
moment y md second rest = date_digits y md ++ 84 ∷ clock_text second ++ rest

front_is : (y : ℕ) (md : ℕ × ℕ) (second : ℕ) (rest : List ℕ) → moment y md second [] ≡ take 19 (moment y md second rest)
unfolding padded
front_is y md second rest = refl

behind_is : (y : ℕ) (md : ℕ × ℕ) (second : ℕ) (rest : List ℕ) → rest ≡ drop 19 (moment y md second rest)
unfolding padded
behind_is y md second rest = refl

fits : (y m d h i s : ℕ)
    → fits_picture (codes "0000-00-00T00:00:00")
    (padded 4 y ++ (45 ∷ padded 2 m ++ (45 ∷ padded 2 d ++ (84 ∷ padded 2 h ++ (58 ∷ padded 2 i ++ (58 ∷ padded 2 s ++ []))))))
    ≡ true
fits y m d h i s =
    four_fit y (codes "-00-00T00:00:00") (45 ∷ padded 2 m ++ (45 ∷ padded 2 d ++ (84 ∷ padded 2 h ++ (58 ∷ padded 2 i ++ (58 ∷ padded 2 s ++ [])))))
    ∙ two_fit m (codes "-00T00:00:00") (45 ∷ padded 2 d ++ (84 ∷ padded 2 h ++ (58 ∷ padded 2 i ++ (58 ∷ padded 2 s ++ []))))
    ∙ two_fit d (codes "T00:00:00") (84 ∷ padded 2 h ++ (58 ∷ padded 2 i ++ (58 ∷ padded 2 s ++ [])))
    ∙ two_fit h (codes ":00:00") (58 ∷ padded 2 i ++ (58 ∷ padded 2 s ++ []))
    ∙ two_fit i (codes ":00") (58 ∷ padded 2 s ++ [])
    ∙ two_fit s [] []

moment_fits : (y : ℕ) (md : ℕ × ℕ) (second : ℕ) → fits_picture (codes "0000-00-00T00:00:00") (moment y md second []) ≡ true
unfolding padded
moment_fits y md second = fits y md.0 (md.1 + 1) (second / 3600) (second / 60 % 60) (second % 60)

year_at : (y : ℕ) (md : ℕ × ℕ) (second : ℕ) → y < 10000 → digits_at 0 4 (moment y md second []) ≡ y
unfolding padded
year_at y md second h = four_value y h

month_at : (y : ℕ) (md : ℕ × ℕ) (second : ℕ) → md.0 < 100 → digits_at 5 2 (moment y md second []) ≡ md.0
unfolding padded
month_at y md second h = two_value md.0 h

day_at : (y : ℕ) (md : ℕ × ℕ) (second : ℕ) → md.1 + 1 < 100 → digits_at 8 2 (moment y md second []) ≡ md.1 + 1
unfolding padded
day_at y md second h = two_value (md.1 + 1) h

hour_at : (y : ℕ) (md : ℕ × ℕ) (second : ℕ) → second < 86400 → digits_at 11 2 (moment y md second []) ≡ second / 3600
unfolding padded
hour_at y md second h = two_value (second / 3600) (omega arith)

minute_at : (y : ℕ) (md : ℕ × ℕ) (second : ℕ) → digits_at 14 2 (moment y md second []) ≡ second / 60 % 60
unfolding padded
minute_at y md second = two_value (second / 60 % 60) (omega arith)

second_at : (y : ℕ) (md : ℕ × ℕ) (second : ℕ) → digits_at 17 2 (moment y md second []) ≡ second % 60
unfolding padded
second_at y md second = two_value (second % 60) (omega arith)

clock_time : (second : ℕ) → second < 86400 → is_clock_time (second / 3600) (second / 60 % 60) (second % 60) ≡ true
clock_time second h =
    let hour : nat_le (second / 3600) 23 ≡ true = le-leb (second / 3600) 23 (omega arith) in
    let minute : nat_le (second / 60 % 60) 59 ≡ true = le-leb (second / 60 % 60) 59 (omega arith) in
    let last : nat_le (second % 60) 59 ≡ true = le-leb (second % 60) 59 (omega arith) in
    rw (hour, minute, last) refl

-- the seconds of a local time, by the numbers of its text
of_numbers : (text : List ℕ) (y m d h i s : ℕ) → fits_picture (codes "0000-00-00T00:00:00") text ≡ true
    → digits_at 0 4 text ≡ y → digits_at 5 2 text ≡ m → digits_at 8 2 text ≡ d
    → digits_at 11 2 text ≡ h → digits_at 14 2 text ≡ i → digits_at 17 2 text ≡ s
    → is_civil_date y m d ≡ true → is_clock_time h i s ≡ true
    → local_of text ≡ Some (days_from_civil (pos y) m d *ℤ pos 86400 +ℤ pos (h * 3600 + i * 60 + s))
of_numbers text y m d h i s fit year month day hour minute second civil clock =
    rw (fit, year, month, day, hour, minute, second, civil, clock) refl

seconds_is : (second : ℕ) → second / 3600 * 3600 + second / 60 % 60 * 60 + second % 60 ≡ second
seconds_is second = omega arith

local_is : (y : ℕ) (md : ℕ × ℕ) (second : ℕ) → y < 10000 → md.0 < 100 → md.1 + 1 < 100 → second < 86400
    → is_civil_date y md.0 (md.1 + 1) ≡ true
    → local_of (moment y md second []) ≡ Some (days_from_civil (pos y) md.0 (md.1 + 1) *ℤ pos 86400 +ℤ pos second)
local_is y md second year month day h civil =
    of_numbers (moment y md second []) y md.0 (md.1 + 1) (second / 3600) (second / 60 % 60) (second % 60)
    (moment_fits y md second) (year_at y md second year) (month_at y md second month) (day_at y md second day)
    (hour_at y md second h) (minute_at y md second) (second_at y md second) civil (clock_time second h)
    ∙ ap (λ n. Some (days_from_civil (pos y) md.0 (md.1 + 1) *ℤ pos 86400 +ℤ pos n)) (seconds_is second)

-- a moment in universal time
pub moment_read : (y : ℕ) (md : ℕ × ℕ) (second nanos : ℕ) → y < 10000 → md.0 < 100 → md.1 + 1 < 100 → second < 86400 → nanos < 1000000000
    → is_civil_date y md.0 (md.1 + 1) ≡ true
    → timestamp_of (moment y md second (fraction_text nanos ++ 90 ∷ []))
    ≡ Some (days_from_civil (pos y) md.0 (md.1 + 1) *ℤ pos 86400 +ℤ pos second -ℤ pos 0, pos nanos)
moment_read y md second nanos year month day h small civil =
    let behind : List ℕ = fraction_text nanos ++ 90 ∷ [] in
    sym (instant_is (moment y md second behind) (moment y md second []) behind (90 ∷ [])
    (days_from_civil (pos y) md.0 (md.1 + 1) *ℤ pos 86400 +ℤ pos second) nanos (Some (pos 0))
    (front_is y md second behind) (behind_is y md second behind) (sym (local_is y md second year month day h civil))
    (fraction_back nanos 90 [] small refl refl) refl)
