-- Timestamps (ProtoJSON Format: `Timestamp`, an RFC 3339 text; google/protobuf/timestamp.proto: from 0001-01-01T00:00:00Z to
-- 9999-12-31T23:59:59.999999999Z). The calendar is the proleptic Gregorian one, by the day numbers of `jiff`.
use Rattle.std.specs.Prelude.{ℕ, zero, suc, ◌+◌, ◌-◌, ◌*◌, ◌/◌, ◌%◌, ◌&&◌, nat_le, nat_lt, ℤ, pos, neg_ℤ, ◌+ℤ◌, ◌-ℤ◌, ◌*ℤ◌, int_le, unsigned_abs}
use Rattle.std.specs.Prelude.{List, [], ◌∷◌, ◌++◌, take, drop, codes, Bool, if◌then◌else◌, Option, Some, None, option_map, option_and_then, Result}
use Rattle.std.specs.Prelude.{Ok, Err}
use Rattle.std.specs.Str.{bytes_eq}
use Rattle.jiff_core.specs.Calendar.{days_from_civil, days_in_month, days_in_year}
use Rattle.pbx_text.specs.Decimal.{and_then, or_form, or_range, padded}
use Rattle.pbx_text.specs.Clock.{fits_picture, digits_at, fraction_of, fraction_text}
use Rattle.pbx_text.specs.declared.fault.TextFault.{TextFault}
use Rattle.pbx_text.specs.declared.fault.TextFault.TheVariants.{Range}

-- 0001-01-01T00:00:00Z
abbrev pub least_seconds : ℤ
least_seconds = neg_ℤ (pos 62135596800)

-- 9999-12-31T23:59:59Z
abbrev pub greatest_seconds : ℤ
greatest_seconds = pos 253402300799

-- from the first second to the last
abbrev pub is_timestamp_second : ℤ → Bool
is_timestamp_second seconds = int_le least_seconds seconds && int_le seconds greatest_seconds

-- a day of the calendar; the year may be 0000, which an offset can lift to year 1
abbrev pub is_civil_date : ℕ → ℕ → ℕ → Bool
is_civil_date year month day = nat_le 1 month && nat_le month 12 && nat_le 1 day && nat_le day (days_in_month (pos year) month)

-- a time of a day, without leap seconds and without an hour 24
abbrev pub is_clock_time : ℕ → ℕ → ℕ → Bool
is_clock_time hour minute second = nat_le hour 23 && nat_le minute 59 && nat_le second 59

-- `YYYY-MM-DDTHH:MM:SS`, with a day of the calendar and a time of the day
abbrev pub is_local : List ℕ → Bool
is_local text =
    fits_picture (codes "0000-00-00T00:00:00") text
    && is_civil_date (digits_at 0 4 text) (digits_at 5 2 text) (digits_at 8 2 text)
    && is_clock_time (digits_at 11 2 text) (digits_at 14 2 text) (digits_at 17 2 text)

-- its seconds since 1970: the day number of the civil date times 86,400, and the time
abbrev pub local_seconds : List ℕ → ℤ
local_seconds text =
    days_from_civil (pos (digits_at 0 4 text)) (digits_at 5 2 text) (digits_at 8 2 text) *ℤ pos 86400
    +ℤ pos (digits_at 11 2 text * 3600 + digits_at 14 2 text * 60 + digits_at 17 2 text)

-- the seconds of `HH:MM` behind a sign
abbrev pub offset_seconds : List ℕ → Option ℤ
offset_seconds text =
    if is_clock_time (digits_at 1 2 text) (digits_at 4 2 text) 0 then Some (pos (digits_at 1 2 text * 3600 + digits_at 4 2 text * 60)) else None

-- the seconds that a zone is ahead of universal time: `Z`, or a sign and `HH:MM`, which is at most 23:59
abbrev pub zone_of : List ℕ → Option ℤ
zone_of text =
    if bytes_eq text (codes "Z") then Some (pos 0)
    else if fits_picture (codes "+00:00") text then offset_seconds text
    else if fits_picture (codes "-00:00") text then option_map neg_ℤ (offset_seconds text)
    else None

-- the local time less the offset, with the nanoseconds
abbrev pub at_zone : ℤ → ℕ × List ℕ → Option (ℤ × ℤ)
at_zone local f = option_map (λ offset. (local -ℤ offset, pos f.0)) (zone_of f.1)

-- the seconds and nanoseconds that a text of the grammar says; None: the text is outside the grammar
unfoldable pub timestamp_of : List ℕ → Option (ℤ × ℤ)
timestamp_of text =
    if is_local (take 19 text) then option_and_then (at_zone (local_seconds (take 19 text))) (fraction_of (drop 19 text)) else None

-- what reading answers: `Form` outside the grammar, `Range` where the seconds are out of range after the offset is taken off
abbrev pub timestamp_read : List ℕ → Result (ℤ × ℤ) TextFault
timestamp_read text = and_then (or_form (timestamp_of text)) (λ t. if is_timestamp_second t.0 then Ok t else Err Range)

-- the year that so many days from the first of January of year y lie in, and the days left in it; `turns` bounds the years
unfoldable pub year_and_day : ℕ → ℕ → ℕ → ℕ × ℕ
year_and_day zero y n = (y, n)
year_and_day (suc turns) y n = if nat_lt n (days_in_year (pos y)) then (y, n) else year_and_day turns (y + 1) (n - days_in_year (pos y))

-- the same with months of a year
unfoldable pub month_and_day : ℕ → ℕ → ℕ → ℕ → ℕ × ℕ
month_and_day zero y m n = (m, n)
month_and_day (suc turns) y m n = if nat_lt n (days_in_month (pos y) m) then (m, n) else month_and_day turns y (m + 1) (n - days_in_month (pos y) m)

-- `YYYY-MM-DD` of a year, a month and the days that passed in the month
abbrev pub date_digits : ℕ → ℕ × ℕ → List ℕ
date_digits y md = padded 4 y ++ 45 ∷ padded 2 md.0 ++ 45 ∷ padded 2 (md.1 + 1)

-- `YYYY-MM-DD` of a year and the days that passed in it
abbrev pub date_in_year : ℕ × ℕ → List ℕ
date_in_year yn = date_digits yn.0 (month_and_day 12 yn.0 1 yn.1)

-- `YYYY-MM-DD` of a day, counted from 0001-01-01
abbrev pub date_text : ℕ → List ℕ
date_text day = date_in_year (year_and_day 9999 1 day)

-- `HH:MM:SS` of a second of the day
abbrev pub clock_text : ℕ → List ℕ
clock_text second = padded 2 (second / 3600) ++ 58 ∷ padded 2 (second / 60 % 60) ++ 58 ∷ padded 2 (second % 60)

-- the text of so many seconds from 0001-01-01T00:00:00Z, and nanoseconds
abbrev pub instant_text : ℕ → ℕ → List ℕ
instant_text since nanos = date_text (since / 86400) ++ 84 ∷ clock_text (since % 86400) ++ fraction_text nanos ++ 90 ∷ []

-- the text that is written; None: seconds out of range, or nanoseconds outside 0 to 999,999,999
unfoldable pub timestamp_text : ℤ → ℤ → Option (List ℕ)
timestamp_text seconds nanos =
    if is_timestamp_second seconds && int_le (pos 0) nanos && int_le nanos (pos 999999999)
    then Some (instant_text (unsigned_abs (seconds -ℤ least_seconds)) (unsigned_abs nanos)) else None

-- what writing answers
abbrev pub timestamp_written : ℤ → ℤ → Result (List ℕ) TextFault
timestamp_written seconds nanos = or_range (timestamp_text seconds nanos)
