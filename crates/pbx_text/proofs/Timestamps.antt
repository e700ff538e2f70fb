-- What is written of a timestamp reads as the timestamp.
use Rattle.std.proofs.Common.{◌≡◌, ◌∙◌, ℕ, ◌+◌, ◌/◌, ◌%◌, ◌<◌, ◌≤◌, ◌&&◌, Bool, true, false, List, [], ◌∷◌, ◌++◌, ℤ, pos, ◌+ℤ◌, ◌-ℤ◌, ◌*ℤ◌, int_le, unsigned_abs, Some, Ok, refl, ap, arith, inl, inr}
use Rattle.std.proofs.lemmas.Bool.{cases_Bool}
use Rattle.jiff_core.specs.Calendar.{days_from_civil}
use Rattle.jiff_core.proofs.SignedLemmas.{one_part, signed_arith}
use Rattle.pbx_text.specs.Clock.{fraction_text}
use Rattle.pbx_text.specs.Decimal.{padded}
use Rattle.pbx_text.specs.Timestamp.{greatest_seconds, instant_text, is_timestamp_second, least_seconds, timestamp_of, timestamp_read, timestamp_text, timestamp_written}
use Rattle.pbx_text.proofs.TimestampDays.{month_of, written_for, year_of}
use Rattle.pbx_text.proofs.Moments.{moment, moment_read}
use borrow.Author.Differences.{up, down}

both : (a b : Bool) → (a && b) ≡ true → (a ≡ true) × (b ≡ true)
both true b h = (refl, h)
both false b h = cc h

-- the seconds and nanoseconds that a timestamp may have
abbrev IsTimestamp : ℤ → ℤ → Type 0
IsTimestamp seconds nanos = (is_timestamp_second seconds ≡ true) × (int_le (pos 0) nanos ≡ true) × (int_le nanos (pos 999999999) ≡ true)

written : (seconds nanos : ℤ) (text : List ℕ) → timestamp_written seconds nanos ≡ Ok text
    → IsTimestamp seconds nanos × (text ≡ instant_text (unsigned_abs (seconds -ℤ least_seconds)) (unsigned_abs nanos))
unfolding timestamp_text
written seconds nanos text h = elim (cases_Bool (is_timestamp_second seconds && int_le (pos 0) nanos && int_le nanos (pos 999999999))) [
  | inl fit ↦
      let last = both (is_timestamp_second seconds && int_le (pos 0) nanos) (int_le nanos (pos 999999999)) fit in
      let first = both (is_timestamp_second seconds) (int_le (pos 0) nanos) last.0 in
      ((first.0, first.1, last.1), cc (rw fit at h))
  | inr out ↦ cc (rw out at h)
]

-- the seconds of a timestamp, counted from 0001-01-01
abbrev since : ℤ → ℕ
since seconds = unsigned_abs (seconds -ℤ least_seconds)

limits : (seconds : ℤ) → is_timestamp_second seconds ≡ true → (down seconds ≤ up seconds + 62135596800) × (up seconds ≤ down seconds + 253402300799)
limits seconds h =
    let low = both (int_le least_seconds seconds) (int_le seconds greatest_seconds) h in
    (omega (arith, signed_arith, low.0), omega (arith, signed_arith, low.1))

since_is : (seconds : ℤ) → is_timestamp_second seconds ≡ true → up seconds + 62135596800 ≡ down seconds + since seconds
since_is seconds h = omega (arith, signed_arith, limits seconds h, one_part (seconds -ℤ least_seconds))

-- the day and the second of the day, back from the first day
back : (seconds days : ℤ) (count : ℕ) → up seconds + 62135596800 ≡ down seconds + count → up days + 719162 ≡ down days + count / 86400
    → days *ℤ pos 86400 +ℤ pos (count % 86400) -ℤ pos 0 ≡ seconds
back seconds days count is day = omega (arith, signed_arith)

nanos_is : (nanos : ℤ) → int_le (pos 0) nanos ≡ true → int_le nanos (pos 999999999) ≡ true → (unsigned_abs nanos < 1000000000) × (pos (unsigned_abs nanos) ≡ nanos)
nanos_is nanos low high = (omega (arith, signed_arith, one_part nanos), omega (arith, signed_arith, one_part nanos))

-- the date of so many seconds from 0001-01-01, as a year with the day in it, and as a month with the days that passed in it
abbrev date_year : ℕ → ℕ × ℕ
date_year count = year_of (count / 86400)

abbrev date_month : ℕ → ℕ × ℕ
date_month count = month_of (date_year count)

instant_is_moment : (count nanos : ℕ)
    → instant_text count nanos ≡ moment (date_year count).0 (date_month count) (count % 86400) (fraction_text nanos ++ 90 ∷ [])
unfolding padded
instant_is_moment count nanos = refl

instant_read : (seconds nanos : ℤ) → IsTimestamp seconds nanos → timestamp_of (instant_text (since seconds) (unsigned_abs nanos)) ≡ Some (seconds, nanos)
instant_read seconds nanos h =
    let count = since_is seconds h.0 in
    let high = limits seconds h.0 in
    let small = nanos_is nanos h.1 h.2 in
    let yr : ℕ × ℕ = date_year (since seconds) in
    let md : ℕ × ℕ = date_month (since seconds) in
    let date = written_for (since seconds / 86400) (omega (arith, count, high)) in
    let days : ℤ = days_from_civil (pos yr.0) md.0 (md.1 + 1) in
    ap timestamp_of (instant_is_moment (since seconds) (unsigned_abs nanos))
    ∙ moment_read yr.0 md (since seconds % 86400) (unsigned_abs nanos) date.0 date.1 date.2 (omega arith) small.0 date.3
    ∙ ap (λ s. Some (s, pos (unsigned_abs nanos))) (back seconds days (since seconds) count date.4)
    ∙ ap (λ n. Some (seconds, n)) small.1

read_in_range : (text : List ℕ) (seconds nanos : ℤ) → timestamp_of text ≡ Some (seconds, nanos) → is_timestamp_second seconds ≡ true
    → timestamp_read text ≡ Ok (seconds, nanos)
read_in_range text seconds nanos is range = rw (is, range) refl

pub timestamps_read : (seconds nanos : ℤ) (text : List ℕ) → timestamp_written seconds nanos ≡ Ok text → timestamp_read text ≡ Ok (seconds, nanos)
timestamps_read seconds nanos text h =
    let known = written seconds nanos text h in
    read_in_range text seconds nanos (ap timestamp_of known.1 ∙ instant_read seconds nanos known.0) known.0.0
