-- What holds of the texts of timestamps.
use Rattle.std.specs.Prelude.{◌≡◌, ℤ, ℕ, List, Ok}
use Rattle.pbx_text.specs.Timestamp.{timestamp_read, timestamp_written}

-- What is written of a timestamp reads as the timestamp.
abbrev pub TimestampsReadBack : Type 0
TimestampsReadBack =
    (seconds nanos : ℤ) (text : List ℕ) → timestamp_written seconds nanos ≡ Ok text → timestamp_read text ≡ Ok (seconds, nanos)
