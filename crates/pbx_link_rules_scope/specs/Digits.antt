-- Decimal numbers that 64 bits hold, digit by digit.
use Rattle.std.specs.Prelude.{ℕ, ◌+◌, ◌-◌, ◌*◌, ◌^◌, nat_lt, nat_le, ◌&&◌, Bool, false, Option, Some, None, if◌then◌else◌}
use Rattle.pbx_parse_token.specs.Bytes.{is_digit}

-- the number with a digit behind it, if it is a digit and the number is below 2^64
abbrev pub with_digit : ℕ → ℕ → Option ℕ
with_digit n b = if is_digit b && nat_lt (n * 10 + (b - 48)) (2 ^ 64) then Some (n * 10 + (b - 48)) else None

-- the number, if it is below 2^64
abbrev pub small : Option ℕ → Option ℕ
small None = None
small (Some n) = if nat_lt n (2 ^ 64) then Some n else None

-- there is a number, and it is not above the greatest
abbrev pub is_at_most : ℕ → Option ℕ → Bool
is_at_most greatest None = false
is_at_most greatest (Some n) = nat_le n greatest
