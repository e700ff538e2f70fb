-- Numbers of a fixed width (Protocol Buffers "Encoding": Non-varint Numbers).
use Rattle.std.specs.Prelude.{ℕ, ◌%◌, ◌^◌, List}
use Rattle.std.specs.Int.{Width, from_le_bytes}
use mir.Val.{bits}

-- the number that the bytes spell, the least first, of no more bits than the width has
abbrev pub fixed : Width → List ℕ → ℕ
fixed w bytes = from_le_bytes w bytes % 2 ^ bits w
