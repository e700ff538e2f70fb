-- What holds of streams.
-- States: the law `streams_are_one`.
use Rattle.std.specs.Prelude.{◌≡◌, ℕ, List}
use Rattle.protox_lines_items.specs.Items.{Stream, AreItems}

-- Bytes have one stream of records.
abbrev pub StreamsAreOne : Type 0
StreamsAreOne = (bytes : List ℕ) (s z : Stream) → AreItems bytes s → AreItems bytes z → s ≡ z
