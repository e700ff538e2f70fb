-- What records of options say.
use Rattle.std.specs.Prelude.{ℕ, List, Bool, not, ◌==◌, Option, Some, None, if◌then◌else◌}
use Rattle.std.specs.List.{filter_map, last_or}
use Rattle.pbx_wire.specs.declared.rec.Rec.{Rec}
use Rattle.pbx_wire.specs.declared.rec.Rec.{Varint, Fixed64, Bytes, Group', Fixed32}

-- a varint record of the number as a truth value: any number but 0 is true (Protocol Buffers "Language Guide (proto 3)": Updating A Message Type)
abbrev pub truth_at : ℕ → Rec → Option Bool
truth_at n (Varint m v) = if m == n then Some (not (v == 0)) else None
truth_at n (Fixed64 m v) = None
truth_at n (Bytes m b) = None
truth_at n (Group' m shape row) = None
truth_at n (Fixed32 m v) = None

-- the last varint record of the number as a truth value (Protocol Buffers "Encoding": Last One Wins)
abbrev pub bool_of : ℕ → List Rec → Option Bool
bool_of n rs = last_or None (filter_map (truth_at n) rs)
