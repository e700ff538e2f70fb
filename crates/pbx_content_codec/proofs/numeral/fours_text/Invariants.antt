use Rattle.std.proofs.Common.{◌≡◌, ◌++◌, map, drop}
use Rattle.std.specs.List.{concat}
use Rattle.std.specs.Int.{w32, to_le_bytes}
use Rattle.pbx_content_codec.proofs.numeral.fours_text.Given as goal

abbrev pub invariant-loop-value : goal.invariant-loop-value
invariant-loop-value l = concat (map (to_le_bytes w32) l.values) ≡ l.text ++ concat (map (to_le_bytes w32) (drop l.value-index l.values))
