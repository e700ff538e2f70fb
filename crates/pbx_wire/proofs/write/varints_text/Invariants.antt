use Rattle.std.proofs.Common.{◌≡◌, map, take}
use Rattle.std.specs.List.{concat}
use Rattle.pbx_wire.specs.Varint.{varint}
use Rattle.pbx_wire.proofs.write.varints_text.Given as goal

abbrev pub invariant-loop-value : goal.invariant-loop-value
invariant-loop-value l = l.text ≡ concat (map varint (take l.value-index l.values))
