use Rattle.std.proofs.Common.{◌≡◌, ◌++◌}
use Rattle.pbx_wire.specs.Varint.{varint}
use Rattle.pbx_desc_encoding.proofs.parts.put_varint.Given as goal

abbrev pub invariant-loop-rest : goal.invariant-loop-rest
invariant-loop-rest l = l.out.items ++ varint l.rest ≡ l.initial.out.items ++ varint l.value

abbrev pub decreases-loop-rest : goal.decreases-loop-rest
decreases-loop-rest l = l.rest
