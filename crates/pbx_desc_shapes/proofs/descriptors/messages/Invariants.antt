use Rattle.std.proofs.Common.{◌≡◌, map, take}
use Rattle.pbx_desc_shapes.specs.DescriptorRows.{row_type}
use Rattle.pbx_desc_shapes.proofs.descriptors.messages.Given as goal

abbrev pub invariant-loop-row : goal.invariant-loop-row
invariant-loop-row l = l.messages ≡ map row_type (take l.row-index l.rows)
