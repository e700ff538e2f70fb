use Rattle.std.proofs.Common.{◌≡◌, map, take}
use Rattle.pbx_desc_shapes.specs.DescriptorRows.{row_field}
use Rattle.pbx_desc_shapes.proofs.descriptors.message.Given as goal

abbrev pub invariant-loop-row : goal.invariant-loop-row
invariant-loop-row l = l.fields ≡ map row_field (take l.row-index l.rows)
