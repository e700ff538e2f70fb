use Rattle.std.proofs.Common.{◌≡◌, map, take}
use Rattle.pbx_link_shapes.specs.Items.{item_shape}
use Rattle.pbx_link_shapes.proofs.fields.field_shapes.Given as goal

abbrev pub invariant-loop-field : goal.invariant-loop-field
invariant-loop-field l = l.shapes ≡ map (item_shape l.types l.proto3) (take l.field-index l.fields)
