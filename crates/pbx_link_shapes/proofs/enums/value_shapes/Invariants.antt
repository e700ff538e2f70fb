use Rattle.std.proofs.Common.{◌≡◌, map, take}
use Rattle.pbx_link_shapes.specs.Items.{item_value}
use Rattle.pbx_link_shapes.proofs.enums.value_shapes.Given as goal

abbrev pub invariant-loop-value : goal.invariant-loop-value
invariant-loop-value l = l.shapes ≡ map item_value (take l.value-index l.values)
