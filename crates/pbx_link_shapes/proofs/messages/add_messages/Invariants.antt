use Rattle.std.proofs.Common.{◌≡◌, ◌++◌, map, take}
use Rattle.pbx_link_definitions.specs.Definitions.{messages}
use Rattle.pbx_link_definitions.specs.Says.{is_proto3}
use Rattle.pbx_link_shapes.specs.Items.{own_shape}
use Rattle.pbx_link_shapes.proofs.messages.add_messages.Given as goal

abbrev pub invariant-loop-index : goal.invariant-loop-index
invariant-loop-index l = l.shapes.items ≡ l.fn.shapes.items ++ map (own_shape l.types (is_proto3 l.table)) (take l.index (messages l.table))
