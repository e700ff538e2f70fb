use Rattle.std.proofs.Common.{◌≡◌, take}
use Rattle.std.specs.List.{flat_map}
use Rattle.pbx_link_shapes.proofs.Whole.{own_shapes}
use Rattle.pbx_link_shapes.proofs.messages.message_shapes.Given as goal

abbrev pub invariant-loop-table : goal.invariant-loop-table
invariant-loop-table l = l.shapes.items ≡ flat_map (own_shapes l.types) (take l.table-index l.tables)
