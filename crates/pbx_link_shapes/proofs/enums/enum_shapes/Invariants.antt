use Rattle.std.proofs.Common.{◌≡◌, take}
use Rattle.std.specs.List.{flat_map}
use Rattle.pbx_link_shapes.proofs.Whole.{file_enums}
use Rattle.pbx_link_shapes.proofs.enums.enum_shapes.Given as goal

abbrev pub invariant-loop-table : goal.invariant-loop-table
invariant-loop-table l = l.shapes ≡ flat_map file_enums (take l.table-index l.tables)
