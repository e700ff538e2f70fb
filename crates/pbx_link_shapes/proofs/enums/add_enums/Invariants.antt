use Rattle.std.proofs.Common.{◌≡◌, ◌++◌, map, take}
use Rattle.pbx_link_definitions.specs.Definitions.{enums}
use Rattle.pbx_link_shapes.specs.Items.{part_enum}
use Rattle.pbx_link_shapes.proofs.enums.add_enums.Given as goal

abbrev pub invariant-loop-index : goal.invariant-loop-index
invariant-loop-index l = l.shapes ≡ l.fn.shapes ++ map part_enum (take l.index (enums l.table))
