use Rattle.std.proofs.Common.{take}
use Rattle.std.specs.List.{flat_map}
use Rattle.pbx_link_shapes.specs.Extending.{AddExtensions}
use Rattle.pbx_link_shapes.proofs.Extended.{extensions_beside}
use Rattle.pbx_link_shapes.proofs.extensions.add_extensions.Given as goal

abbrev pub invariant-loop-table : goal.invariant-loop-table
invariant-loop-table l = AddExtensions l.types (flat_map (extensions_beside l.types) (take l.table-index l.tables)) l.fn.messages.items l.messages.items
