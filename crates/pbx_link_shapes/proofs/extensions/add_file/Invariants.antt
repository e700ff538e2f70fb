use Rattle.std.proofs.Common.{map, take}
use Rattle.pbx_link_definitions.specs.Definitions.{extensions}
use Rattle.pbx_link_meaning.specs.Descriptors.{described}
use Rattle.pbx_link_shapes.specs.Extending.{AddExtensions}
use Rattle.pbx_link_shapes.proofs.extensions.add_file.Given as goal

abbrev pub invariant-loop-index : goal.invariant-loop-index
invariant-loop-index l = AddExtensions l.types (map (described l.types l.table) (take l.index (extensions l.table))) l.fn.messages.items l.messages.items
