use Rattle.std.proofs.Common.{take}
use Rattle.pbx_link_definitions.specs.Definitions.{messages, enums}
use Rattle.pbx_link_shapes.specs.Starts.{AreStarts, counts}
use Rattle.pbx_link_shapes.proofs.types.Types.new.Given as goal

abbrev pub invariant-loop-table : goal.invariant-loop-table
invariant-loop-table l = AreStarts (counts messages (take l.table-index l.tables)) l.messages × AreStarts (counts enums (take l.table-index l.tables)) l.enums
