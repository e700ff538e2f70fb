use Rattle.std.proofs.Common.{take}
use Rattle.pbx_link_definitions.specs.Definitions.{messages}
use Rattle.pbx_link_shapes.specs.Starts.{AreStarts, counts}
use Rattle.pbx_link_shapes.proofs.shaped.message_starts.Given as goal

abbrev pub invariant-loop-table : goal.invariant-loop-table
invariant-loop-table l = AreStarts (counts messages (take l.table-index l.tables)) l.starts
