use Rattle.std.proofs.Common.{◌≡◌, ◌-◌, length}
use Rattle.pbx_link_definitions.specs.Definitions.{messages}
use Rattle.pbx_link.specs.Tables.{tops_from}
use Rattle.pbx_link.proofs.file_parts.top_position.Given as goal

abbrev pub invariant-loop-index : goal.invariant-loop-index
invariant-loop-index l = tops_from l.table l.fn.from ≡ tops_from l.table l.index

abbrev pub decreases-loop-index : goal.decreases-loop-index
decreases-loop-index l = length (messages l.table) - l.index
