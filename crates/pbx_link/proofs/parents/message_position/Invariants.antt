use Rattle.std.proofs.Common.{◌-◌, length}
use Rattle.pbx_link_definitions.specs.Definitions.{messages}
use Rattle.pbx_link.proofs.FirstNamed.{IsLeft}
use Rattle.pbx_link.proofs.parents.message_position.Given as goal

abbrev pub invariant-loop-index : goal.invariant-loop-index
invariant-loop-index l = IsLeft l.fn.name (messages l.table) l.index

abbrev pub decreases-loop-index : goal.decreases-loop-index
decreases-loop-index l = length (messages l.table) - l.index
