use Rattle.std.proofs.Common.{◌≡◌, ◌-◌, length}
use Rattle.pbx_link.specs.Tables.{messages_from}
use Rattle.pbx_link.proofs.pool_messages.standing_from.Given as goal

abbrev pub invariant-loop-place : goal.invariant-loop-place
invariant-loop-place l = messages_from l.tables l.fn.file l.fn.index ≡ messages_from l.tables l.place l.rest

abbrev pub decreases-loop-place : goal.decreases-loop-place
decreases-loop-place l = length l.tables - l.place
