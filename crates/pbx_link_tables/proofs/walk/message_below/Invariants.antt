use Rattle.std.proofs.Common.{◌≡◌, length}
use Rattle.pbx_link_tables.specs.Places.{message_below as message_below_of}
use Rattle.pbx_link_tables.proofs.walk.message_below.Given as goal

abbrev pub invariant-loop-rest : goal.invariant-loop-rest
invariant-loop-rest l = message_below_of l.here l.rest ≡ message_below_of l.initial.here l.initial.rest

abbrev pub decreases-loop-rest : goal.decreases-loop-rest
decreases-loop-rest l = length l.rest
