use Rattle.std.proofs.Common.{◌≡◌}
use Rattle.pbx_link.specs.Tables.{extending}
use Rattle.pbx_link.proofs.message_extensions.next_extending.Given as goal

abbrev pub invariant-loop-extension : goal.invariant-loop-extension
invariant-loop-extension l =
    (goal.iterator-loop-extension).can_next l.rest × (goal.iterator-loop-extension).is_finite l.rest
    × (extending l.name l.initial.rest ≡ extending l.name l.rest)
