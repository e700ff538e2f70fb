use Rattle.std.proofs.Common.{◌≤◌, ◌+◌, take}
use Rattle.pbx_desc_encoding.specs.Levels.{below, message_levels}
use Rattle.pbx_desc_encoding.proofs.levels.+within.Given as goal

abbrev pub invariant-are_within-loop-message : goal.invariant-are_within-loop-message
invariant-are_within-loop-message l = below message_levels (take l.message-index l.message-items) ≤ l.levels + 1
