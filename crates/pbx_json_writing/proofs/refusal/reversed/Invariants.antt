use Rattle.std.proofs.Common.{◌≡◌, ◌++◌, reverse, vec_len}
use Rattle.pbx_json_writing.proofs.refusal.reversed.Given as goal

abbrev pub invariant-loop-step : goal.invariant-loop-step
invariant-loop-step l = reverse l.fn.steps ≡ l.place ++ reverse l.left.items

abbrev pub decreases-loop-step : goal.decreases-loop-step
decreases-loop-step l = vec_len l.left
