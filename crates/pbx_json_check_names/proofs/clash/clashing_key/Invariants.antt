use Rattle.std.proofs.Common.{◌≡◌, ◌≤◌, option_map, length, drop}
use Rattle.pbx_json_check_names.proofs.Keys.{least_in}
use Rattle.pbx_json_check_names.proofs.clash.clashing_key.Given as goal

abbrev pub invariant-loop-left : goal.invariant-loop-left
invariant-loop-left l = (l.left ≤ length l.fields) × (option_map (λ k. k.now) l.least ≡ least_in l.fields (drop l.left l.fields))

abbrev pub decreases-loop-left : goal.decreases-loop-left
decreases-loop-left l = l.left
