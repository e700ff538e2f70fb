use Rattle.std.proofs.Common.{◌-◌, ◌≤◌, length}
use Rattle.pbx_message_dynamic.specs.Keys.{place_of}
use Rattle.pbx_message_dynamic.proofs.key_map.place_of.Given as goal

abbrev pub invariant-loop-low : goal.invariant-loop-low
invariant-loop-low g l = (l.low ≤ place_of l.key l.entries) × (place_of l.key l.entries ≤ l.high) × (l.high ≤ length l.entries)

abbrev pub decreases-loop-low : goal.decreases-loop-low
decreases-loop-low g l = l.high - l.low
