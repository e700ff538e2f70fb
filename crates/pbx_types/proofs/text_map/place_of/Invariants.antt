use Rattle.std.proofs.Common.{◌-◌, ◌≤◌, length}
use Rattle.pbx_types.specs.Texts.{place_of}
use Rattle.pbx_types.proofs.text_map.place_of.Given as goal

abbrev pub invariant-loop-low : goal.invariant-loop-low
invariant-loop-low g l = (l.low ≤ place_of l.text l.entries) × (place_of l.text l.entries ≤ l.high) × (l.high ≤ length l.entries)

abbrev pub decreases-loop-low : goal.decreases-loop-low
decreases-loop-low g l = l.high - l.low
