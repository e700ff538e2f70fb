use Rattle.std.proofs.Common.{◌-◌, ◌≤◌, length}
use Rattle.pbx_content_map.specs.Entries.{place_of}
use Rattle.pbx_content_map.proofs.map.place_of.Given as goal

abbrev pub invariant-loop-low : goal.invariant-loop-low
invariant-loop-low g l = (l.low ≤ place_of l.number l.entries) × (place_of l.number l.entries ≤ l.high) × (l.high ≤ length l.entries)

abbrev pub decreases-loop-low : goal.decreases-loop-low
decreases-loop-low g l = l.high - l.low
