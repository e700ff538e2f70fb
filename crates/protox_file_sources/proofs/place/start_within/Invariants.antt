use Rattle.std.proofs.Common.{◌≡◌, ◌≤◌, length}
use Rattle.protox_file_sources.specs.Places.{start_within}
use Rattle.protox_file_sources.proofs.place.start_within.Given as goal

abbrev pub invariant-loop-len : goal.invariant-loop-len
invariant-loop-len l = (l.len ≤ length l.place) × (start_within l.locations l.place (length l.place) ≡ start_within l.locations l.place l.len)

abbrev pub decreases-loop-len : goal.decreases-loop-len
decreases-loop-len l = l.len
