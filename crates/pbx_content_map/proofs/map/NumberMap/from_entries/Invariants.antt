use Rattle.std.proofs.Common.{◌≡◌, []}
use Rattle.pbx_content_map.specs.Entries.{with_entries}
use Rattle.pbx_content_map.proofs.map.NumberMap.from_entries.Given as goal

abbrev pub invariant-loop-number : goal.invariant-loop-number
invariant-loop-number g l = l.map ≡ with_entries [] l.yielded
