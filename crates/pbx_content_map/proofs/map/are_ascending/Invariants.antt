use Rattle.std.proofs.Common.{◌≡◌, drop}
use Rattle.pbx_content_map.proofs.Places.{ascend}
use Rattle.pbx_content_map.proofs.map.are_ascending.Given as goal

abbrev pub invariant-loop-entry : goal.invariant-loop-entry
invariant-loop-entry g l = ascend 0 l.entries ≡ ascend l.least (drop l.entry-index l.entries)
