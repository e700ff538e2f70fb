use Rattle.std.proofs.Common.{◌≡◌, drop}
use Rattle.pbx_content.specs.Index.{ascend}
use Rattle.pbx_content.proofs.index.are_ascending.Given as goal

abbrev pub invariant-loop-entry : goal.invariant-loop-entry
invariant-loop-entry l = ascend 0 l.entries ≡ ascend l.below (drop l.entry-index l.entries)
