use Rattle.std.proofs.Common.{◌≡◌, drop}
use Rattle.pbx_link_record.specs.Unknown.{ascend}
use Rattle.pbx_link_record.proofs.unknown.are_ascending.Given as goal

abbrev pub invariant-loop-rec : goal.invariant-loop-rec
invariant-loop-rec l = ascend 0 l.recs ≡ ascend l.least (drop l.rec-index l.recs)
