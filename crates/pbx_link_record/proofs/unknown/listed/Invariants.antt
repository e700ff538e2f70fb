use Rattle.std.proofs.Common.{◌≡◌}
use Rattle.pbx_link_record.proofs.unknown.listed.Given as goal

abbrev pub invariant-loop-rec : goal.invariant-loop-rec
invariant-loop-rec l = l.list ≡ l.yielded
