use Rattle.std.proofs.Common.{◌≡◌}
use Rattle.pbx_content_codec.proofs.order.listed.Given as goal

abbrev pub invariant-loop-rec : goal.invariant-loop-rec
invariant-loop-rec l = l.list ≡ l.yielded
