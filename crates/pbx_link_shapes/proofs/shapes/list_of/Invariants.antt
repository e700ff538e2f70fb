use Rattle.std.proofs.Common.{◌≡◌}
use Rattle.pbx_link_shapes.proofs.shapes.list_of.Given as goal

abbrev pub invariant-loop-item : goal.invariant-loop-item
invariant-loop-item g l = l.list ≡ l.yielded
