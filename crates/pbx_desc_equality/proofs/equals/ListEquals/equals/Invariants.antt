use Rattle.std.proofs.Common.{◌≡◌, take}
use Rattle.pbx_desc_equality.proofs.equals.ListEquals.equals.Given as goal

abbrev pub invariant-loop-index : goal.invariant-loop-index
invariant-loop-index g l = take l.index l.item-items ≡ take l.index l.others
