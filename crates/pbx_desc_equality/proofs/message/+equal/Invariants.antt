use Rattle.std.proofs.Common.{◌≡◌, take}
use Rattle.pbx_desc_equality.proofs.message.+equal.Given as goal

abbrev pub invariant-are_equal-loop-index : goal.invariant-are_equal-loop-index
invariant-are_equal-loop-index l = take l.index l.message-items ≡ take l.index l.others
