use Rattle.std.proofs.Common.{◌≡◌, take}
use Rattle.pbx_link.proofs.same.are_same_files.Given as goal

abbrev pub invariant-loop-index : goal.invariant-loop-index
invariant-loop-index l = take l.index l.tables ≡ take l.index l.others
