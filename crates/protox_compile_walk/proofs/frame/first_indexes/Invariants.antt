use Rattle.std.proofs.Common.{take}
use Rattle.protox_compile_walk.specs.Indexes.{AreIndexed}
use Rattle.protox_compile_walk.proofs.frame.first_indexes.Given as goal

abbrev pub invariant-loop-index : goal.invariant-loop-index
invariant-loop-index l = AreIndexed l.first (take l.index l.names)
