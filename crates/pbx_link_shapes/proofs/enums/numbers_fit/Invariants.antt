use Rattle.std.proofs.Common.{take}
use Rattle.pbx_link_shapes.specs.EnumNumbers.{AreEnumNumbers}
use Rattle.pbx_link_shapes.proofs.enums.numbers_fit.Given as goal

abbrev pub invariant-loop-shape : goal.invariant-loop-shape
invariant-loop-shape l = AreEnumNumbers (take l.shape-index l.enums)
