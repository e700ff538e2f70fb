use Rattle.std.proofs.Common.{take}
use Rattle.pbx_content.proofs.SchemaTypes.{AreEnums}
use Rattle.pbx_content.proofs.index.enums_fit.Given as goal

abbrev pub invariant-loop-shape : goal.invariant-loop-shape
invariant-loop-shape l = AreEnums (take l.shape-index l.enums)
