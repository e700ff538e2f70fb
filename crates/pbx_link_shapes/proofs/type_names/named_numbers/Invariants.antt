use Rattle.std.proofs.Common.{take}
use Rattle.pbx_link_shapes.proofs.TypeNumbers.{AreNumbers}
use Rattle.pbx_link_shapes.proofs.type_names.named_numbers.Given as goal

abbrev pub invariant-loop-field : goal.invariant-loop-field
invariant-loop-field l = AreNumbers l.items.items (take l.field-index l.fields)
