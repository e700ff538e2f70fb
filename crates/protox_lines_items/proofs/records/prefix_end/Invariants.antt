use Rattle.std.proofs.Common.{take}
use Rattle.pbx_wire.specs.Faults.{GoesOn}
use Rattle.protox_lines_items.proofs.records.prefix_end.Given as goal

abbrev pub invariant-loop-i : goal.invariant-loop-i
invariant-loop-i l = GoesOn (take l.i l.bytes)
