use Rattle.std.proofs.Common.{take}
use Rattle.pbx_link_pool.specs.Index.{IsIndexOf}
use Rattle.pbx_link_pool.proofs.tables.table_index.Given as goal

abbrev pub invariant-loop-i : goal.invariant-loop-i
invariant-loop-i l = IsIndexOf l.index (take l.i l.tables)
