use Rattle.std.proofs.Common.{take}
use Rattle.pbx_desc_encoding.specs.Sets.{IsSetOf}
use Rattle.pbx_link.proofs.encoding.file_set.Given as goal

abbrev pub invariant-loop-table : goal.invariant-loop-table
invariant-loop-table l = IsSetOf l.set (take l.table-index l.tables)
