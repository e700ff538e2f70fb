use Rattle.std.proofs.Common.{◌≡◌, ◌++◌, map, take}
use Rattle.pbx_wkt_files.specs.Rows.{row_top}
use Rattle.pbx_wkt_files.proofs.messages.add_messages.Given as goal

abbrev pub invariant-loop-row : goal.invariant-loop-row
invariant-loop-row l = l.messages ≡ l.initial.messages ++ map row_top (take l.row-index l.rows)
