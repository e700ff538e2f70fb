use Rattle.std.proofs.Common.{◌≡◌, map, take}
use Rattle.pbx_wkt_files.specs.Rows.{row_message}
use Rattle.pbx_wkt_files.proofs.messages.nested.Given as goal

abbrev pub invariant-loop-row : goal.invariant-loop-row
invariant-loop-row l = l.messages ≡ map row_message (take l.row-index l.rows)
