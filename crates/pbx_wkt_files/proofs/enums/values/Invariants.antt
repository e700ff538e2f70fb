use Rattle.std.proofs.Common.{◌≡◌, map, take}
use Rattle.pbx_wkt_files.specs.Rows.{row_value}
use Rattle.pbx_wkt_files.proofs.enums.values.Given as goal

abbrev pub invariant-loop-row : goal.invariant-loop-row
invariant-loop-row l = l.values ≡ map row_value (take l.row-index l.rows)
