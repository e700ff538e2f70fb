use Rattle.std.proofs.Common.{◌≡◌, map, take}
use Rattle.pbx_wkt_files.specs.Rows.{row_rec}
use Rattle.pbx_wkt_files.proofs.options.options.Given as goal

abbrev pub invariant-loop-row : goal.invariant-loop-row
invariant-loop-row l = l.recs ≡ map row_rec (take l.row-index l.rows)
