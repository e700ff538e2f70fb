use Rattle.std.proofs.Common.{◌≡◌, map, take}
use Rattle.pbx_wkt_files.specs.Rows.{row_reserved_range}
use Rattle.pbx_wkt_files.proofs.messages.reserved_ranges.Given as goal

abbrev pub invariant-loop-row : goal.invariant-loop-row
invariant-loop-row l = l.ranges ≡ map row_reserved_range (take l.row-index l.rows)
