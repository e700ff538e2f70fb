use Rattle.std.proofs.Common.{◌≡◌, drop, map}
use Rattle.std.specs.List.{list_all}
use Rattle.pbx_wkt_types.specs.Rows.{row_field}
use Rattle.pbx_wkt_types.specs.Shapes.{has_row}
use Rattle.pbx_wkt_types.proofs.shape.has_each.Given as goal

abbrev pub invariant-loop-row : goal.invariant-loop-row
invariant-loop-row l = list_all (has_row l.schema l.place) (map row_field l.rows) ≡ list_all (has_row l.schema l.place) (map row_field (drop l.row-index l.rows))
