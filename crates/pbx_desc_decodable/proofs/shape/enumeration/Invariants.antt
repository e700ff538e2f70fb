use Rattle.std.proofs.Common.{◌≡◌, map, take}
use Rattle.pbx_desc_decodable.specs.Rows.{row_value}
use Rattle.pbx_desc_decodable.proofs.shape.enumeration.Given as goal

abbrev pub invariant-loop-row : goal.invariant-loop-row
invariant-loop-row l = l.values ≡ map row_value (take l.row-index l.rows)
