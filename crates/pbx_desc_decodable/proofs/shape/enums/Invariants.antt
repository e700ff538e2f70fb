use Rattle.std.proofs.Common.{◌≡◌, map, take}
use Rattle.pbx_desc_decodable.specs.Rows.{row_enum}
use Rattle.pbx_desc_decodable.proofs.shape.enums.Given as goal

abbrev pub invariant-loop-row : goal.invariant-loop-row
invariant-loop-row l = l.enums ≡ map row_enum (take l.row-index l.rows)
