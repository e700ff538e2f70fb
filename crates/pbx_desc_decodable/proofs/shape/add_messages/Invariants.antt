use Rattle.std.proofs.Common.{◌≡◌, ◌++◌, map, take}
use Rattle.pbx_desc_decodable.specs.Rows.{row_type}
use Rattle.pbx_desc_decodable.proofs.shape.add_messages.Given as goal

abbrev pub invariant-loop-row : goal.invariant-loop-row
invariant-loop-row l = l.messages ≡ l.initial.messages ++ map row_type (take l.row-index l.rows)
