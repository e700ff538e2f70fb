use Rattle.std.proofs.Common.{refl}
use Rattle.protox_lines_items.proofs.LineEnds.{piece_ended}
use Rattle.protox_lines_items.proofs.lines.LineCutter.end.Goals as goal

pub returns-clause-stands : goal.returns-clause-stands
returns-clause-stands c read items s = rw c.is_item-is_item.ensures (piece_ended c.args.self.now _ read items refl refl s)
