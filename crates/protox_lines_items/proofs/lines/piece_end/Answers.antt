use Rattle.protox_lines_items.proofs.LineEnds.{ends_at}
use Rattle.protox_lines_items.proofs.lines.piece_end.Goals as goal

pub returns : goal.returns
returns c = ends_at c.args.bytes.now c.memchr.result c.memchr.ensures
