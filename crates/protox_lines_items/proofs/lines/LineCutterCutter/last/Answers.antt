use Rattle.std.proofs.Common.{◌∙◌, sym}
use Rattle.protox_lines_items.proofs.LineEnds.{last_item, last_nothing}
use Rattle.protox_lines_items.proofs.lines.LineCutterCutter.last.Goals as goal

pub returns-then-is_item : goal.returns-then-is_item
returns-then-is_item c read items s room = last_item c.args.self.now read items s room (sym c.is_item.ensures ∙ c.if-is_item.true)

pub returns-else-is_item : goal.returns-else-is_item
returns-else-is_item c read items s room = last_nothing c.args.self.now read items s room (sym c.is_item.ensures ∙ c.if-is_item.false)
