use Rattle.std.proofs.Common.{◌∙◌, sym}
use Rattle.pbx_json_reading.proofs.Empty.{some_items}
use Rattle.pbx_json_reading.proofs.opened.no_items.Goals as goal

pub returns-else-is_empty : goal.returns-else-is_empty
returns-else-is_empty c = some_items c.args.items.now (sym c.is_empty.ensures ∙ c.if-is_empty.false)
