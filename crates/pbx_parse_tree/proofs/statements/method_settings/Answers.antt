use Rattle.std.proofs.Common.{sym}
use Rattle.pbx_parse_tree.specs.Conditions.{method_setting}
use Rattle.pbx_parse_tree.specs.View.{method_item_of}
use Rattle.pbx_parse_tree.proofs.Gathered.{of_views}
use Rattle.pbx_parse_tree.proofs.statements.method_settings.Goals as goal

pub returns : goal.returns
returns c = rw (sym (of_views method_setting method_item_of c.args.items.now)) c.set_among.ensures
