use Rattle.std.proofs.Common.{sym}
use Rattle.pbx_parse_tree.specs.Conditions.{enum_setting}
use Rattle.pbx_parse_tree.specs.View.{enum_item_of}
use Rattle.pbx_parse_tree.proofs.Gathered.{of_views}
use Rattle.pbx_parse_tree.proofs.statements.enum_settings.Goals as goal

pub returns : goal.returns
returns c = rw (sym (of_views enum_setting enum_item_of c.args.items.now)) c.set_among.ensures
