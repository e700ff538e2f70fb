use Rattle.std.proofs.Common.{sym, map}
use Rattle.pbx_parse_tree.specs.View.{item_of, body_item_setting}
use Rattle.pbx_parse_tree.proofs.Gathered.{of_views, of_body_items}
use Rattle.pbx_parse_tree.proofs.statements.message_settings.Goals as goal

pub returns : goal.returns
returns c = rw (sym (of_body_items (map item_of c.args.items.now)), sym (of_views body_item_setting item_of c.args.items.now)) c.set_among.ensures
