use Rattle.std.proofs.Common.{sym}
use Rattle.pbx_parse_tree.specs.Conditions.{top_setting}
use Rattle.pbx_parse_tree.specs.View.{top_of}
use Rattle.pbx_parse_tree.proofs.Gathered.{of_views}
use Rattle.pbx_parse_tree.proofs.statements.file_settings.Goals as goal

pub returns : goal.returns
returns c = rw (sym (of_views top_setting top_of c.args.tops.now)) c.set_among.ensures
