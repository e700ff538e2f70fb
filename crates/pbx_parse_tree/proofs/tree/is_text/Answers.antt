use Rattle.pbx_parse_tree.proofs.Texts.{told}
use Rattle.pbx_parse_tree.proofs.tree.is_text.Goals as goal

pub returns : goal.returns
returns c = told c.stands_for_text.result c.args.text.now c.stands_for_text.ensures
