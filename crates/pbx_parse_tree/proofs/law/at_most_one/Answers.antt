use Rattle.std.proofs.Common.{sym, ◌∙◌}
use Rattle.pbx_parse_tree.proofs.UniqueFile.{file_same}
use Rattle.pbx_parse_tree.proofs.law.at_most_one.Goals as goal

pub returns : goal.returns
returns c = λ ts a b f g p q. file_same a b f g (sym p ∙ q)
