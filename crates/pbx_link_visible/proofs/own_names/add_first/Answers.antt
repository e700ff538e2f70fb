use Rattle.std.proofs.Common.{arith}
use Rattle.std.proofs.lemmas.Map.Text.{text_keys}
use Rattle.pbx_link_visible.proofs.own_names.add_first.Goals as goal

pub returns : goal.returns
returns c = λ q. grind (arith, text_keys)
