use Rattle.std.proofs.Common.{ap}
use Rattle.std.specs.Map.{lookup}
use Rattle.std.specs.BTreeMap.{is_at}
use Rattle.std.proofs.lemmas.Map.Text.{text_cmp}
use Rattle.pbx_link_names.specs.Numbers.{is_there, is_in}
use Rattle.pbx_link_names.proofs.numbered_names.NumberedNames.new.Goals as goal

pub returns : goal.returns
unfolding is_there
returns c = λ name number. ap (λ es. is_in number (lookup (is_at (text_cmp name)) es)) c.new.ensures.empty
