use Rattle.std.proofs.Common.{ap}
use Rattle.std.specs.Map.{lookup}
use Rattle.std.specs.BTreeMap.{is_at}
use Rattle.std.proofs.lemmas.Map.Text.{text_cmp}
use Rattle.pbx_link_names.specs.Names.{under}
use Rattle.pbx_link_names.proofs.name_map.NameMap.new.Goals as goal

pub returns : goal.returns
unfolding under
returns g c = λ name. ap (lookup (is_at (text_cmp name))) c.new.ensures.empty
