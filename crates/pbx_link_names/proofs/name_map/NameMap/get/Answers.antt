use Rattle.pbx_link_names.specs.Names.{under}
use Rattle.pbx_link_names.proofs.name_map.NameMap.get.Goals as goal

pub returns : goal.returns
unfolding under
returns g c = c.get.ensures.value
