use Rattle.std.proofs.Common.{ap}
use Rattle.std.specs.Map.{lookup}
use Rattle.std.specs.BTreeMap.{is_at}
use Rattle.std.proofs.lemmas.Map.Text.{text_cmp}
use Rattle.pbx_json_schema.specs.Places.{place_under}
use Rattle.pbx_json_schema.proofs.name_places.NamePlaces.new.Goals as goal

pub returns : goal.returns
unfolding place_under
returns c = λ name. ap (lookup (is_at (text_cmp name))) c.new.ensures.empty
