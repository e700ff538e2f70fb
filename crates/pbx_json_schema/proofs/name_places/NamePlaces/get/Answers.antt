use Rattle.std.proofs.Common.{◌∙◌}
use Rattle.pbx_json_schema.specs.Places.{place_under}
use Rattle.pbx_json_schema.proofs.name_places.NamePlaces.get.Goals as goal

pub returns : goal.returns
unfolding place_under
returns c = c.copied.ensures ∙ c.get.ensures.value
