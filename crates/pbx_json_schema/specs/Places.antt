-- Places under names.
use Rattle.std.specs.Prelude.{ℕ, List, Option}
use Rattle.std.specs.BTreeMap.{get_by_text}
use Rattle.pbx_json_schema.specs.declared.name_places.NamePlaces.{NamePlaces}

-- the place under the name
unfoldable pub place_under : List ℕ → NamePlaces → Option ℕ
place_under name places = get_by_text places.places name
