-- Places at which a rule is broken, as lists and as what a search for one of them answers.
use Rattle.std.specs.Prelude.{◌≡◌, List, [], ◌∷◌, ◌++◌, map, filter, Bool, Option, Some, None, Contains, if◌then◌else◌}
use Rattle.std.specs.List.{list_any}
use Rattle.pbx_link_definitions.specs.Definitions.{Place}

-- the places of the items that have the property
abbrev pub places_where : {X : Type 0} → (X → Bool) → (X → Place) → List X → List Place
places_where P place xs = map place (filter P xs)

-- the items that are like one of those before them, or like one of `before`
unfoldable pub repeated : {X : Type 0} → (X → X → Bool) → List X → List X → List X
repeated like before [] = []
repeated like before (x ∷ xs) = (if list_any (like x) before then x ∷ [] else []) ++ repeated like (x ∷ before) xs

-- the place, where the rule is broken there
abbrev pub place_if : Bool → Place → List Place
place_if broken place = if broken then place ∷ [] else []

-- one of the places, or none where there is none
abbrev pub IsAmong : List Place → Option Place → Type 0
IsAmong places None = places ≡ []
IsAmong places (Some place) = Contains places place
