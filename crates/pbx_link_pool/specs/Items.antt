-- What the index of a pool keeps of one file, as values under names.
use Rattle.std.specs.Prelude.{ℕ, ◌==◌, ℤ, List, [], ◌∷◌, map, filter, Bool, not, is_some, if◌then◌else◌, Option, Some, None}
use Rattle.std.specs.List.{enumerate_from}
use Rattle.pbx_link_names.specs.Names.{under}
use Rattle.pbx_link_names.specs.declared.name_map.NameMap.{NameMap}
use Rattle.pbx_desc_records.specs.declared.field.FieldDescriptorProto.{FieldDescriptorProto}
use Rattle.pbx_link_definitions.specs.Definitions.{Part, Defined, full_name, is_scope}

-- nothing is under the name of the item
abbrev pub is_new : {V : Type 0} → NameMap V → List ℕ × V → Bool
is_new map item = not (is_some (under item.0 map))

-- the items under whose names nothing is
abbrev pub new_items : {V : Type 0} → NameMap V → List (List ℕ × V) → List (List ℕ × V)
new_items map items = filter (is_new map) items

-- the index of a file under its name, if it has one
abbrev pub file_items : ℕ → Option (List ℕ) → List (List ℕ × ℕ)
file_items index None = []
file_items index (Some name) = (name, index) ∷ []

-- the index of the file under the full name of each definition, and whether names may be looked up in it
abbrev pub definition_items : ℕ → List Defined → List (List ℕ × (ℕ × Bool))
definition_items index ds = map (λ d. (full_name d, (index, is_scope d.sort))) ds

-- the index of the file and its own under the full name of each part
abbrev pub place_items : {X : Type 0} → (X → List ℕ) → ℕ → List X → List (List ℕ × (ℕ × ℕ))
place_items name index parts = map (λ x. (name x.1, (index, x.0))) (enumerate_from 0 parts)

-- what stands behind a leading dot, with the number
abbrev pub behind_dot : List ℕ → ℤ → List (List ℕ × ℤ)
behind_dot [] number = []
behind_dot (b ∷ name) number = if b == 46 then (name, number) ∷ [] else []

-- the exact name with the number, if both are there
abbrev pub exact_item : Option (List ℕ) → Option ℤ → List (List ℕ × ℤ)
exact_item (Some name) (Some number) = behind_dot name number
exact_item name number = []

-- which message an extension extends, and under which number
abbrev pub extended_item : Part FieldDescriptorProto → List (List ℕ × ℤ)
extended_item x = exact_item x.item.extendee x.item.number
