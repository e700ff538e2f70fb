-- Of which fields an index is.
use Rattle.std.specs.Prelude.{◌≡◌, ℕ, List, Bool, false, Option, Some, None, find, slice_get}
use Rattle.std.specs.Str.{bytes_eq}
use Rattle.pbx_content.specs.declared.shape.FieldShape.{FieldShape}
use Rattle.pbx_content.specs.declared.shape.Shape.{Shape}
use Rattle.pbx_content.specs.declared.shape.EnumValueShape.{EnumValueShape}
use Rattle.pbx_content.specs.Shape.{declared_of, enum_values_of}
use Rattle.pbx_json_meaning.specs.Scalars.{value_named}
use Rattle.pbx_json_meaning.specs.Names.{field_named, json_name_is, name_is, extension_is}
use Rattle.pbx_json_schema.specs.Places.{place_under}
use Rattle.pbx_json_schema.specs.declared.name_places.NamePlaces.{NamePlaces}
use Rattle.pbx_json_schema.specs.declared.field_names.FieldNames.{FieldNames}
use Rattle.std.specs.BTreeMap.{get}
use Rattle.std.specs.Ordering.{nat_cmp}
use Rattle.pbx_json_schema.specs.declared.schema_names.SchemaNames.{SchemaNames}
use Rattle.pbx_json_schema.specs.declared.type_forms.TypeForms.{TypeForms}
use Rattle.pbx_json_schema.specs.declared.type_names.TypeNames.{TypeNames}
use Rattle.pbx_wkt_types.specs.declared.form.Form.{Form}
use Rattle.pbx_wkt_types.specs.Shapes.{form_of}
use Rattle.pbx_content.specs.declared.shape.MessageShape.{MessageShape}
use Rattle.std.specs.List.{position}
use Rattle.std.specs.Option.{IfSome}
use Rattle.pbx_json_schema.specs.declared.field_names.Sort.{Sort}
use Rattle.pbx_json_schema.specs.declared.field_names.Sort.TheVariants.{Json, Source, Extension}

-- the element at a place, if there is one
abbrev pub item_at : {X : Type 0} → List X → Option ℕ → Option X
item_at xs None = None
item_at xs (Some i) = slice_get xs i

-- the element whose place is under the name
abbrev pub item_under : {X : Type 0} → List X → NamePlaces → List ℕ → Option X
item_under xs places name = item_at xs (place_under name places)

-- The index is of these fields: by it each key leads to the field that it names, and each name in the source to the first field of that name.
unfoldable pub IsIndexOf : List FieldShape → FieldNames → Type 0
IsIndexOf fs index =
    ((key : List ℕ) → item_under fs index.by_key key ≡ field_named key fs)
    × ((name : List ℕ) → item_under fs index.by_name name ≡ find (name_is name) fs)

-- the field's name of a sort, if it has one of that sort
abbrev pub is_called : Option (List ℕ) → List ℕ → Bool
is_called None key = false
is_called (Some name) key = bytes_eq name key

-- the field has this name of the sort
abbrev pub is_named : Sort → List ℕ → FieldShape → Bool
is_named Json key f = json_name_is key f
is_named Source key f = name_is key f
is_named Extension key f = extension_is key f

-- the places are those of the values, of several of one name that of the first
unfoldable pub AreNamesOf : List EnumValueShape → NamePlaces → Type 0
AreNamesOf vs places = (name : List ℕ) → item_under vs places name ≡ value_named name vs

-- the places are those of the message types, of several of one name that of the first
unfoldable pub ArePlacesOf : List MessageShape → NamePlaces → Type 0
ArePlacesOf ms places = (name : List ℕ) → place_under name places ≡ position (λ m. bytes_eq m.full_name name) ms

-- the form that is kept of a type is the type's
abbrev pub AreFormsIn : Shape → TypeForms → Type 0
AreFormsIn shape forms = (t : ℕ) (own : Form) → get nat_cmp forms.forms t ≡ Some own → own ≡ form_of shape t

-- the places that are kept, if some are, are those of the message types, and the forms are the types'
pub record AreTypesIn (shape : Shape) (names : TypeNames) : Type 0 where
  pub places : IfSome names.places (ArePlacesOf shape.messages)
  pub forms : AreFormsIn shape names.forms

-- the index that is kept of a type is of its fields, that of an enum is of its values, and the places are those of the types
pub record AreNamesIn (shape : Shape) (names : SchemaNames) : Type 0 where
  pub types : (t : ℕ) (own : FieldNames) → get nat_cmp names.types t ≡ Some own → IsIndexOf (declared_of shape t) own
  pub enums : (e : ℕ) (own : NamePlaces) → get nat_cmp names.enums e ≡ Some own → AreNamesOf (enum_values_of shape e) own
  pub urls : AreTypesIn shape names.urls
