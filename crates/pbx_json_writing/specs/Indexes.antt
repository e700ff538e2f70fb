-- What was looked up in a schema: values of enums by their numbers, and types by their URLs.
use Rattle.std.specs.Prelude.{◌≡◌, ℕ, ℤ, List, Option, IfSome, option_and_then, slice_get}
use Rattle.std.specs.BTreeMap.{BTreeMap, get}
use Rattle.std.specs.Ordering.{nat_cmp, int_cmp}
use Rattle.pbx_content.specs.Shape.{enum_values_of}
use Rattle.pbx_content.specs.declared.shape.EnumValueShape.{EnumValueShape}
use Rattle.pbx_content.specs.declared.shape.Shape.{Shape}
use Rattle.pbx_json_meaning.specs.Canonical.{value_of_number}
use Rattle.pbx_json_schema.specs.Index.{AreTypesIn}
use Rattle.pbx_json_writing.specs.declared.indexes.Indexes.{Indexes}

-- the value that the places of an index tell for a number
abbrev pub value_at : List EnumValueShape → BTreeMap ℤ ℕ → ℤ → Option EnumValueShape
value_at vs index z = option_and_then (λ i. slice_get vs i) (get int_cmp index z)

-- the index tells the first value of each number
abbrev pub IsIndexOf : List EnumValueShape → BTreeMap ℤ ℕ → Type 0
IsIndexOf vs index = (z : ℤ) → value_at vs index z ≡ value_of_number z vs

-- each index is that of the enum at its place
unfoldable pub AreEnumIndexes : Shape → BTreeMap ℕ (BTreeMap ℤ ℕ) → Type 0
AreEnumIndexes shape indexes = (e : ℕ) → IfSome (get nat_cmp indexes e) (IsIndexOf (enum_values_of shape e))

-- all that is kept is of the shape
pub record AreIndexes (shape : Shape) (indexes : Indexes) : Type 0 where
  pub enums : AreEnumIndexes shape indexes.enums
  pub types : AreTypesIn shape indexes.types
