-- What a content holds after one of its fields is set (Protocol Buffers "Language Guide (proto 3)": Oneof Features; "Application Note: Field Presence").
use Rattle.std.specs.Prelude.{ℕ, ◌==◌, ◌&&◌, List, [], ◌∷◌, Bool, false, Option, Some, if◌then◌else◌}
use Rattle.pbx_content.specs.declared.shape.Cardinality.{Cardinality}
use Rattle.pbx_content.specs.declared.shape.Cardinality.TheVariants.{Singular, Repeated, Map}
use Rattle.pbx_content.specs.declared.shape.FieldShape.{FieldShape}
use Rattle.pbx_content.specs.declared.shape.Shape.{Shape}
use Rattle.pbx_content.specs.Content.{Content, Fields, Val, fields, without, with_fields, with_option}
use Rattle.pbx_content.specs.Meaning.{shown}
use Rattle.pbx_content.specs.Records.{any}
use Rattle.pbx_content.specs.Shape.{is_other}

-- without the values of the other members of the oneof of f
abbrev pub cleared_others : FieldShape → List FieldShape → Fields → Fields
cleared_others f [] fs = fs
cleared_others f (g ∷ gs) fs = cleared_others f gs (if is_other f g then without g.number fs else fs)

-- another member of the oneof of f has the number
abbrev pub is_number_of_other : FieldShape → List FieldShape → ℕ → Bool
is_number_of_other f gs n = any (λ g. is_other f g && n == g.number) gs

-- a field that has its default as a value: a list or a map never has
abbrev pub keeps_default : Bool → Cardinality → Bool
keeps_default presence Singular = presence
keeps_default presence Repeated = false
keeps_default presence (Map k) = false

-- the value, or none where it is a default that f does not keep
abbrev pub value_kept : Shape → FieldShape → Val → Option Val
value_kept shape f v = shown shape (keeps_default f.presence f.cardinality) f.kind (Some v)

-- the content with this value of f, or without one where it is a default that f does not keep; of the oneof of f no other member has a value
abbrev pub set_value : Shape → List FieldShape → FieldShape → Val → Content → Content
set_value shape gs f v c = with_fields c (with_option f.number (value_kept shape f v) (cleared_others f gs (fields c)))
