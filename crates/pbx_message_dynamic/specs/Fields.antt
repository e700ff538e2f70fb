-- Fields of dynamic messages: whose they are, and what reading, setting and clearing them does.
use Rattle.std.specs.Prelude.{false, ◌≡◌, ◌↔◌, ℕ, List, Bool, not, ◌&&◌, IsTrue, Option, Some, None, find}
use Rattle.std.specs.Str.{bytes_eq}
use Rattle.pbx_content.specs.declared.shape.FieldShape.{FieldShape}
use Rattle.pbx_content.specs.Content.{fields, get, has, without, with_fields}
use Rattle.pbx_content.specs.Shape.{field_of, is_float}
use Rattle.pbx_desc_records.specs.declared.field.FieldDescriptorProto.{FieldDescriptorProto}
use Rattle.pbx_desc_records.specs.declared.message.DescriptorProto.{DescriptorProto}
use Rattle.pbx_link_meaning.specs.Descriptors.{Described, IsSame, parent_of, extended_of, number_of_field}
use Rattle.pbx_message_laws.specs.Defaults.{value_or_default}
use Rattle.pbx_message_laws.specs.Fields.{set_value}
use Rattle.pbx_message_dynamic.specs.declared.error.SetFieldError.{SetFieldError}
use Rattle.pbx_message_dynamic.specs.declared.error.SetFieldError.TheVariants as errors
use Rattle.pbx_message_dynamic.specs.declared.value.Value.{Value}
use Rattle.pbx_message_dynamic.specs.Message.{Dynamic, shape_in, type_fields, type_declared, with_content}
use Rattle.pbx_message_dynamic.specs.Values.{val_of_value, IsOfField}

-- ---- whose a field is

-- The fields that a call may mean: a descriptor or a name means at most one field of the message.
abbrev pub Meant : Type 1
Meant = FieldShape → Type 0

-- the field is one of this message type or of one that is the same, and this is its shape
abbrev pub IsOwnField : Described DescriptorProto → Described FieldDescriptorProto → Meant
IsOwnField d x f = (p : Described DescriptorProto) × (parent_of x ≡ Some p) × IsSame d p × (field_of (number_of_field x) (type_fields d) ≡ Some f)

-- the extension extends this message type or one that is the same, and this is its shape
abbrev pub IsOwnExtension : Described DescriptorProto → Described FieldDescriptorProto → Meant
IsOwnExtension d x f = (p : Described DescriptorProto) × (extended_of x ≡ Some p) × IsSame d p × (field_of (number_of_field x) (type_fields d) ≡ Some f)

-- the first declared field of the name; an extension has none here
abbrev pub IsNamed : Described DescriptorProto → List ℕ → Meant
IsNamed d name f = find (λ (g : FieldShape). not g.is_extension && bytes_eq g.name name) (type_declared d) ≡ Some f

-- ---- reading

-- The field's value or its default, as a value of its kind. None is the answer where the message has no such field, or it is of a float kind.
abbrev pub IsGot : Dynamic → Meant → Option Value → Type 0
IsGot m Own None = (f : FieldShape) → Own f → IsTrue (is_float f.kind)
IsGot m Own (Some v) =
    (f : FieldShape) × Own f × IsOfField m.of.pool f v × (val_of_value v ≡ value_or_default (shape_in m) f (get f.number (fields m.content)))

-- true exactly where the message has the field, which is of no float kind, and a value of it
abbrev pub HasValue : Dynamic → Meant → Bool → Type 0
HasValue m Own b = IsTrue b ↔ ((f : FieldShape) × Own f × (is_float f.kind ≡ false) × IsTrue (has f.number (fields m.content)))

-- ---- changing

-- the message has the field, the value is of its kind, and the field has it now
abbrev pub IsFieldSet : Dynamic → Meant → Value → Dynamic → Type 0
IsFieldSet m Own v new =
    (f : FieldShape) × Own f × IsOfField m.of.pool f v × (new ≡ with_content m (set_value (shape_in m) (type_fields m.of) f (val_of_value v) m.content))

-- why the value is not set: the message has no such field; or the value is not of its kind; or memory ran out
abbrev pub IsNotSet : Dynamic → Meant → Value → SetFieldError → Type 0
IsNotSet m Own v errors.NotFound = (f : FieldShape) → Own f → ⊥
IsNotSet m Own v errors.InvalidType = (f : FieldShape) × Own f × (IsOfField m.of.pool f v → ⊥)
IsNotSet m Own v errors.NoMemory = Unit {0}

-- Where the message has the field it is without its value, and otherwise as it was.
pub record IsCleared (m : Dynamic) (Own : FieldShape → Type 0) (new : Dynamic) : Type 0 where
  pub own : (f : FieldShape) → Own f → new ≡ with_content m (with_fields m.content (without f.number (fields m.content)))
  pub other : ((f : FieldShape) → Own f → ⊥) → new ≡ m
