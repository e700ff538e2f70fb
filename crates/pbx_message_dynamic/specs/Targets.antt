-- The field that a call means, by its number.
use Rattle.std.specs.Prelude.{◌≡◌, ℕ, Option, Some, None}
use Rattle.pbx_content.specs.declared.shape.FieldShape.{FieldShape}
use Rattle.pbx_content.specs.Shape.{field_of}
use Rattle.pbx_desc_records.specs.declared.message.DescriptorProto.{DescriptorProto}
use Rattle.pbx_link_meaning.specs.Descriptors.{Described}
use Rattle.pbx_message_dynamic.specs.Fields.{Meant}
use Rattle.pbx_message_dynamic.specs.Message.{type_fields}

-- the field of the message of this number
abbrev pub IsNumbered : Described DescriptorProto → ℕ → Meant
IsNumbered d n f = field_of n (type_fields d) ≡ Some f

-- what is meant is the field of the number, and nothing else
pub record IsOnly (d : Described DescriptorProto) (Own : FieldShape → Type 0) (n : ℕ) : Type 0 where
  pub field : FieldShape
  pub own : Own field
  pub numbered : IsNumbered d n field
  pub number : field.number ≡ n
  pub only : (g : FieldShape) → Own g → g ≡ field

-- no field is meant, or that of the number
abbrev pub IsTarget : Described DescriptorProto → Meant → Option ℕ → Type 0
IsTarget d Own None = (f : FieldShape) → Own f → ⊥
IsTarget d Own (Some n) = IsOnly d Own n
