-- Members of oneofs, by descriptors (Protocol Buffers "Language Guide (proto 3)": Oneof).
use Rattle.std.specs.Prelude.{◌≡◌, ◌↔◌, ◌==◌, false, true, IsTrue, Contains}
use Rattle.pbx_content.specs.declared.shape.FieldShape.{FieldShape}
use Rattle.pbx_content.specs.Shape.{is_other}
use Rattle.pbx_desc_records.specs.declared.field.FieldDescriptorProto.{FieldDescriptorProto}
use Rattle.pbx_desc_records.specs.declared.field.OneofDescriptorProto.{OneofDescriptorProto}
use Rattle.pbx_desc_records.specs.declared.message.DescriptorProto.{DescriptorProto}
use Rattle.pbx_link_meaning.specs.Descriptors.{Described, fields_of_message, oneofs_of_message, number_of_field, is_member}
use Rattle.pbx_link_meaning.specs.Shapes.{field_shape, extension_shape}
use Rattle.pbx_message_laws.specs.Pools.{IsPooled}

-- two fields with different numbers are members of one oneof of the message
pub record AreMembers (d : Described DescriptorProto) (x y : Described FieldDescriptorProto) : Type 0 where
  pub oneof : Described OneofDescriptorProto
  pub within : Contains (oneofs_of_message d) oneof
  pub first : is_member x.part oneof.part ≡ true
  pub second : is_member y.part oneof.part ≡ true
  pub apart : (number_of_field x == number_of_field y) ≡ false

-- A field of a message is another member of the oneof of a field exactly where both are members of one oneof.
abbrev pub OtherIsMember : Type 0
OtherIsMember =
    (d : Described DescriptorProto) (x y : Described FieldDescriptorProto) → IsPooled d → Contains (fields_of_message d) x
    → Contains (fields_of_message d) y → IsTrue (is_other (field_shape x) (field_shape y)) ↔ AreMembers d x y

-- An extension is no member of a oneof.
abbrev pub ExtensionIsNone : Type 0
ExtensionIsNone =
    (x : Described FieldDescriptorProto) (g : FieldShape) → (is_other (extension_shape x) g ≡ false) × (is_other g (extension_shape x) ≡ false)
