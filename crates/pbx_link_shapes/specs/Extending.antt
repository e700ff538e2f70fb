-- Messages with some of the extensions of the pool, as they are while extensions are added one by one.
use Rattle.std.specs.Prelude.{◌≡◌, zero, suc, ℕ, List, [], ◌∷◌, ◌++◌, map, filter, false, Option, Some, None}
use Rattle.pbx_content.specs.declared.shape.MessageShape.{MessageShape}
use Rattle.pbx_content.specs.declared.shape.FieldShape.{FieldShape}
use Rattle.pbx_desc_records.specs.declared.field.FieldDescriptorProto.{FieldDescriptorProto}
use Rattle.pbx_desc_records.specs.declared.file.FileDescriptorProto.{FileDescriptorProto}
use Rattle.pbx_desc_records.specs.declared.message.DescriptorProto.{DescriptorProto}
use Rattle.pbx_link_definitions.specs.Names.{is_named, dotted}
use Rattle.pbx_link_definitions.specs.Definitions.{message_name}
use Rattle.pbx_link_definitions.specs.Says.{is_proto3}
use Rattle.pbx_link_meaning.specs.Descriptors.{Described, all_messages, fields_of_message}
use Rattle.pbx_link_rules.specs.Pool.{ArePooled}
use Rattle.pbx_link_meaning.specs.Shapes.{field_shape, extension_shape}
use Rattle.pbx_link_shapes.specs.Items.{with_field}

-- those of the extensions that extend the message
abbrev pub extending : Described DescriptorProto → List (Described FieldDescriptorProto) → List (Described FieldDescriptorProto)
extending d xs = filter (λ (x : Described FieldDescriptorProto). is_named x.part.item.extendee (dotted (message_name d.part))) xs

-- the message with these extensions alone
unfoldable pub shape_with : List (Described FieldDescriptorProto) → Described DescriptorProto → MessageShape
shape_with xs d = record {
  full_name = message_name d.part;
  fields = map field_shape (fields_of_message d) ++ map extension_shape (extending d xs);
  keeps_order = false;
  proto3 = is_proto3 d.file;
}

-- all messages with these extensions
unfoldable pub shapes_with : List FileDescriptorProto → List (Described FieldDescriptorProto) → List MessageShape
shapes_with pool xs = map (shape_with xs) (all_messages pool)

-- the item of this index is changed
unfoldable pub changed_at : {X : Type 0} → (X → X) → ℕ → List X → List X
changed_at change n [] = []
changed_at change zero (x ∷ xs) = change x ∷ xs
changed_at change (suc n) (x ∷ xs) = x ∷ changed_at change n xs

-- the message of this index, if there is one, has one more field
abbrev pub field_added : Option ℕ → FieldShape → List MessageShape → List MessageShape
field_added None x ms = ms
field_added (Some n) x ms = changed_at (with_field x) n ms

-- of whatever extensions the first messages of a pool are, of those and these the others are
unfoldable pub AddExtensions : List FileDescriptorProto → List (Described FieldDescriptorProto) → List MessageShape → List MessageShape → Type 0
AddExtensions pool more old new =
    ArePooled [] pool → (xs : List (Described FieldDescriptorProto)) → old ≡ shapes_with pool xs → new ≡ shapes_with pool (xs ++ more)
