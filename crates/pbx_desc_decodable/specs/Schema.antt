-- The schema of the built-in file google/protobuf/descriptor.proto.
use Rattle.std.specs.Prelude.{◌==◌, ℕ, zero, suc, List, [], ◌∷◌, filter, not}
use Rattle.pbx_content.specs.declared.shape.MessageShape.{MessageShape}
use Rattle.pbx_content.specs.declared.shape.Shape.{Shape}
use Rattle.pbx_link_meaning.specs.Shapes.{shape_of}
use Rattle.pbx_wkt_files.specs.Records.{file_record}
use Rattle.pbx_wkt_files.specs.Files.{descriptor_file}

-- the shape of the types of the built-in file, whose first two are FileDescriptorSet and FileDescriptorProto (Protocol Buffers `descriptor.proto`)
unfoldable pub descriptor_schema : Shape
descriptor_schema = shape_of (file_record descriptor_file ∷ [])

-- the type without its field of the number
abbrev pub without_field : ℕ → MessageShape → MessageShape
without_field n m = record {
  full_name = m.full_name;
  fields = filter (λ f. not (f.number == n)) m.fields;
  keeps_order = m.keeps_order;
  proto3 = m.proto3;
}

-- the types, the one at the place without its field of the number
abbrev pub without_field_at : ℕ → ℕ → List MessageShape → List MessageShape
without_field_at t n [] = []
without_field_at zero n (m ∷ ms) = without_field n m ∷ ms
without_field_at (suc t) n (m ∷ ms) = m ∷ without_field_at t n ms

-- the same shape but for the field 9, `source_code_info`, of FileDescriptorProto, below which there are no options
unfoldable pub options_schema : Shape
options_schema = record { messages = without_field_at 1 9 descriptor_schema.messages; enums = descriptor_schema.enums }
