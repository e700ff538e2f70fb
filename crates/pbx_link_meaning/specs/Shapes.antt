-- The shape of the types of a pool: what its linked records say of the meaning of bytes and of JSON (Protocol Buffers `descriptor.proto`;
-- "Encoding"; "Application Note: Field Presence").
use Rattle.std.specs.Prelude.{ℕ, ◌==◌, ℤ, List, ◌++◌, map, length, position, unwrap_or, true, false, Option, Some, None, option_and_then, if◌then◌else◌}
use Rattle.std.specs.Str.{bytes_eq}
use Rattle.pbx_content.specs.declared.shape.Kind.{Kind}
use Rattle.pbx_content.specs.declared.shape.Kind.TheVariants as kind
use Rattle.pbx_content.specs.declared.shape.Cardinality.{Cardinality}
use Rattle.pbx_content.specs.declared.shape.Cardinality.TheVariants.{Singular, Repeated, Map}
use Rattle.pbx_content.specs.declared.shape.FieldShape.{FieldShape}
use Rattle.pbx_content.specs.declared.shape.MessageShape.{MessageShape}
use Rattle.pbx_content.specs.declared.shape.EnumValueShape.{EnumValueShape}
use Rattle.pbx_content.specs.declared.shape.EnumShape.{EnumShape}
use Rattle.pbx_content.specs.declared.shape.Shape.{Shape}
use Rattle.pbx_desc_records.specs.declared.enumeration.EnumDescriptorProto.{EnumDescriptorProto}
use Rattle.pbx_desc_records.specs.declared.enumeration.EnumValueDescriptorProto.{EnumValueDescriptorProto}
use Rattle.pbx_desc_records.specs.declared.field.FieldDescriptorProto.{FieldDescriptorProto}
use Rattle.pbx_desc_records.specs.declared.message.DescriptorProto.{DescriptorProto}
use Rattle.pbx_desc_records.specs.declared.file.FileDescriptorProto.{FileDescriptorProto}
use Rattle.pbx_link_definitions.specs.Names.{text_or_empty}
use Rattle.pbx_link_definitions.specs.Says.{number_or_zero, signed_or_zero, is_repeated, is_proto3}
use Rattle.pbx_link_definitions.specs.Definitions.{message_name, enum_name, field_name}
use Rattle.pbx_link_meaning.specs.Descriptors.{Described, number_of_field, all_messages, all_enums, fields_of_message, extensions_of_message, extension_json_name}
use Rattle.pbx_link_meaning.specs.Descriptors.{values_of_enum, message_referred, referred, is_map, is_packed, has_presence, extension_has_presence, with_number}

-- ---- numbers and places

-- an index, if there is one
abbrev pub index_if : Option ℤ → Option ℕ
index_if None = None
index_if (Some z) = Some (number_or_zero (Some z))

-- the place of the message of exactly this full name among the messages of the pool
abbrev pub message_place : List FileDescriptorProto → List ℕ → Option ℕ
message_place pool name = position (λ d. bytes_eq (message_name d.part) name) (all_messages pool)

-- the place of a message of the pool among them; one of its full name is there, so that the 0 never comes
abbrev pub place_of : Described DescriptorProto → ℕ
place_of d = unwrap_or (message_place d.pool (message_name d.part)) 0

-- the place of the enum of exactly this full name among the enums of the pool
abbrev pub enum_place : List FileDescriptorProto → List ℕ → Option ℕ
enum_place pool name = position (λ d. bytes_eq (enum_name d.part) name) (all_enums pool)

-- the place of the message that a linked reference names, and that behind the last where there is none
abbrev pub place_of_message : List FileDescriptorProto → Option (List ℕ) → ℕ
place_of_message pool name = unwrap_or (option_and_then (message_place pool) (referred name)) (length (all_messages pool))

-- the place of the enum that a linked reference names, likewise
abbrev pub place_of_enum : List FileDescriptorProto → Option (List ℕ) → ℕ
place_of_enum pool name = unwrap_or (option_and_then (enum_place pool) (referred name)) (length (all_enums pool))

-- ---- kinds (`descriptor.proto`: FieldDescriptorProto.Type)

-- the scalar of a number; 1 to 18 without 10, 11 and 14 are such numbers
abbrev pub scalar_kind : ℕ → Kind
scalar_kind n =
    if n == 1 then kind.Double else (if n == 2 then kind.Float else (if n == 3 then kind.Int64 else (if n == 4 then kind.Uint64
    else (if n == 5 then kind.Int32 else (if n == 6 then kind.Fixed64 else (if n == 7 then kind.Fixed32 else (if n == 8 then kind.Bool
    else (if n == 9 then kind.String else (if n == 12 then kind.Bytes else (if n == 13 then kind.Uint32 else (if n == 15 then kind.Sfixed32
    else (if n == 16 then kind.Sfixed64 else (if n == 17 then kind.Sint32 else kind.Sint64)))))))))))))

-- the kind of a type number and a type name
abbrev pub kind_by : List FileDescriptorProto → ℕ → Option (List ℕ) → Kind
kind_by pool n name =
    if n == 11 then kind.Message (place_of_message pool name) else (if n == 14 then kind.Enum (place_of_enum pool name) else scalar_kind n)

-- the kind of a field; of a map that of the entry
abbrev pub kind_of : Described FieldDescriptorProto → Kind
kind_of x = kind_by x.pool (number_or_zero x.part.item.kind) x.part.item.type_name

-- the kind of a field of an entry, if the entry has it
abbrev pub part_kind : Option (Described FieldDescriptorProto) → Kind
part_kind None = kind.Float
part_kind (Some x) = kind_of x

-- the kind of the field of this number of an entry
abbrev pub entry_kind : ℕ → Option (Described DescriptorProto) → Kind
entry_kind n None = kind.Float
entry_kind n (Some m) = part_kind (with_number (fields_of_message m) n)

-- the message type of a field
abbrev pub type_of_field : Described FieldDescriptorProto → Option (Described DescriptorProto)
type_of_field x = message_referred x.pool x.part.item.type_name

-- of a map what stands under a key
abbrev pub value_kind : Described FieldDescriptorProto → Kind
value_kind x = if is_map x then entry_kind 2 (type_of_field x) else kind_of x

-- one value, a list, or one for each key of this kind
abbrev pub cardinality_of : Described FieldDescriptorProto → Cardinality
cardinality_of x = if is_map x then Map (entry_kind 1 (type_of_field x)) else (if is_repeated x.part.item then Repeated else Singular)

-- of a map the place of the type of its entries
abbrev pub entry_place : Described FieldDescriptorProto → Option ℕ
entry_place x = if is_map x then Some (place_of_message x.pool x.part.item.type_name) else None

-- ---- fields, messages, enums

-- a field of a message
abbrev pub field_shape : Described FieldDescriptorProto → FieldShape
field_shape x = record {
  number = number_of_field x;
  name = text_or_empty x.part.item.name;
  json_name = text_or_empty x.part.item.json_name;
  is_extension = false;
  kind = value_kind x;
  cardinality = cardinality_of x;
  presence = has_presence x;
  oneof = index_if x.part.item.oneof_index;
  packed = is_packed x;
  default = x.part.item.default_value;
  entry = entry_place x;
}

-- an extension goes by its full name
abbrev pub extension_shape : Described FieldDescriptorProto → FieldShape
extension_shape x = record (field_shape x) {
  name = field_name x.part;
  json_name = extension_json_name x;
  is_extension = true;
  presence = extension_has_presence x;
  oneof = None;
}

-- the fields in declared order, and behind them the extensions in the order of the pool
abbrev pub message_shape : Described DescriptorProto → MessageShape
message_shape d = record {
  full_name = message_name d.part;
  fields = map field_shape (fields_of_message d) ++ map extension_shape (extensions_of_message d);
  keeps_order = false;
  proto3 = is_proto3 d.file;
}

-- a value of an enum
abbrev pub value_shape : Described EnumValueDescriptorProto → EnumValueShape
value_shape v = record { name = text_or_empty v.part.item.name; number = signed_or_zero v.part.item.number }

-- an enum
abbrev pub enum_shape : Described EnumDescriptorProto → EnumShape
enum_shape d = record { full_name = enum_name d.part; values = map value_shape (values_of_enum d) }

-- the shape of the types of a pool: a message or an enum has its place in `all_messages` or `all_enums`
abbrev pub shape_of : List FileDescriptorProto → Shape
shape_of pool = record { messages = map message_shape (all_messages pool); enums = map enum_shape (all_enums pool) }

-- the place of the message of exactly that full name
abbrev pub message_named : List ℕ → Shape → Option ℕ
message_named name shape = position (λ (m : MessageShape). bytes_eq m.full_name name) shape.messages
