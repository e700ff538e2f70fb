-- What stands in the shape of a pool for a record, told by the record and the files of the pool alone.
use Rattle.std.specs.Prelude.{ℕ, ◌&&◌, ◌||◌, not, ◌∷◌, [], ◌++◌, List, map, find, Bool, true, false, Option, Some, None, is_some, option_map, option_and_then, slice_get, if◌then◌else◌}
use Rattle.pbx_content.specs.declared.shape.Kind.{Kind}
use Rattle.pbx_content.specs.declared.shape.Kind.TheVariants as kind
use Rattle.pbx_content.specs.declared.shape.Cardinality.{Cardinality}
use Rattle.pbx_content.specs.declared.shape.Cardinality.TheVariants.{Singular, Repeated, Map}
use Rattle.pbx_content.specs.declared.shape.EnumShape.{EnumShape}
use Rattle.pbx_content.specs.declared.shape.EnumValueShape.{EnumValueShape}
use Rattle.pbx_content.specs.declared.shape.FieldShape.{FieldShape}
use Rattle.pbx_content.specs.declared.shape.MessageShape.{MessageShape}
use Rattle.pbx_desc_records.specs.declared.enumeration.EnumDescriptorProto.{EnumDescriptorProto}
use Rattle.pbx_desc_records.specs.declared.enumeration.EnumValueDescriptorProto.{EnumValueDescriptorProto}
use Rattle.pbx_desc_records.specs.declared.field.FieldDescriptorProto.{FieldDescriptorProto}
use Rattle.pbx_desc_records.specs.declared.file.FileDescriptorProto.{FileDescriptorProto}
use Rattle.pbx_desc_records.specs.declared.message.DescriptorProto.{DescriptorProto}
use Rattle.pbx_link_definitions.specs.Names.{text_or_empty}
use Rattle.pbx_link_definitions.specs.Definitions.{Part, messages, message_name, enum_name, field_name}
use Rattle.pbx_link_definitions.specs.Says.{number_or_zero, signed_or_zero, is_number, is_repeated, is_entry, own_fields, option_bool}
use Rattle.pbx_link_meaning.specs.Descriptors.{Described, message_referred, is_packable, packed_by}
use Rattle.pbx_link_meaning.specs.Shapes.{index_if, kind_by, place_of_message}
use Rattle.pbx_link_shapes.specs.declared.kinds.FieldType.{FieldType}

-- ---- kinds

-- the record of the message that a linked reference names
unfoldable pub message_item : List FileDescriptorProto → Option (List ℕ) → Option DescriptorProto
message_item pool name = option_map (λ (d : Described DescriptorProto). d.part.item) (message_referred pool name)

-- the record of the message at the index in the file of that one
unfoldable pub item_at : List FileDescriptorProto → ℕ → ℕ → Option DescriptorProto
item_at pool file index =
    option_and_then (λ f. option_map (λ (p : Part DescriptorProto). p.item) (slice_get (messages f) index)) (slice_get pool file)

-- the kind of a field
unfoldable pub item_kind : List FileDescriptorProto → FieldDescriptorProto → Kind
item_kind pool x = kind_by pool (number_or_zero x.kind) x.type_name

-- the message, if it is the entry of a map
abbrev pub if_entry : Option DescriptorProto → Option DescriptorProto
if_entry None = None
if_entry (Some m) = if is_entry m then Some m else None

-- the entry, if the field is a map
unfoldable pub entry_of : List FileDescriptorProto → FieldDescriptorProto → Option DescriptorProto
entry_of pool x = if is_repeated x then if_entry (message_item pool x.type_name) else None

-- the kind of a field of an entry, if the entry has it
abbrev pub item_kind_if : List FileDescriptorProto → Option FieldDescriptorProto → Kind
item_kind_if pool None = kind.Float
item_kind_if pool (Some x) = item_kind pool x

-- the first of the fields with this number
abbrev pub item_numbered : ℕ → List FieldDescriptorProto → Option FieldDescriptorProto
item_numbered n xs = find (λ (x : FieldDescriptorProto). is_number x.number n) xs

-- the kind of the field of this number of an entry
unfoldable pub item_entry_kind : List FileDescriptorProto → ℕ → DescriptorProto → Kind
item_entry_kind pool n m = item_kind_if pool (item_numbered n (own_fields m))

-- what stands under a key of a map with this entry, or else is a value of the field
abbrev pub value_kind_by : List FileDescriptorProto → FieldDescriptorProto → Option DescriptorProto → Kind
value_kind_by pool x None = item_kind pool x
value_kind_by pool x (Some entry) = item_entry_kind pool 2 entry

-- one for each key of a map with this entry, or else a list or one value
abbrev pub cardinality_by : List FileDescriptorProto → FieldDescriptorProto → Option DescriptorProto → Cardinality
cardinality_by pool x None = if is_repeated x then Repeated else Singular
cardinality_by pool x (Some entry) = Map (item_entry_kind pool 1 entry)

-- the place of the type of the entries of a map with this entry
abbrev pub entry_place_by : List FileDescriptorProto → FieldDescriptorProto → Option DescriptorProto → Option ℕ
entry_place_by pool x None = None
entry_place_by pool x (Some entry) = Some (place_of_message pool x.type_name)

-- the kind of a value, how many there are, and of a map the place of the type of its entries
unfoldable pub item_type : List FileDescriptorProto → FieldDescriptorProto → FieldType
item_type pool x = record {
  kind = value_kind_by pool x (entry_of pool x);
  cardinality = cardinality_by pool x (entry_of pool x);
  entry = entry_place_by pool x (entry_of pool x);
}

-- ---- fields

-- a list that is written as one record, in a file of proto3 or not
abbrev pub item_packed : Bool → FieldDescriptorProto → Bool
item_packed proto3 x = is_repeated x && is_packable x.kind && packed_by proto3 (option_bool 2 x.options)

-- a singular field of proto2, of a message type, or in a oneof
abbrev pub item_presence : Bool → FieldDescriptorProto → Bool
item_presence proto3 x = not (is_repeated x) && (not proto3 || is_number x.kind 11 || is_some x.oneof_index)

-- a field of a message in a file of proto3 or not
unfoldable pub item_shape : List FileDescriptorProto → Bool → FieldDescriptorProto → FieldShape
item_shape pool proto3 x = record {
  number = number_or_zero x.number;
  name = text_or_empty x.name;
  json_name = text_or_empty x.json_name;
  is_extension = false;
  kind = (item_type pool x).kind;
  cardinality = (item_type pool x).cardinality;
  presence = item_presence proto3 x;
  oneof = index_if x.oneof_index;
  packed = item_packed proto3 x;
  default = x.default_value;
  entry = (item_type pool x).entry;
}

-- an extension
unfoldable pub part_shape : List FileDescriptorProto → Bool → Part FieldDescriptorProto → FieldShape
part_shape pool proto3 p = record {
  number = number_or_zero p.item.number;
  name = field_name p;
  json_name = 91 ∷ field_name p ++ 93 ∷ [];
  is_extension = true;
  kind = (item_type pool p.item).kind;
  cardinality = (item_type pool p.item).cardinality;
  presence = not (is_repeated p.item);
  oneof = None;
  packed = item_packed proto3 p.item;
  default = p.item.default_value;
  entry = (item_type pool p.item).entry;
}

-- ---- messages and enums

-- a message with its own fields alone
unfoldable pub own_shape : List FileDescriptorProto → Bool → Part DescriptorProto → MessageShape
own_shape pool proto3 p = record {
  full_name = message_name p;
  fields = map (item_shape pool proto3) (own_fields p.item);
  keeps_order = false;
  proto3 = proto3;
}

-- the message with one more field
abbrev pub with_field : FieldShape → MessageShape → MessageShape
with_field x m = record { full_name = m.full_name; fields = m.fields ++ x ∷ []; keeps_order = m.keeps_order; proto3 = m.proto3 }

-- a value of an enum
abbrev pub item_value : EnumValueDescriptorProto → EnumValueShape
item_value v = record { name = text_or_empty v.name; number = signed_or_zero v.number }

-- an enum
unfoldable pub part_enum : Part EnumDescriptorProto → EnumShape
part_enum p = record { full_name = enum_name p; values = map item_value p.item.value }
