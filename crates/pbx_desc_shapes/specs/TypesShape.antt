-- The shape of the well-known types that records hold (`any.proto`, `duration.proto`, `empty.proto`, `field_mask.proto`, `struct.proto`,
-- `timestamp.proto`), and of the wrappers (`wrappers.proto`) but those of floats. `Value.number_value`, a float, is no field here.
use Rattle.std.specs.Prelude.{ℕ, List, [], ◌∷◌, Bool, true, false, Option, Some, None, codes}
use Rattle.pbx_content.specs.declared.shape.Kind.{Kind}
use Rattle.pbx_content.specs.declared.shape.Kind.TheVariants as kind
use Rattle.pbx_content.specs.declared.shape.Cardinality.{Cardinality}
use Rattle.pbx_content.specs.declared.shape.Cardinality.TheVariants.{Singular, Repeated, Map}
use Rattle.pbx_content.specs.declared.shape.FieldShape.{FieldShape}
use Rattle.pbx_content.specs.declared.shape.MessageShape.{MessageShape}
use Rattle.pbx_content.specs.declared.shape.Shape.{Shape}
use Rattle.pbx_desc_shapes.specs.declared.well_known_table.Form.{Form}
use Rattle.pbx_desc_shapes.specs.declared.well_known_table.Form.TheVariants.{One, Many, Member, Entries}

-- how many values a field has (Protocol Buffers "Language Guide (proto 3)": Field Cardinality, Maps)
abbrev pub cardinality_of : Form → Cardinality
cardinality_of One = Singular
cardinality_of Many = Repeated
cardinality_of Member = Singular
cardinality_of Entries = Map kind.String

abbrev pub is_message : Kind → Bool
is_message (kind.Message t) = true
is_message _ = false

-- whether it has presence (Protocol Buffers "Application Note: Field Presence": proto3)
abbrev pub has_presence : Kind → Form → Bool
has_presence k One = is_message k
has_presence k Many = false
has_presence k Member = true
has_presence k Entries = false

-- the oneof of a member
abbrev pub oneof_of : Form → Option ℕ
oneof_of One = None
oneof_of Many = None
oneof_of Member = Some 0
oneof_of Entries = None

-- the place of the entry of a map: the one map is that of `Struct`
abbrev pub entry_of : Form → Option ℕ
entry_of One = None
entry_of Many = None
entry_of Member = None
entry_of Entries = Some 5

-- a field of a file of proto3
abbrev pub field_shape : ℕ → List ℕ → List ℕ → Kind → Form → FieldShape
field_shape n name json k form = record {
  number = n;
  name = name;
  json_name = json;
  is_extension = false;
  kind = k;
  cardinality = cardinality_of form;
  presence = has_presence k form;
  oneof = oneof_of form;
  packed = false;
  default = None;
  entry = entry_of form;
}

-- the fields of Any
abbrev pub any_fields : List FieldShape
any_fields =
    field_shape 1 (codes "type_url") (codes "typeUrl") kind.String One
    ∷ field_shape 2 (codes "value") (codes "value") kind.Bytes One
    ∷ []

-- the fields of Duration and of Timestamp
abbrev pub time_fields : List FieldShape
time_fields =
    field_shape 1 (codes "seconds") (codes "seconds") kind.Int64 One
    ∷ field_shape 2 (codes "nanos") (codes "nanos") kind.Int32 One
    ∷ []

-- the fields of FieldMask
abbrev pub mask_fields : List FieldShape
mask_fields =
    field_shape 1 (codes "paths") (codes "paths") kind.String Many
    ∷ []

-- the fields of Struct
abbrev pub struct_fields : List FieldShape
struct_fields =
    field_shape 1 (codes "fields") (codes "fields") (kind.Message 6) Entries
    ∷ []

-- the fields of Struct.FieldsEntry
abbrev pub struct_entry_fields : List FieldShape
struct_entry_fields =
    field_shape 1 (codes "key") (codes "key") kind.String One
    ∷ field_shape 2 (codes "value") (codes "value") (kind.Message 6) One
    ∷ []

-- the fields of Value, all members of one oneof; `null_value` is an enum, which a record holds as its number
abbrev pub value_fields : List FieldShape
value_fields =
    field_shape 1 (codes "null_value") (codes "nullValue") kind.Int32 Member
    ∷ field_shape 3 (codes "string_value") (codes "stringValue") kind.String Member
    ∷ field_shape 4 (codes "bool_value") (codes "boolValue") kind.Bool Member
    ∷ field_shape 5 (codes "struct_value") (codes "structValue") (kind.Message 4) Member
    ∷ field_shape 6 (codes "list_value") (codes "listValue") (kind.Message 7) Member
    ∷ []

-- the fields of ListValue
abbrev pub list_fields : List FieldShape
list_fields =
    field_shape 1 (codes "values") (codes "values") (kind.Message 6) Many
    ∷ []

-- the field of a wrapper
abbrev pub wrapper_field : Kind → FieldShape
wrapper_field k = field_shape 1 (codes "value") (codes "value") k One

-- the fields of a wrapper
abbrev pub wrapped : Kind → List FieldShape
wrapped k = wrapper_field k ∷ []

abbrev pub message_shape : List ℕ → List FieldShape → MessageShape
message_shape name fields = record { full_name = name; fields = fields; keeps_order = false; proto3 = true }

-- The types by their places: 0 Any, 1 Duration, 2 Empty, 3 FieldMask, 4 Struct, 5 Struct.FieldsEntry, 6 Value, 7 ListValue, 8 Timestamp,
-- 9 Int64Value, 10 UInt64Value, 11 Int32Value, 12 UInt32Value, 13 BoolValue, 14 StringValue, 15 BytesValue.
unfoldable pub types_shape : Shape
types_shape = record {
  messages =
      message_shape (codes "google.protobuf.Any") any_fields
      ∷ message_shape (codes "google.protobuf.Duration") time_fields
      ∷ message_shape (codes "google.protobuf.Empty") []
      ∷ message_shape (codes "google.protobuf.FieldMask") mask_fields
      ∷ message_shape (codes "google.protobuf.Struct") struct_fields
      ∷ message_shape (codes "google.protobuf.Struct.FieldsEntry") struct_entry_fields
      ∷ message_shape (codes "google.protobuf.Value") value_fields
      ∷ message_shape (codes "google.protobuf.ListValue") list_fields
      ∷ message_shape (codes "google.protobuf.Timestamp") time_fields
      ∷ message_shape (codes "google.protobuf.Int64Value") (wrapped kind.Int64)
      ∷ message_shape (codes "google.protobuf.UInt64Value") (wrapped kind.Uint64)
      ∷ message_shape (codes "google.protobuf.Int32Value") (wrapped kind.Int32)
      ∷ message_shape (codes "google.protobuf.UInt32Value") (wrapped kind.Uint32)
      ∷ message_shape (codes "google.protobuf.BoolValue") (wrapped kind.Bool)
      ∷ message_shape (codes "google.protobuf.StringValue") (wrapped kind.String)
      ∷ message_shape (codes "google.protobuf.BytesValue") (wrapped kind.Bytes)
      ∷ [];
  enums = [];
}
