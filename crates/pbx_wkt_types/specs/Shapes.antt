-- Whether a message of a well-known name is the message that the public file declares, and how JSON tells the messages of a type (ProtoJSON
-- Format: the table of types).
use Rattle.std.specs.Prelude.{ℕ, zero, suc, List, [], ◌∷◌, length, Bool, true, false, not, ◌&&◌, ◌==◌, Option, Some, None, if◌then◌else◌}
use Rattle.std.specs.List.{list_all}
use Rattle.std.specs.Str.{bytes_eq}
use Rattle.pbx_content.specs.declared.shape.Kind.{Kind}
use Rattle.pbx_content.specs.declared.shape.Kind.TheVariants as kind
use Rattle.pbx_content.specs.declared.shape.Cardinality.{Cardinality}
use Rattle.pbx_content.specs.declared.shape.Cardinality.TheVariants.{Singular, Repeated, Map}
use Rattle.pbx_content.specs.declared.shape.Shape.{Shape}
use Rattle.pbx_content.specs.declared.shape.FieldShape.{FieldShape}
use Rattle.pbx_content.specs.declared.shape.MessageShape.{MessageShape}
use Rattle.pbx_content.specs.Shape.{declared_of, fields_of, field_of}
use Rattle.pbx_wkt_types.specs.Types.{message_name, enum_name}
use Rattle.pbx_wkt_types.specs.Known.{Sort, scalar, message, enum, Row, Known, known_of, struct_entry, struct_entry_name}
use Rattle.pbx_wkt_types.specs.declared.form.Form.{Form}
use Rattle.pbx_wkt_types.specs.declared.form.Form.TheVariants as forms

-- the message type at a place of the list stands in a proto3 file
abbrev pub is_proto3_at : List MessageShape → ℕ → Bool
is_proto3_at [] t = false
is_proto3_at (m ∷ ms) zero = m.proto3
is_proto3_at (m ∷ ms) (suc t) = is_proto3_at ms t

-- the number of a scalar kind in `FieldDescriptorProto.Type` (google/protobuf/descriptor.proto); 11 for a message, 14 for an enum
abbrev pub type_number : Kind → ℕ
type_number kind.Double = 1
type_number kind.Float = 2
type_number kind.Int64 = 3
type_number kind.Uint64 = 4
type_number kind.Int32 = 5
type_number kind.Fixed64 = 6
type_number kind.Fixed32 = 7
type_number kind.Bool = 8
type_number kind.String = 9
type_number (kind.Message t) = 11
type_number kind.Bytes = 12
type_number kind.Uint32 = 13
type_number (kind.Enum e) = 14
type_number kind.Sfixed32 = 15
type_number kind.Sfixed64 = 16
type_number kind.Sint32 = 17
type_number kind.Sint64 = 18

-- one value of the kind is what the row says: the scalar, or the message or enum of that full name
abbrev pub has_sort : Shape → Sort → Kind → Bool
has_sort shape (message name) (kind.Message t) = bytes_eq (message_name shape t) name
has_sort shape (enum name) (kind.Enum e) = bytes_eq (enum_name shape e) name
has_sort shape (scalar k) l = type_number k == type_number l
has_sort shape _ _ = false

-- both have at most one value, several, or entries with keys of one kind
abbrev pub same_cardinality : Cardinality → Cardinality → Bool
same_cardinality Singular Singular = true
same_cardinality Repeated Repeated = true
same_cardinality (Map k) (Map l) = type_number k == type_number l
same_cardinality _ _ = false

-- neither is a member of a oneof, or both of that of one place
abbrev pub same_oneof : Option ℕ → Option ℕ → Bool
same_oneof None None = true
same_oneof (Some a) (Some b) = a == b
same_oneof _ _ = false

-- a member of a oneof has presence (Protocol Buffers "Application Note: Field Presence")
abbrev pub has_member_presence : Option ℕ → Bool → Bool
has_member_presence None presence = true
has_member_presence (Some oneof) presence = presence

-- the field is as the row declares it: name, JSON name, label, kind, type and oneof
abbrev pub is_row : Shape → Row → FieldShape → Bool
is_row shape r f =
    bytes_eq r.name f.name && bytes_eq r.json_name f.json_name && same_cardinality r.cardinality f.cardinality
    && has_sort shape r.sort f.kind && same_oneof r.oneof f.oneof && not f.is_extension && has_member_presence r.oneof f.presence

-- the field is there, and as the row declares it
abbrev pub is_row_there : Shape → Row → Option FieldShape → Bool
is_row_there shape r None = false
is_row_there shape r (Some f) = is_row shape r f

-- the field of the row's number is as the row declares it
abbrev pub has_row : Shape → ℕ → Row → Bool
has_row shape t r = is_row_there shape r (field_of r.number (fields_of shape t))

-- the type has a field for each row, and no others
abbrev pub has_rows : Shape → ℕ → List Row → Bool
has_rows shape t rs = (length (declared_of shape t) == length rs) && list_all (has_row shape t) rs

-- the entry has that name and those fields
abbrev pub is_struct_entry : Shape → Option ℕ → Bool
is_struct_entry shape None = false
is_struct_entry shape (Some e) = bytes_eq (message_name shape e) struct_entry_name && has_rows shape e struct_entry

-- the field is a map with such an entry
abbrev pub has_struct_entry : Shape → Option FieldShape → Bool
has_struct_entry shape None = false
has_struct_entry shape (Some f) = is_struct_entry shape f.entry

-- of `Struct` alone: its map's entry is `Struct.FieldsEntry` with its two fields
abbrev pub has_entry : Shape → ℕ → Form → Bool
has_entry shape t forms.Struct = has_struct_entry shape (field_of 1 (fields_of shape t))
has_entry shape t _ = true

-- the message of a well-known name stands in a proto3 file and has exactly the fields of that name
unfoldable pub is_as_declared : Shape → ℕ → Known → Bool
is_as_declared shape t k = is_proto3_at shape.messages t && has_rows shape t k.rows && has_entry shape t k.form

-- an object of fields, where the name is not well known
abbrev pub form_by : Shape → ℕ → Option Known → Form
form_by shape t None = forms.Fields
form_by shape t (Some k) = if is_as_declared shape t k then k.form else forms.Misshapen

-- how JSON tells the messages of the type
unfoldable pub form_of : Shape → ℕ → Form
form_of shape t = form_by shape t (known_of (message_name shape t))

-- the type has another shape than its name
abbrev pub is_misshapen : Form → Bool
is_misshapen forms.Misshapen = true
is_misshapen _ = false

-- the type has the shape of its name; a type of any other name has
abbrev pub meets_shape : Shape → ℕ → Bool
meets_shape shape t = not (is_misshapen (form_of shape t))
