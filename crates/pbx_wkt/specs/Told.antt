-- Whether a message of a well-known name is the message that the public file declares, told by its descriptor.
use Rattle.std.specs.Prelude.{ℕ, ◌+◌, ◌==◌, ◌&&◌, List, length, Bool, true, false, not, Option, Some, None, is_none, slice_get}
use Rattle.std.specs.List.{list_all, list_any}
use Rattle.std.specs.Str.{bytes_eq}
use Rattle.pbx_content.specs.declared.shape.Cardinality.{Cardinality}
use Rattle.pbx_content.specs.declared.shape.Cardinality.TheVariants.{Singular, Repeated, Map}
use Rattle.pbx_desc_records.specs.declared.field.FieldDescriptorProto.{FieldDescriptorProto}
use Rattle.pbx_desc_records.specs.declared.field.OneofDescriptorProto.{OneofDescriptorProto}
use Rattle.pbx_desc_records.specs.declared.message.DescriptorProto.{DescriptorProto}
use Rattle.pbx_link_definitions.specs.Names.{text_or_empty}
use Rattle.pbx_link_definitions.specs.Definitions.{message_name}
use Rattle.pbx_link_definitions.specs.Says.{is_proto3}
use Rattle.pbx_link_meaning.specs.Descriptors.{Described, fields_of_message, oneofs_of_message, extensions_of_message, with_number, number_of_field}
use Rattle.pbx_link_meaning.specs.Descriptors.{is_list, is_map, has_presence, fields_of_oneof, oneof_of_field}
use Rattle.pbx_link.specs.declared.kind.Kind.{Kind}
use Rattle.pbx_link.specs.declared.kind.Kind.TheVariants as kind
use Rattle.pbx_link.specs.Kinds.{described_kind}
use Rattle.pbx_wkt_types.specs.declared.form.Form.{Form}
use Rattle.pbx_wkt_types.specs.declared.form.Form.TheVariants as forms
use Rattle.pbx_wkt_types.specs.Known.{scalar, Row, Known, known_of, struct_entry, struct_entry_name}
use Rattle.pbx_wkt_types.specs.Shapes.{has_member_presence}
use Rattle.pbx_wkt.specs.Kinds.{has_sort_if, entry_told, value_told}

-- ---- fields

-- the field has at most one value, several, or entries with keys of the kind
abbrev pub has_cardinality : Cardinality → Described FieldDescriptorProto → Bool
has_cardinality Singular x = not (is_map x) && not (is_list x)
has_cardinality Repeated x = is_list x
has_cardinality (Map k) x = is_map x && has_sort_if (scalar k) (entry_told 1 (described_kind x))

-- one of the fields has the number
abbrev pub has_number : ℕ → List (Described FieldDescriptorProto) → Bool
has_number n ys = list_any (λ y. number_of_field y == n) ys

-- the oneof is there, and one of its members has the number
abbrev pub has_member : ℕ → Option (Described OneofDescriptorProto) → Bool
has_member n None = false
has_member n (Some o) = has_number n (fields_of_oneof o)

-- the field is a member of no oneof, or of the one at the place
abbrev pub has_oneof : Described DescriptorProto → Option ℕ → Described FieldDescriptorProto → Bool
has_oneof d None x = is_none (oneof_of_field x)
has_oneof d (Some i) x = has_member (number_of_field x) (slice_get (oneofs_of_message d) i)

-- ---- rows

-- the field is as the row declares it: name, JSON name, label, kind, type and oneof
abbrev pub is_row : Described DescriptorProto → Row → Described FieldDescriptorProto → Bool
is_row d r x =
    bytes_eq r.name (text_or_empty x.part.item.name) && bytes_eq r.json_name (text_or_empty x.part.item.json_name)
    && has_cardinality r.cardinality x && has_sort_if r.sort (value_told x) && has_oneof d r.oneof x && has_member_presence r.oneof (has_presence x)

-- the field is there, and as the row declares it
abbrev pub is_row_there : Described DescriptorProto → Row → Option (Described FieldDescriptorProto) → Bool
is_row_there d r None = false
is_row_there d r (Some x) = is_row d r x

-- the field of the row's number is as the row declares it
unfoldable pub has_row : Described DescriptorProto → Row → Bool
has_row d r = is_row_there d r (with_number (fields_of_message d) r.number)

-- the message has a field for each row, and no other field or extension
unfoldable pub has_rows : Described DescriptorProto → List Row → Bool
has_rows d rs = (length (fields_of_message d) + length (extensions_of_message d) == length rs) && list_all (has_row d) rs

-- ---- messages

-- the entry has that name and those fields
abbrev pub is_struct_entry : Option Kind → Bool
is_struct_entry (Some (kind.Message m)) = bytes_eq (message_name m.part) struct_entry_name && has_rows m struct_entry
is_struct_entry _ = false

-- the field is a map with such an entry
abbrev pub has_struct_entry : Option (Described FieldDescriptorProto) → Bool
has_struct_entry None = false
has_struct_entry (Some x) = is_map x && is_struct_entry (described_kind x)

-- of `Struct` alone: its map's entry is `Struct.FieldsEntry` with its two fields
abbrev pub has_entry : Described DescriptorProto → Form → Bool
has_entry d forms.Struct = has_struct_entry (with_number (fields_of_message d) 1)
has_entry d _ = true

-- the message stands in a proto3 file and has exactly the fields of the type
unfoldable pub is_as_declared : Described DescriptorProto → Known → Bool
is_as_declared d k = is_proto3 d.file && has_rows d k.rows && has_entry d k.form

-- a message of no well-known name has the shape of its name
abbrev pub has_shape_by : Described DescriptorProto → Option Known → Bool
has_shape_by d None = true
has_shape_by d (Some k) = is_as_declared d k

-- the message has the shape of its name
unfoldable pub has_shape : Described DescriptorProto → Bool
has_shape d = has_shape_by d (known_of (message_name d.part))
