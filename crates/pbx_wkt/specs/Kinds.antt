-- What one value of a field is, told by descriptors (Protocol Buffers `descriptor.proto`: FieldDescriptorProto.Type).
use Rattle.std.specs.Prelude.{ℕ, ◌==◌, Bool, false, Option, Some, None, if◌then◌else◌}
use Rattle.std.specs.Str.{bytes_eq}
use Rattle.pbx_desc_records.specs.declared.field.FieldDescriptorProto.{FieldDescriptorProto}
use Rattle.pbx_link_definitions.specs.Definitions.{message_name, enum_name}
use Rattle.pbx_link_meaning.specs.Descriptors.{Described, fields_of_message, with_number, is_map}
use Rattle.pbx_link.specs.declared.kind.Kind.{Kind}
use Rattle.pbx_link.specs.declared.kind.Kind.TheVariants as kind
use Rattle.pbx_link.specs.Kinds.{described_kind}
use Rattle.pbx_wkt_types.specs.Known.{Sort, scalar, message, enum}
use Rattle.pbx_wkt_types.specs.Shapes.{type_number}

-- the number of the kind
abbrev pub kind_number : Kind → ℕ
kind_number kind.Double = 1
kind_number kind.Float = 2
kind_number kind.Int64 = 3
kind_number kind.Uint64 = 4
kind_number kind.Int32 = 5
kind_number kind.Fixed64 = 6
kind_number kind.Fixed32 = 7
kind_number kind.Bool = 8
kind_number kind.String = 9
kind_number (kind.Message m) = 11
kind_number kind.Bytes = 12
kind_number kind.Uint32 = 13
kind_number (kind.Enum e) = 14
kind_number kind.Sfixed32 = 15
kind_number kind.Sfixed64 = 16
kind_number kind.Sint32 = 17
kind_number kind.Sint64 = 18

-- one value of the kind is what the row says: the scalar, or the message or enum of that full name
abbrev pub kind_has_sort : Sort → Kind → Bool
kind_has_sort (message name) (kind.Message m) = bytes_eq (message_name m.part) name
kind_has_sort (enum name) (kind.Enum e) = bytes_eq (enum_name e.part) name
kind_has_sort (scalar k) l = type_number k == kind_number l
kind_has_sort _ _ = false

-- the same where there is a kind
abbrev pub has_sort_if : Sort → Option Kind → Bool
has_sort_if s None = false
has_sort_if s (Some k) = kind_has_sort s k

-- the kind of a field of an entry, and `float` where the entry lacks it, as the shape of a pool says
abbrev pub part_told : Option (Described FieldDescriptorProto) → Option Kind
part_told None = Some kind.Float
part_told (Some x) = described_kind x

-- the kind of the field of this number of an entry
abbrev pub entry_told : ℕ → Option Kind → Option Kind
entry_told n (Some (kind.Message m)) = part_told (with_number (fields_of_message m) n)
entry_told n _ = Some kind.Float

-- the kind of a field, and of a map of what stands under a key
abbrev pub value_told : Described FieldDescriptorProto → Option Kind
value_told x = if is_map x then entry_told 2 (described_kind x) else described_kind x
