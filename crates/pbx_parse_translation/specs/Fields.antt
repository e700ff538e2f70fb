-- Records of fields, extensions and the entries of maps.
use Rattle.std.specs.Prelude.{ℕ, List, [], ◌∷◌, Bool, true, false, Option, Some, None, option_map, option_and_then, ℤ, pos, if◌then◌else◌, codes}
use Rattle.std.specs.List.{flat_map}
use Rattle.pbx_wire.specs.declared.rec.Rec.TheVariants as rec
use Rattle.pbx_desc_records.specs.declared.field.FieldDescriptorProto.{FieldDescriptorProto}
use Rattle.pbx_desc_records.specs.declared.options.Options.{Options}
use Rattle.pbx_desc_records.specs.declared.message.DescriptorProto.{DescriptorProto, roll-DescriptorProto}
use Rattle.pbx_parse_token.specs.declared.token.Span.{Span}
use Rattle.pbx_parse_token.specs.Escapes.{unescaped}
use Rattle.pbx_parse_tree.specs.declared.tree.Scalar.{Scalar}
use Rattle.pbx_parse_tree.specs.declared.tree.Scalar.TheVariants as scalars
use Rattle.pbx_parse_tree.specs.declared.tree.Label.{Label}
use Rattle.pbx_parse_tree.specs.declared.tree.Label.TheVariants as labels
use Rattle.pbx_parse_tree.specs.declared.tree.Version.{Version}
use Rattle.pbx_parse_tree.specs.declared.tree.Version.TheVariants as versions
use Rattle.pbx_parse_tree.specs.declared.options.OptionPlace.TheVariants as places
use Rattle.pbx_parse_tree.specs.Conditions.{settings_of}
use Rattle.pbx_parse_tree.specs.Tree.{TypeName, Kind, scalar, named_type, Constant, constant_number, constant_identifier, constant_string, Setting, Tail, Field, MapField, Member, empty_member, member, Extension, empty_extension, extension, Extend}
use Rattle.pbx_parse_translation.specs.Texts.{type_text, entry_name, string_text, escaped, number_text}
use Rattle.pbx_parse_translation.specs.Settings.{options_of, set_to}

-- ---- labels and types

-- descriptor.proto: FieldDescriptorProto.Label
abbrev pub label_number : Label → ℕ
label_number labels.Optional = 1
label_number labels.Required = 2
label_number labels.Repeated = 3

-- a field without a label is optional
abbrev pub label_of : Option (Label × Span) → ℕ
label_of None = 1
label_of (Some l) = label_number l.0

-- descriptor.proto: FieldDescriptorProto.Type
abbrev pub type_number : Scalar → ℕ
type_number scalars.Double = 1
type_number scalars.Float = 2
type_number scalars.Int64 = 3
type_number scalars.Uint64 = 4
type_number scalars.Int32 = 5
type_number scalars.Fixed64 = 6
type_number scalars.Fixed32 = 7
type_number scalars.Bool = 8
type_number scalars.String = 9
type_number scalars.Bytes = 12
type_number scalars.Uint32 = 13
type_number scalars.Sfixed32 = 15
type_number scalars.Sfixed64 = 16
type_number scalars.Sint32 = 17
type_number scalars.Sint64 = 18

-- the number of a scalar type; of a named type it is not known yet
abbrev pub kind_number : Kind → Option ℤ
kind_number (scalar s span) = Some (pos (type_number s))
kind_number (named_type t) = None

-- the name of a type that is no scalar, as it is written
abbrev pub kind_name : Kind → Option (List ℕ)
kind_name (scalar s span) = None
kind_name (named_type t) = Some (type_text t)

-- ---- defaults and JSON names

-- the text of a default: a number in decimal, a word as it is, a string by the text that it stands for, or for a field of bytes as a string literal of C has it
abbrev pub default_text : Kind → Constant → List ℕ
default_text k (constant_number n) = number_text n
default_text k (constant_identifier word) = word.text
default_text (scalar scalars.Bytes span) (constant_string l) = escaped (unescaped l.text)
default_text k (constant_string l) = string_text l

-- the default, where one is written
unfoldable pub default_of : Kind → List Setting → Option (List ℕ)
default_of k settings = option_map (default_text k) (set_to (codes "default") settings)

abbrev pub constant_text : Constant → Option (List ℕ)
constant_text (constant_number n) = None
constant_text (constant_identifier word) = None
constant_text (constant_string l) = Some (string_text l)

-- the JSON name, where one is written
unfoldable pub json_name_of : List Setting → Option (List ℕ)
json_name_of settings = option_and_then constant_text (set_to (codes "json_name") settings)

-- ---- fields

-- a field with each part absent
abbrev pub no_field : FieldDescriptorProto
no_field = record {
  name = None;
  extendee = None;
  number = None;
  label = None;
  kind = None;
  type_name = None;
  default_value = None;
  options = None;
  oneof_index = None;
  json_name = None;
  proto3_optional = None;
  unknown = [];
}

-- a field of this label, by what follows its type
unfoldable pub untyped_field : ℤ → Tail → FieldDescriptorProto
untyped_field label t = record no_field {
  name = Some t.name.text;
  number = Some (pos t.number.value);
  label = Some label;
  options = options_of places.Field (settings_of t.settings);
  json_name = json_name_of (settings_of t.settings);
}

-- the same with its type and its default
unfoldable pub typed_field : ℤ → Kind → Tail → FieldDescriptorProto
typed_field label k t = record (untyped_field label t) {
  kind = kind_number k;
  type_name = kind_name k;
  default_value = default_of k (settings_of t.settings);
}

-- a field or an extension as far as any version of the language goes
unfoldable pub labelled_field : Field → FieldDescriptorProto
labelled_field f = typed_field (pos (label_of f.label)) f.kind f.tail

-- in proto3 the label `optional` says that the field has presence
abbrev pub is_proto3_optional : Version → Option (Label × Span) → Bool
is_proto3_optional versions.Proto3 (Some (labels.Optional, span)) = true
is_proto3_optional _ _ = false

-- a field of a message; one with presence in proto3 is the only member of the oneof of this index
unfoldable pub field_record : Version → ℕ → Field → FieldDescriptorProto
field_record v synthetic f = if is_proto3_optional v f.label
    then record (labelled_field f) { oneof_index = Some (pos synthetic); proto3_optional = Some true }
    else labelled_field f

-- what stands in the oneof of this index
unfoldable pub member_records : ℕ → Member → List FieldDescriptorProto
member_records index (empty_member s) = []
member_records index (member k t) = record (typed_field (pos 1) k t) { oneof_index = Some (pos index) } ∷ []

-- an extension of the type, which is in no oneof
abbrev pub extension_record : Version → TypeName → Field → FieldDescriptorProto
extension_record v extendee f = record (labelled_field f) {
  extendee = Some (type_text extendee);
  proto3_optional = if is_proto3_optional v f.label then Some true else None;
}

unfoldable pub extension_records : Version → TypeName → Extension → List FieldDescriptorProto
extension_records v extendee (empty_extension s) = []
extension_records v extendee (extension f) = extension_record v extendee f ∷ []

-- the extensions of a block
unfoldable pub extend_records : Version → Extend → List FieldDescriptorProto
extend_records v e = flat_map (extension_records v e.extendee) e.extensions

-- ---- maps

-- a map field is a list of its entries
unfoldable pub map_record : MapField → FieldDescriptorProto
map_record m = record (untyped_field (pos 3) m.tail) { type_name = Some (entry_name m.tail.name.text) }

-- the key or the value of an entry
abbrev pub entry_field : List ℕ → ℤ → Option ℤ → Option (List ℕ) → FieldDescriptorProto
entry_field name number kind type_name = record no_field { name = Some name; number = Some number; label = Some (pos 1); kind = kind; type_name = type_name }

-- the key and the value of an entry
abbrev pub entry_fields : MapField → List FieldDescriptorProto
entry_fields m =
    entry_field (codes "key") (pos 1) (Some (pos (type_number m.key))) None
    ∷ entry_field (codes "value") (pos 2) (kind_number m.value) (kind_name m.value)
    ∷ []

-- `map_entry` is true
abbrev pub entry_options : Options
entry_options = record { recs = rec.Varint 7 1 ∷ [] }

-- the entry of a map field: a message with a key and a value
unfoldable pub entry_record : MapField → DescriptorProto
entry_record m = roll-DescriptorProto (record {
  name = Some (entry_name m.tail.name.text);
  field = entry_fields m;
  nested_type = [];
  enum_type = [];
  extension_range = [];
  extension = [];
  options = Some entry_options;
  oneof_decl = [];
  reserved_range = [];
  reserved_name = [];
  unknown = [];
})
