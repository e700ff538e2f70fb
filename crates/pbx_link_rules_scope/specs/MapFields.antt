-- The rule on fields of maps, as the places of a file's record at which it is broken among the files that the file sees (Protocol Buffers
-- language guide: "Maps"; `descriptor.proto`: MessageOptions.map_entry).
use Rattle.std.specs.Prelude.{ℕ, nat_lt, not, ◌&&◌, ◌||◌, List, ◌++◌, filter, length, Bool, false, Option, Some, None, if◌then◌else◌}
use Rattle.std.specs.List.{flat_map}
use Rattle.std.specs.Str.{bytes_eq}
use Rattle.pbx_desc_records.specs.declared.field.FieldDescriptorProto.{FieldDescriptorProto}
use Rattle.pbx_desc_records.specs.declared.file.FileDescriptorProto.{FileDescriptorProto}
use Rattle.pbx_desc_records.specs.declared.message.DescriptorProto.{DescriptorProto}
use Rattle.pbx_link_definitions.specs.Definitions.{Place, Part, fields_in, messages, extensions}
use Rattle.pbx_link_definitions.specs.Names.{is_named}
use Rattle.pbx_link_definitions.specs.Places.{places_where}
use Rattle.pbx_link_definitions.specs.Says.{own_fields, is_entry, is_repeated}
use Rattle.pbx_link_scope.specs.declared.types.Bound.{Bound}
use Rattle.pbx_link_scope.specs.declared.types.Bound.TheVariants.{Message as to_message, Enum as to_enum}
use Rattle.pbx_link_scope.specs.Scope.{bound_name, bound_if}

-- the type is the entry of a map
abbrev pub is_entry_type : Option Bound → Bool
is_entry_type None = false
is_entry_type (Some (to_message p)) = is_entry p.item
is_entry_type (Some (to_enum p)) = false

-- the type is a message nested in the message of this full name
abbrev pub is_held_in : List ℕ → Option Bound → Bool
is_held_in name None = false
is_held_in name (Some (to_message p)) = bytes_eq p.scope name
is_held_in name (Some (to_enum p)) = false

-- the full name of what a name is bound to
abbrev pub full_name_of : Option Bound → Option (List ℕ)
full_name_of None = None
full_name_of (Some b) = Some (bound_name b)

-- both are there, and are equal
abbrev pub same_text : Option (List ℕ) → Option (List ℕ) → Bool
same_text None t = false
same_text (Some s) t = is_named t s

-- both are one type
abbrev pub same_type : Option Bound → Option Bound → Bool
same_type a b = same_text (full_name_of a) (full_name_of b)

-- the type of a field in a scope
abbrev pub type_in : List FileDescriptorProto → List ℕ → FieldDescriptorProto → Option Bound
type_in seen scope x = bound_if seen scope x.type_name

-- the entry, if the type is one
abbrev pub entry_in : Option Bound → Option (Part DescriptorProto)
entry_in None = None
entry_in (Some (to_message p)) = if is_entry p.item then Some p else None
entry_in (Some (to_enum p)) = None

-- how many of the fields have the type of this one
abbrev pub fields_of_type : List FileDescriptorProto → List ℕ → List FieldDescriptorProto → FieldDescriptorProto → ℕ
fields_of_type seen scope xs x = length (filter (λ y. same_type (type_in seen scope x) (type_in seen scope y)) xs)

-- the type is an entry, and the field is not repeated, not of the message that holds the entry, or not the only one of the type there
abbrev pub is_bad_map_field : List FileDescriptorProto → List FieldDescriptorProto → List ℕ → FieldDescriptorProto → Bool
is_bad_map_field seen xs scope x =
    is_entry_type (type_in seen scope x)
    && (not (is_repeated x) || not (is_held_in scope (type_in seen scope x)) || nat_lt 1 (fields_of_type seen scope xs x))

-- of the fields of a message
abbrev pub bad_map_fields_in : List FileDescriptorProto → Part DescriptorProto → List Place
bad_map_fields_in seen m =
    places_where (λ (p : Part FieldDescriptorProto). is_bad_map_field seen (own_fields m.item) p.scope p.item) (λ p. p.place) (fields_in m)

-- the places of those whose types are entries
abbrev pub of_entry_types : List FileDescriptorProto → List (Part FieldDescriptorProto) → List Place
of_entry_types seen ps = places_where (λ (p : Part FieldDescriptorProto). is_entry_type (type_in seen p.scope p.item)) (λ p. p.place) ps

-- fields that share entries or stand elsewhere, and extensions of entry types
abbrev pub bad_map_fields : List FileDescriptorProto → FileDescriptorProto → List Place
bad_map_fields seen f = flat_map (bad_map_fields_in seen) (messages f) ++ of_entry_types seen (extensions f)
