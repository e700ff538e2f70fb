-- The rules of linking that look names up, each as the places of a file's record at which it is broken among the files that the file sees
-- (Protocol Buffers language guides; the checks of protoc's descriptor pool).
use Rattle.std.specs.Prelude.{ℕ, not, ℤ, List, ◌++◌, Bool, true, false, Option, Some, None}
use Rattle.pbx_desc_records.specs.declared.field.FieldDescriptorProto.{FieldDescriptorProto}
use Rattle.pbx_desc_records.specs.declared.file.FileDescriptorProto.{FileDescriptorProto}
use Rattle.pbx_desc_records.specs.declared.service.MethodDescriptorProto.{MethodDescriptorProto}
use Rattle.pbx_link_definitions.specs.Definitions.{Place, Part, at, fields, extensions, methods}
use Rattle.pbx_link_definitions.specs.Places.{places_where}
use Rattle.pbx_link_definitions.specs.Says.{is_number}
use Rattle.pbx_link_scope.specs.declared.types.Bound.{Bound}
use Rattle.pbx_link_scope.specs.declared.types.Bound.TheVariants.{Message as to_message, Enum as to_enum}
use Rattle.pbx_link_scope.specs.Scope.{bound_if, is_message}

-- the places of the fields of this number of the parts whose record, in its scope, breaks a rule
abbrev pub places_by : {X : Type 0} → (List ℕ → X → Bool) → ℕ → List (Part X) → List Place
places_by {X} P n ps = places_where (λ (p : Part X). P p.scope p.item) (λ p. at p n) ps

-- ---- names (language guide: "Importing Definitions", "Packages and Name Resolution")

-- there is a type name, and it is bound to nothing, to a message where type 14 is given, or to an enum where type 11 is
abbrev pub is_bad_type_name : Option (List ℕ) → Option Bound → Option ℤ → Bool
is_bad_type_name None b kind = false
is_bad_type_name (Some name) None kind = true
is_bad_type_name (Some name) (Some (to_message p)) kind = is_number kind 14
is_bad_type_name (Some name) (Some (to_enum p)) kind = is_number kind 11

-- the name is there and bound to no message
abbrev pub is_bad_message_name : Option (List ℕ) → Option Bound → Bool
is_bad_message_name None b = false
is_bad_message_name (Some name) b = not (is_message b)

-- the type name of a field or an extension
abbrev pub has_bad_type_name : List FileDescriptorProto → List ℕ → FieldDescriptorProto → Bool
has_bad_type_name seen scope x = is_bad_type_name x.type_name (bound_if seen scope x.type_name) x.kind

-- the extendee of a field, which needs none
abbrev pub has_bad_extendee : List FileDescriptorProto → List ℕ → FieldDescriptorProto → Bool
has_bad_extendee seen scope x = is_bad_message_name x.extendee (bound_if seen scope x.extendee)

-- the extendee of an extension is no message
abbrev pub has_no_extendee : List FileDescriptorProto → List ℕ → FieldDescriptorProto → Bool
has_no_extendee seen scope x = not (is_message (bound_if seen scope x.extendee))

-- the input of a method is no message
abbrev pub has_no_input : List FileDescriptorProto → List ℕ → MethodDescriptorProto → Bool
has_no_input seen scope m = not (is_message (bound_if seen scope m.input_type))

-- the output of a method is no message
abbrev pub has_no_output : List FileDescriptorProto → List ℕ → MethodDescriptorProto → Bool
has_no_output seen scope m = not (is_message (bound_if seen scope m.output_type))

-- of fields
abbrev pub unbound_in_fields : List FileDescriptorProto → FileDescriptorProto → List Place
unbound_in_fields seen f = places_by (has_bad_type_name seen) 6 (fields f) ++ places_by (has_bad_extendee seen) 2 (fields f)

-- of extensions
abbrev pub unbound_in_extensions : List FileDescriptorProto → FileDescriptorProto → List Place
unbound_in_extensions seen f = places_by (has_bad_type_name seen) 6 (extensions f) ++ places_by (has_no_extendee seen) 2 (extensions f)

-- of methods
abbrev pub unbound_in_methods : List FileDescriptorProto → FileDescriptorProto → List Place
unbound_in_methods seen f = places_by (has_no_input seen) 2 (methods f) ++ places_by (has_no_output seen) 3 (methods f)

-- a name is bound to nothing among the files that are seen, or to the wrong sort, or is missing
abbrev pub unbound_names : List FileDescriptorProto → FileDescriptorProto → List Place
unbound_names seen f = unbound_in_fields seen f ++ unbound_in_extensions seen f ++ unbound_in_methods seen f
