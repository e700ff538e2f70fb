-- The files of a pool by their names, and what they define by full names (Protocol Buffers `descriptor.proto`: FileDescriptorProto.name and
-- dependency; "Language Guide": Packages). The files are linked records, in which extendees are exact names with a leading dot.
use Rattle.std.specs.Prelude.{◌≡◌, ℕ, ◌&&◌, ℤ, List, [], ◌++◌, map, find, slice_get, Bool, Option, Some, option_map}
use Rattle.std.specs.List.{list_any, flat_map, enumerate_from}
use Rattle.std.specs.Str.{bytes_eq}
use Rattle.pbx_desc_records.specs.declared.field.FieldDescriptorProto.{FieldDescriptorProto}
use Rattle.pbx_desc_records.specs.declared.file.FileDescriptorProto.{FileDescriptorProto}
use Rattle.pbx_link_definitions.specs.Names.{text_or_empty, is_named, dotted}
use Rattle.pbx_link_definitions.specs.Says.{are_equal}
use Rattle.pbx_link_definitions.specs.Definitions.{Part, Defined, full_name, is_scope, definitions, messages, enums, extensions}
use Rattle.pbx_link_definitions.specs.Places.{repeated}
use Rattle.pbx_link_scope.specs.declared.types.Bound.{Bound}
use Rattle.pbx_link_scope.specs.declared.types.Bound.TheVariants.{Message as to_message, Enum as to_enum}
use Rattle.pbx_link_scope.specs.Scope.{bound_name, packages}

-- ---- files by their names

-- one of the files has this name
abbrev pub has_file : List FileDescriptorProto → List ℕ → Bool
has_file files name = list_any (λ f. is_named f.name name) files

-- the index of the first file of exactly this name
abbrev pub file_index : List FileDescriptorProto → List ℕ → Option ℕ
file_index files name = option_map (λ x. x.0) (find (λ x. is_named x.1.name name) (enumerate_from 0 files))

-- each file has a name, and no two have one name
abbrev pub HaveOwnNames : List FileDescriptorProto → Type 0
HaveOwnNames files = (i : ℕ) (f : FileDescriptorProto) → slice_get files i ≡ Some f → file_index files (text_or_empty f.name) ≡ Some i

-- ---- definitions by their full names

-- what is told of each file, beside the index of the file
abbrev pub by_file : {X : Type 0} → (FileDescriptorProto → List X) → List FileDescriptorProto → List (ℕ × X)
by_file tell files = flat_map (λ f. map (λ x. (f.0, x)) (tell f.1)) (enumerate_from 0 files)

-- the messages and enums of a file
abbrev pub file_types : FileDescriptorProto → List Bound
file_types f = map to_message (messages f) ++ map to_enum (enums f)

-- the first message or enum of exactly this full name, beside the index of its file
abbrev pub type_with_file : List FileDescriptorProto → List ℕ → Option (ℕ × Bound)
type_with_file files name = find (λ b. bytes_eq (bound_name b.1) name) (by_file file_types files)

-- the first definition of exactly this full name, beside the index of its file
abbrev pub definition_with_file : List FileDescriptorProto → List ℕ → Option (ℕ × Defined)
definition_with_file files name = find (λ d. bytes_eq (full_name d.1) name) (by_file definitions files)

-- the index of the file, and whether names may be looked up in the definition: of a message, an enum or a service
abbrev pub scope_with_file : Option (ℕ × Defined) → Option (ℕ × Bool)
scope_with_file found = option_map (λ d. (d.0, is_scope d.1.sort)) found

-- both have one full name
abbrev pub like_named : Defined → Defined → Bool
like_named d e = bytes_eq (full_name d) (full_name e)

-- no full name is defined twice
abbrev pub AreDistinct : List FileDescriptorProto → Type 0
AreDistinct files = repeated like_named [] (flat_map definitions files) ≡ []

-- the packages of files and what their names begin with
abbrev pub all_packages : List FileDescriptorProto → List (List ℕ)
all_packages files = flat_map packages files

-- ---- extensions

-- the extension extends the message of this full name under this number
abbrev pub extends : List ℕ → Option ℤ → FieldDescriptorProto → Bool
extends extendee number x = is_named x.extendee (dotted extendee) && are_equal x.number number

-- an extension of the files extends the message of this full name under this number
abbrev pub is_extended : List FileDescriptorProto → List ℕ → Option ℤ → Bool
is_extended files extendee number = list_any (λ (p : Part FieldDescriptorProto). extends extendee number p.item) (flat_map extensions files)
