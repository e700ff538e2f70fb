-- Each built-in file keeps the rules among those before it, and is its own linked record there.
use Rattle.std.proofs.Common.{◌≡◌, ◌∙◌, ℕ, zero, suc, List, [], ◌∷◌, ◌++◌, map, take, true, Some, refl, sym, ap, subst, append_assoc}
use Rattle.std.specs.Prelude.{slice_get}
use Rattle.std.proofs.lemmas.List.{map-append}
use Rattle.pbx_desc_records.specs.declared.file.FileDescriptorProto.{FileDescriptorProto}
use Rattle.pbx_link_definitions.specs.Names.{prefixes, name_parts}
use Rattle.pbx_link_definitions.specs.Places.{repeated}
use Rattle.pbx_link_rules.specs.Pool.{IsLinked}
use Rattle.pbx_wkt_files.specs.Records.{File, file_record}
use Rattle.pbx_wkt_files.specs.Files.{any_file, source_context_file, type_file, api_file, descriptor_file, duration_file, empty_file, field_mask_file}
use Rattle.pbx_wkt_files.specs.Files.{struct_file, timestamp_file, wrappers_file, plugin_file}
use Rattle.pbx_wkt_files.specs.Files.{descriptor_files, descriptor_members, descriptor_file_options, descriptor_field_options, descriptor_features}
use Rattle.pbx_wkt_files.specs.Files.{wkt_rows, wkt_files}
use Rattle.pbx_wkt_laws.proofs.Rules.{RowKeeps, row_is_kept}
use Rattle.pbx_wkt_laws.proofs.Linked.{file_kept, row_is_linked}

-- the file of a row is linked to itself among those of earlier rows
abbrev RowIsLinked : List File → File → Type 0
RowIsLinked rs r = IsLinked (map file_record rs) (file_record r) (file_record r)

linked_by : (rs sr : List File) (r : File) → RowKeeps rs sr r → file_kept sr r ≡ true → RowIsLinked rs r
linked_by rs sr r keeps own = record { keeps = row_is_kept rs sr r keeps; is = sym (row_is_linked rs sr r keeps.sees own) }

-- ---- the files before each, and those that it sees

abbrev before_any : List File
before_any = []

abbrev seen_by_any : List File
seen_by_any = any_file ∷ []

abbrev before_source_context : List File
before_source_context = before_any ++ any_file ∷ []

abbrev seen_by_source_context : List File
seen_by_source_context = source_context_file ∷ []

abbrev before_type : List File
before_type = before_source_context ++ source_context_file ∷ []

abbrev seen_by_type : List File
seen_by_type = type_file ∷ source_context_file ∷ any_file ∷ []

abbrev before_api : List File
before_api = before_type ++ type_file ∷ []

abbrev seen_by_api : List File
seen_by_api = api_file ∷ type_file ∷ source_context_file ∷ []

abbrev before_descriptor : List File
before_descriptor = before_api ++ api_file ∷ []

abbrev seen_by_descriptor : List File
seen_by_descriptor = descriptor_file ∷ []

abbrev before_duration : List File
before_duration = before_descriptor ++ descriptor_file ∷ []

abbrev seen_by_duration : List File
seen_by_duration = duration_file ∷ []

abbrev before_empty : List File
before_empty = before_duration ++ duration_file ∷ []

abbrev seen_by_empty : List File
seen_by_empty = empty_file ∷ []

abbrev before_field_mask : List File
before_field_mask = before_empty ++ empty_file ∷ []

abbrev seen_by_field_mask : List File
seen_by_field_mask = field_mask_file ∷ []

abbrev before_struct : List File
before_struct = before_field_mask ++ field_mask_file ∷ []

abbrev seen_by_struct : List File
seen_by_struct = struct_file ∷ []

abbrev before_timestamp : List File
before_timestamp = before_struct ++ struct_file ∷ []

abbrev seen_by_timestamp : List File
seen_by_timestamp = timestamp_file ∷ []

abbrev before_wrappers : List File
before_wrappers = before_timestamp ++ timestamp_file ∷ []

abbrev seen_by_wrappers : List File
seen_by_wrappers = wrappers_file ∷ []

abbrev before_plugin : List File
before_plugin = before_wrappers ++ wrappers_file ∷ []

abbrev seen_by_plugin : List File
seen_by_plugin = plugin_file ∷ descriptor_file ∷ []

-- ---- the twelve files

any_keeps : RowKeeps before_any seen_by_any any_file
unfolding prefixes name_parts repeated
any_keeps = record {
  sees = refl;
  once = refl;
  imports = refl;
  syntax = refl;
  idents = refl;
  names = refl;
  numbers = refl;
  types = refl;
  kinds = refl;
  oneofs = refl;
  enums = refl;
  defaults = refl;
  maps = refl;
  labels = refl;
  options = refl;
  sets = refl;
  ranges = refl;
}

any_own : file_kept seen_by_any any_file ≡ true
any_own = refl

source_context_keeps : RowKeeps before_source_context seen_by_source_context source_context_file
unfolding prefixes name_parts repeated
source_context_keeps = record {
  sees = refl;
  once = refl;
  imports = refl;
  syntax = refl;
  idents = refl;
  names = refl;
  numbers = refl;
  types = refl;
  kinds = refl;
  oneofs = refl;
  enums = refl;
  defaults = refl;
  maps = refl;
  labels = refl;
  options = refl;
  sets = refl;
  ranges = refl;
}

source_context_own : file_kept seen_by_source_context source_context_file ≡ true
source_context_own = refl

type_keeps : RowKeeps before_type seen_by_type type_file
unfolding prefixes name_parts repeated
type_keeps = record {
  sees = refl;
  once = refl;
  imports = refl;
  syntax = refl;
  idents = refl;
  names = refl;
  numbers = refl;
  types = refl;
  kinds = refl;
  oneofs = refl;
  enums = refl;
  defaults = refl;
  maps = refl;
  labels = refl;
  options = refl;
  sets = refl;
  ranges = refl;
}

type_own : file_kept seen_by_type type_file ≡ true
type_own = refl

api_keeps : RowKeeps before_api seen_by_api api_file
unfolding prefixes name_parts repeated
api_keeps = record {
  sees = refl;
  once = refl;
  imports = refl;
  syntax = refl;
  idents = refl;
  names = refl;
  numbers = refl;
  types = refl;
  kinds = refl;
  oneofs = refl;
  enums = refl;
  defaults = refl;
  maps = refl;
  labels = refl;
  options = refl;
  sets = refl;
  ranges = refl;
}

api_own : file_kept seen_by_api api_file ≡ true
api_own = refl

descriptor_keeps : RowKeeps before_descriptor seen_by_descriptor descriptor_file
unfolding prefixes name_parts repeated descriptor_files descriptor_members descriptor_file_options descriptor_field_options descriptor_features
descriptor_keeps = record {
  sees = refl;
  once = refl;
  imports = refl;
  syntax = refl;
  idents = refl;
  names = refl;
  numbers = refl;
  types = refl;
  kinds = refl;
  oneofs = refl;
  enums = refl;
  defaults = refl;
  maps = refl;
  labels = refl;
  options = refl;
  sets = refl;
  ranges = refl;
}

descriptor_own : file_kept seen_by_descriptor descriptor_file ≡ true
unfolding descriptor_files descriptor_members descriptor_file_options descriptor_field_options descriptor_features
descriptor_own = refl

duration_keeps : RowKeeps before_duration seen_by_duration duration_file
unfolding prefixes name_parts repeated descriptor_files descriptor_members descriptor_file_options descriptor_field_options descriptor_features
duration_keeps = record {
  sees = refl;
  once = refl;
  imports = refl;
  syntax = refl;
  idents = refl;
  names = refl;
  numbers = refl;
  types = refl;
  kinds = refl;
  oneofs = refl;
  enums = refl;
  defaults = refl;
  maps = refl;
  labels = refl;
  options = refl;
  sets = refl;
  ranges = refl;
}

duration_own : file_kept seen_by_duration duration_file ≡ true
duration_own = refl

empty_keeps : RowKeeps before_empty seen_by_empty empty_file
unfolding prefixes name_parts repeated descriptor_files descriptor_members descriptor_file_options descriptor_field_options descriptor_features
empty_keeps = record {
  sees = refl;
  once = refl;
  imports = refl;
  syntax = refl;
  idents = refl;
  names = refl;
  numbers = refl;
  types = refl;
  kinds = refl;
  oneofs = refl;
  enums = refl;
  defaults = refl;
  maps = refl;
  labels = refl;
  options = refl;
  sets = refl;
  ranges = refl;
}

empty_own : file_kept seen_by_empty empty_file ≡ true
empty_own = refl

field_mask_keeps : RowKeeps before_field_mask seen_by_field_mask field_mask_file
unfolding prefixes name_parts repeated descriptor_files descriptor_members descriptor_file_options descriptor_field_options descriptor_features
field_mask_keeps = record {
  sees = refl;
  once = refl;
  imports = refl;
  syntax = refl;
  idents = refl;
  names = refl;
  numbers = refl;
  types = refl;
  kinds = refl;
  oneofs = refl;
  enums = refl;
  defaults = refl;
  maps = refl;
  labels = refl;
  options = refl;
  sets = refl;
  ranges = refl;
}

field_mask_own : file_kept seen_by_field_mask field_mask_file ≡ true
field_mask_own = refl

struct_keeps : RowKeeps before_struct seen_by_struct struct_file
unfolding prefixes name_parts repeated descriptor_files descriptor_members descriptor_file_options descriptor_field_options descriptor_features
struct_keeps = record {
  sees = refl;
  once = refl;
  imports = refl;
  syntax = refl;
  idents = refl;
  names = refl;
  numbers = refl;
  types = refl;
  kinds = refl;
  oneofs = refl;
  enums = refl;
  defaults = refl;
  maps = refl;
  labels = refl;
  options = refl;
  sets = refl;
  ranges = refl;
}

struct_own : file_kept seen_by_struct struct_file ≡ true
struct_own = refl

timestamp_keeps : RowKeeps before_timestamp seen_by_timestamp timestamp_file
unfolding prefixes name_parts repeated descriptor_files descriptor_members descriptor_file_options descriptor_field_options descriptor_features
timestamp_keeps = record {
  sees = refl;
  once = refl;
  imports = refl;
  syntax = refl;
  idents = refl;
  names = refl;
  numbers = refl;
  types = refl;
  kinds = refl;
  oneofs = refl;
  enums = refl;
  defaults = refl;
  maps = refl;
  labels = refl;
  options = refl;
  sets = refl;
  ranges = refl;
}

timestamp_own : file_kept seen_by_timestamp timestamp_file ≡ true
timestamp_own = refl

wrappers_keeps : RowKeeps before_wrappers seen_by_wrappers wrappers_file
unfolding prefixes name_parts repeated descriptor_files descriptor_members descriptor_file_options descriptor_field_options descriptor_features
wrappers_keeps = record {
  sees = refl;
  once = refl;
  imports = refl;
  syntax = refl;
  idents = refl;
  names = refl;
  numbers = refl;
  types = refl;
  kinds = refl;
  oneofs = refl;
  enums = refl;
  defaults = refl;
  maps = refl;
  labels = refl;
  options = refl;
  sets = refl;
  ranges = refl;
}

wrappers_own : file_kept seen_by_wrappers wrappers_file ≡ true
wrappers_own = refl

plugin_keeps : RowKeeps before_plugin seen_by_plugin plugin_file
unfolding prefixes name_parts repeated descriptor_files descriptor_members descriptor_file_options descriptor_field_options descriptor_features
plugin_keeps = record {
  sees = refl;
  once = refl;
  imports = refl;
  syntax = refl;
  idents = refl;
  names = refl;
  numbers = refl;
  types = refl;
  kinds = refl;
  oneofs = refl;
  enums = refl;
  defaults = refl;
  maps = refl;
  labels = refl;
  options = refl;
  sets = refl;
  ranges = refl;
}

plugin_own : file_kept seen_by_plugin plugin_file ≡ true
unfolding descriptor_files descriptor_members descriptor_file_options descriptor_field_options descriptor_features
plugin_own = refl

-- ---- one behind another

-- each of these rows is linked to itself among those before it
abbrev RowsAreLinked : List File → List File → Type 0
RowsAreLinked before [] = Unit {0}
RowsAreLinked before (r ∷ rs) = RowIsLinked before r × RowsAreLinked (before ++ r ∷ []) rs

all_linked : RowsAreLinked [] wkt_rows
unfolding wkt_rows
all_linked = (
  linked_by before_any seen_by_any any_file any_keeps any_own,
  (
    linked_by before_source_context seen_by_source_context source_context_file source_context_keeps source_context_own,
    (
      linked_by before_type seen_by_type type_file type_keeps type_own,
      (
        linked_by before_api seen_by_api api_file api_keeps api_own,
        (
          linked_by before_descriptor seen_by_descriptor descriptor_file descriptor_keeps descriptor_own,
          (
            linked_by before_duration seen_by_duration duration_file duration_keeps duration_own,
            (
              linked_by before_empty seen_by_empty empty_file empty_keeps empty_own,
              (
                linked_by before_field_mask seen_by_field_mask field_mask_file field_mask_keeps field_mask_own,
                (
                  linked_by before_struct seen_by_struct struct_file struct_keeps struct_own,
                  (
                    linked_by before_timestamp seen_by_timestamp timestamp_file timestamp_keeps timestamp_own,
                    (
                      linked_by before_wrappers seen_by_wrappers wrappers_file wrappers_keeps wrappers_own,
                      (
                        linked_by before_plugin seen_by_plugin plugin_file plugin_keeps plugin_own,
                        tt,
                      ),
                    ),
                  ),
                ),
              ),
            ),
          ),
        ),
      ),
    ),
  ),
)

linked_at : (before rs : List File) → RowsAreLinked before rs → (i : ℕ) (f : FileDescriptorProto) → slice_get (map file_record rs) i ≡ Some f
    → IsLinked (map file_record before ++ take i (map file_record rs)) f f
linked_at before [] h zero f e = cc
linked_at before [] h (suc i) f e = cc
linked_at before (r ∷ rs) h zero f e =
    let same : file_record r ≡ f = cc in
    subst (λ g. IsLinked (map file_record before ++ []) g g) same
    (subst (λ files. IsLinked files (file_record r) (file_record r)) (sym (append_nothing (map file_record before))) h.0)
  where
    append_nothing : (fs : List FileDescriptorProto) → fs ++ [] ≡ fs
    append_nothing [] = refl
    append_nothing (f ∷ fs) = ap (λ gs. f ∷ gs) (append_nothing fs)
linked_at before (r ∷ rs) h (suc i) f e =
    subst (λ files. IsLinked files f f)
    (ap (λ fs. fs ++ take i (map file_record rs)) (map-append file_record before (r ∷ [])) ∙ append_assoc (map file_record before)
    (file_record r ∷ []) (take i (map file_record rs)))
    (linked_at (before ++ r ∷ []) rs h.1 i f e)

-- the file of an index is linked to itself among those of lesser ones
pub files_linked : (i : ℕ) (f : FileDescriptorProto) → slice_get wkt_files i ≡ Some f → IsLinked (take i wkt_files) f f
unfolding wkt_files
files_linked = linked_at [] wkt_rows all_linked
