-- The descriptor record of a file's syntax tree: descriptor.proto, as the compiler of the language fills it.
use Rattle.std.specs.Prelude.{ℕ, List, [], ◌∷◌, Bool, true, false, Option, Some, None, unwrap_or, ℤ, pos, codes, map, ◌+◌, ◌++◌, if◌then◌else◌}
use Rattle.std.specs.List.{flat_map, filter_map}
use Rattle.pbx_desc_records.specs.declared.enumeration.EnumDescriptorProto.{EnumDescriptorProto}
use Rattle.pbx_desc_records.specs.declared.field.FieldDescriptorProto.{FieldDescriptorProto}
use Rattle.pbx_desc_records.specs.declared.file.FileDescriptorProto.{FileDescriptorProto}
use Rattle.pbx_desc_records.specs.declared.message.DescriptorProto.{DescriptorProto}
use Rattle.pbx_desc_records.specs.declared.service.ServiceDescriptorProto.{ServiceDescriptorProto}
use Rattle.pbx_desc_records.specs.declared.source.Location.{Location}
use Rattle.pbx_parse_token.specs.declared.token.Span.{Span}
use Rattle.pbx_parse_tree.specs.declared.tree.Modifier.{Modifier}
use Rattle.pbx_parse_tree.specs.declared.tree.Modifier.TheVariants as modifiers
use Rattle.pbx_parse_tree.specs.declared.tree.Version.{Version}
use Rattle.pbx_parse_tree.specs.declared.tree.Version.TheVariants as versions
use Rattle.pbx_parse_tree.specs.declared.options.OptionPlace.TheVariants as places
use Rattle.pbx_parse_tree.specs.Conditions.{version_of, packages, top_setting}
use Rattle.pbx_parse_tree.specs.Tree.{Package, Import, Top, top_import, top_message, top_enum, top_extend, top_service, File}
use Rattle.pbx_parse_translation.specs.Texts.{full_text, string_text}
use Rattle.pbx_parse_translation.specs.Settings.{options_of}
use Rattle.pbx_parse_translation.specs.Fields.{extend_records}
use Rattle.pbx_parse_translation.specs.Enums.{enum_record}
use Rattle.pbx_parse_translation.specs.Services.{service_record}
use Rattle.pbx_parse_translation.specs.Messages.{message_record}

-- ---- what stands at the top

abbrev pub imports_in : Top → List Import
imports_in (top_import i) = i ∷ []
imports_in _ = []

abbrev pub messages_in : Version → Top → List DescriptorProto
messages_in v (top_message h b close) = message_record v h.name.text b ∷ []
messages_in v _ = []

abbrev pub enums_in : Top → List EnumDescriptorProto
enums_in (top_enum e) = enum_record e ∷ []
enums_in _ = []

abbrev pub extensions_in : Version → Top → List FieldDescriptorProto
extensions_in v (top_extend e) = extend_records v e
extensions_in v _ = []

abbrev pub services_in : Top → List ServiceDescriptorProto
services_in (top_service s) = service_record s ∷ []
services_in _ = []

-- ---- imports

abbrev pub import_name : Import → List ℕ
import_name i = string_text i.path

abbrev pub has_modifier : Modifier → Option (Modifier × Span) → Bool
has_modifier modifiers.Public (Some (modifiers.Public, span)) = true
has_modifier modifiers.Weak (Some (modifiers.Weak, span)) = true
has_modifier _ _ = false

-- the indexes of the imports that have the modifier, where the first has this one
unfoldable pub indexes_from : ℕ → Modifier → List Import → List ℤ
indexes_from k m [] = []
indexes_from k m (i ∷ is) = (if has_modifier m i.modifier then pos k ∷ [] else []) ++ indexes_from (k + 1) m is

-- ---- the file

-- a file whose syntax statement names no version that is known, which no file that meets the conditions has, is of proto2
abbrev pub version_in : File → Version
version_in f = unwrap_or (version_of f.syntax) versions.Proto2

-- proto3 is named, and proto2 is not
abbrev pub syntax_name : Version → Option (List ℕ)
syntax_name versions.Proto2 = None
syntax_name versions.Proto3 = Some (codes "proto3")

-- the name of the first package
abbrev pub package_name : List Package → Option (List ℕ)
package_name [] = None
package_name (p ∷ ps) = Some (full_text p.full)

-- a file of this name, this version, these tops and imports, and these locations
abbrev pub file_with : List ℕ → Version → List Top → List Import → List Location → FileDescriptorProto
file_with name v tops imports locations = record {
  name = Some name;
  «package» = package_name (packages tops);
  dependency = map import_name imports;
  message_type = flat_map (messages_in v) tops;
  enum_type = flat_map enums_in tops;
  service = flat_map services_in tops;
  extension = flat_map (extensions_in v) tops;
  options = options_of places.File (filter_map top_setting tops);
  source_code_info = Some (record { location = locations; unknown = [] });
  public_dependency = indexes_from 0 modifiers.Public imports;
  weak_dependency = indexes_from 0 modifiers.Weak imports;
  syntax = syntax_name v;
  unknown = [];
}

-- The record of a file of this name, each of its lists in the order of the source, with these locations.
abbrev pub translate_of : List ℕ → File → List Location → FileDescriptorProto
translate_of name f locations = file_with name (version_in f) f.tops (flat_map imports_in f.tops) locations
