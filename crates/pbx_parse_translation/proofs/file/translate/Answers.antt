use Rattle.std.proofs.Common.{ℕ, ◌≡◌, List, [], map, Some, ap, ◌∙◌}
use Rattle.std.specs.List.{flat_map, filter_map}
use Rattle.pbx_desc_records.specs.declared.file.FileDescriptorProto.{FileDescriptorProto}
use Rattle.pbx_desc_records.specs.declared.source.Location.{Location}
use Rattle.pbx_parse_tree.specs.declared.tree.Modifier.TheVariants as modifiers
use Rattle.pbx_parse_tree.specs.declared.tree.Version.{Version}
use Rattle.pbx_parse_tree.specs.declared.options.OptionPlace.TheVariants as places
use Rattle.pbx_parse_tree.specs.Conditions.{packages, top_setting}
use Rattle.pbx_parse_tree.specs.Tree.{Top}
use Rattle.pbx_parse_tree.specs.View.{top_of}
use Rattle.pbx_parse_translation.specs.declared.file.Head.{Head}
use Rattle.pbx_parse_translation.specs.declared.file.Imported.{Imported}
use Rattle.pbx_parse_translation.specs.declared.file.Declarations.{Declarations}
use Rattle.pbx_parse_translation.specs.Settings.{options_of}
use Rattle.pbx_parse_translation.specs.Translation.{imports_in, messages_in, enums_in, services_in, extensions_in, import_name, indexes_from, package_name, syntax_name, file_with}
use Rattle.pbx_parse_translation.proofs.file.translate.Goals as goal

abbrev made : Head → Imported → Declarations → List Location → FileDescriptorProto
made h i d locations = record {
  name = h.name;
  «package» = h.«package»;
  dependency = i.dependency;
  message_type = d.messages;
  enum_type = d.enums;
  service = d.services;
  extension = d.extensions;
  options = h.options;
  source_code_info = Some (record { location = locations; unknown = [] });
  public_dependency = i.public_dependency;
  weak_dependency = i.weak_dependency;
  syntax = h.syntax;
  unknown = [];
}

abbrev declared_in : Version → List Top → Declarations
declared_in v tops = record { messages = flat_map (messages_in v) tops; enums = flat_map enums_in tops; services = flat_map services_in tops; extensions = flat_map (extensions_in v) tops }

abbrev head_in : List ℕ → Version → List Top → Head
head_in name v tops = record { name = Some name; «package» = package_name (packages tops); options = options_of places.File (filter_map top_setting tops); syntax = syntax_name v }

pub returns-in-Ok : goal.returns-in-Ok
returns-in-Ok c =
    let name = c.args.name.now in
    let locations = c.args.locations in
    let tops = map top_of c.args.file.tops.items in
    let v = c.version-version.result in
    let e = c.in-Ok.ensures in
    c.file_of_parts.ensures
    ∙ ap (λ (d : Declarations). made c.fill_and_declared.new.head c.fill_and_declared.new.imported d locations) e.0
    ∙ ap (λ (h : Head). made h c.fill_and_declared.new.imported (declared_in v tops) locations) e.1
    ∙ ap (λ (i : Imported). made (head_in name v tops) i (declared_in v tops) locations) e.2
    ∙ ap (λ w. file_with name w tops (flat_map imports_in tops) locations) c.version-version.ensures
