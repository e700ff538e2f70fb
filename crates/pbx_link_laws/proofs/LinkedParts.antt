-- The parts of a linked file are the linked parts of the file, at the same places.
use Rattle.std.proofs.Common.{◌≡◌, ◌∙◌, List, [], ◌++◌, map, refl, ap, sym}
use Rattle.std.specs.List.{flat_map}
use Rattle.std.proofs.lemmas.List.{map-append}
use Rattle.pbx_desc_records.specs.declared.enumeration.EnumDescriptorProto.{EnumDescriptorProto}
use Rattle.pbx_desc_records.specs.declared.file.FileDescriptorProto.{FileDescriptorProto}
use Rattle.pbx_desc_records.specs.declared.message.DescriptorProto.{DescriptorProto, out-DescriptorProto}
use Rattle.pbx_desc_records.specs.declared.message.DescriptorProto.TheOpen.{DescriptorProto-F}
use Rattle.pbx_desc_records.specs.declared.service.ServiceDescriptorProto.{ServiceDescriptorProto}
use Rattle.pbx_link_definitions.specs.Names.{text_or_empty, qualified}
use Rattle.pbx_link_definitions.specs.Definitions.{Part, parts, message_name, service_name, package_of, nothing, definitions}
use Rattle.pbx_link_definitions.specs.Definitions.{top_messages, top_enums, top_extensions, messages, fields, enums, services, methods, extensions}
use Rattle.pbx_link_definitions.specs.Definitions.{fields_in, oneofs_in, enums_in, methods_in, extensions_in, messages_from, extensions_from}
use Rattle.pbx_link_rules_record.specs.OptionRules.{extension_ranges_in}
use Rattle.pbx_link_record.specs.Linked.{linked_extension, linked_field, linked_message, linked_method, linked_service, linked_with}
use Rattle.pbx_link_record.proofs.Layers.{linked_out}
use Rattle.pbx_link_record.proofs.Changed.{messages_changed, around_changed}
use Rattle.pbx_link_record.proofs.Defines.{linking_is_change}
use Rattle.pbx_link_record.proofs.FileDefines.{linked_record_defines}
use Rattle.pbx_link_laws.proofs.Lists.{changed_in, parts_changed, halves, told_alike, told_mapped}
use Rattle.pbx_link_laws.proofs.Parts.{settled_definitions}

abbrev File : Type 0
File = FileDescriptorProto

abbrev Message : Type 0
Message = Part DescriptorProto

module _ (seen : List File) where
  -- a part of a linked message
  abbrev pub in_linked : Message → Message
  in_linked = changed_in (linked_message seen)

  -- ---- in a message

  pub linked_fields_in : (p : Message) → fields_in (in_linked p) ≡ map (changed_in (linked_field seen)) (fields_in p)
  linked_fields_in p =
      ap (λ (l : DescriptorProto-F DescriptorProto). parts (qualified p.scope (text_or_empty l.name)) p.place 2 l.field) (linked_out seen p.scope p.item)
      ∙ parts_changed (linked_field seen) (message_name p) p.place 2 (out-DescriptorProto p.item).field

  pub linked_extensions_in : (p : Message) → extensions_in (in_linked p) ≡ map (changed_in (linked_extension seen)) (extensions_in p)
  linked_extensions_in p =
      ap (λ (l : DescriptorProto-F DescriptorProto). parts (qualified p.scope (text_or_empty l.name)) p.place 6 l.extension) (linked_out seen p.scope p.item)
      ∙ parts_changed (linked_extension seen) (message_name p) p.place 6 (out-DescriptorProto p.item).extension

  pub linked_enums_in : (p : Message) → enums_in (in_linked p) ≡ enums_in p
  linked_enums_in p =
      ap (λ (l : DescriptorProto-F DescriptorProto). parts (qualified p.scope (text_or_empty l.name)) p.place 4 l.enum_type) (linked_out seen p.scope p.item)

  pub linked_oneofs_in : (p : Message) → oneofs_in (in_linked p) ≡ oneofs_in p
  linked_oneofs_in p =
      ap (λ (l : DescriptorProto-F DescriptorProto). parts (qualified p.scope (text_or_empty l.name)) p.place 8 l.oneof_decl) (linked_out seen p.scope p.item)

  pub linked_ranges_in : (p : Message) → extension_ranges_in (in_linked p) ≡ extension_ranges_in p
  linked_ranges_in p = ap (λ (l : DescriptorProto-F DescriptorProto). parts [] p.place 5 l.extension_range) (linked_out seen p.scope p.item)

  -- ---- in a file

  linked_tops : (f : File) → top_messages (linked_with seen f) ≡ map in_linked (top_messages f)
  linked_tops f = parts_changed (linked_message seen) (package_of f) [] 4 f.message_type

  pub linked_messages : (f : File) → messages (linked_with seen f) ≡ map in_linked (messages f)
  linked_messages f =
      told_mapped in_linked in_linked messages_from messages_from (messages_changed (linked_message seen) (linking_is_change seen))
      (top_messages (linked_with seen f)) (top_messages f) (linked_tops f)

  pub linked_top_messages : (f : File) → top_messages (linked_with seen f) ≡ map in_linked (top_messages f)
  linked_top_messages = linked_tops

  pub linked_fields : (f : File) → fields (linked_with seen f) ≡ map (changed_in (linked_field seen)) (fields f)
  linked_fields f =
      told_mapped in_linked (changed_in (linked_field seen)) fields_in fields_in linked_fields_in (messages (linked_with seen f)) (messages f)
      (linked_messages f)

  pub linked_enums : (f : File) → enums (linked_with seen f) ≡ enums f
  linked_enums f =
      ap (λ (es : List (Part EnumDescriptorProto)). es ++ top_enums f)
      (told_alike in_linked enums_in enums_in linked_enums_in (messages (linked_with seen f)) (messages f) (linked_messages f))

  pub linked_services : (f : File) → services (linked_with seen f) ≡ map (changed_in (linked_service seen)) (services f)
  linked_services f = parts_changed (linked_service seen) (package_of f) [] 6 f.service

  pub linked_methods_in : (p : Part ServiceDescriptorProto)
      → methods_in (changed_in (linked_service seen) p) ≡ map (changed_in (linked_method seen)) (methods_in p)
  linked_methods_in p = parts_changed (linked_method seen) (service_name p) p.place 2 p.item.method

  pub linked_methods : (f : File) → methods (linked_with seen f) ≡ map (changed_in (linked_method seen)) (methods f)
  linked_methods f =
      told_mapped (changed_in (linked_service seen)) (changed_in (linked_method seen)) methods_in methods_in linked_methods_in
      (services (linked_with seen f)) (services f) (linked_services f)

  extensions_linked : (p : Message) → extensions_from (in_linked p) ≡ map (changed_in (linked_extension seen)) (extensions_from p)
  unfolding extensions_from
  extensions_linked =
      around_changed nothing extensions_in nothing extensions_in (changed_in (linked_extension seen)) (linked_message seen) (linking_is_change seen)
      (λ p. refl) linked_extensions_in

  pub linked_extensions : (f : File) → extensions (linked_with seen f) ≡ map (changed_in (linked_extension seen)) (extensions f)
  linked_extensions f =
      halves _ _ _ _
      (told_mapped in_linked (changed_in (linked_extension seen)) extensions_from extensions_from extensions_linked
      (top_messages (linked_with seen f)) (top_messages f) (linked_tops f))
      (parts_changed (linked_extension seen) (package_of f) [] 7 f.extension)
      ∙ sym (map-append (changed_in (linked_extension seen)) (flat_map extensions_from (top_messages f)) (top_extensions f))

  -- ---- definitions

  pub linked_definitions : (f : File) → definitions (linked_with seen f) ≡ definitions f
  linked_definitions f = sym (settled_definitions (linked_with seen f)) ∙ linked_record_defines seen f
