-- The parts of a settled file are the settled parts of the file, at the same places.
use Rattle.std.proofs.Common.{◌≡◌, ◌∙◌, List, [], ◌∷◌, map, refl, ap, sym}
use Rattle.std.specs.List.{flat_map}
use Rattle.std.proofs.lemmas.List.{map-append}
use Rattle.pbx_desc_records.specs.declared.enumeration.EnumDescriptorProto.{EnumDescriptorProto}
use Rattle.pbx_desc_records.specs.declared.file.FileDescriptorProto.{FileDescriptorProto}
use Rattle.pbx_desc_records.specs.declared.message.DescriptorProto.{DescriptorProto, out-DescriptorProto}
use Rattle.pbx_desc_records.specs.declared.message.DescriptorProto.TheOpen.{DescriptorProto-F}
use Rattle.pbx_desc_records.specs.declared.service.MethodDescriptorProto.{MethodDescriptorProto}
use Rattle.pbx_desc_records.specs.declared.service.ServiceDescriptorProto.{ServiceDescriptorProto}
use Rattle.pbx_link_definitions.specs.Names.{text_or_empty, qualified}
use Rattle.pbx_link_definitions.specs.Definitions.{Part, parts, Defined, defined, message_name, service_name, package_of, nothing, definitions, service_definitions}
use Rattle.pbx_link_definitions.specs.Definitions.{top_messages, top_enums, top_extensions, messages, fields, oneofs, enums, services, methods, extensions}
use Rattle.pbx_link_definitions.specs.Definitions.{fields_in, oneofs_in, enums_in, values_in, methods_in, extensions_in, messages_from, extensions_from}
use Rattle.pbx_link_definitions.specs.Definitions.{definitions_from}
use Rattle.pbx_link_definitions.specs.declared.definitions.Sort.TheVariants.{Method as a_method, Service as a_service, Extension as an_extension}
use Rattle.pbx_link_rules_record.specs.OptionRules.{extension_ranges_in}
use Rattle.pbx_link_record.specs.Settled.{settled_field, settled_oneof, settled_value, settled_enum, settled_method, settled_service, settled_message, settled_file}
use Rattle.pbx_link_record.specs.Settled.{settled_extension_range}
use Rattle.pbx_link_record.proofs.Layers.{settled_out}
use Rattle.pbx_link_record.proofs.Changed.{messages_changed, around_changed}
use Rattle.pbx_link_record.proofs.Defines.{named_alike, fields_alike, enums_alike, settled_in, settling_is_change, settled_defines}
use Rattle.pbx_link_laws.proofs.Lists.{part_of, parts_of, halves, told_alike, told_mapped}

abbrev File : Type 0
File = FileDescriptorProto

abbrev Message : Type 0
Message = Part DescriptorProto

-- ---- in a message

pub settled_fields_in : (p : Message) → fields_in (part_of settled_message p) ≡ map (part_of settled_field) (fields_in p)
settled_fields_in p =
    ap (λ (l : DescriptorProto-F DescriptorProto). parts (qualified p.scope (text_or_empty l.name)) p.place 2 l.field) (settled_out p.item)
    ∙ parts_of settled_field (message_name p) p.place 2 (out-DescriptorProto p.item).field

pub settled_enums_in : (p : Message) → enums_in (part_of settled_message p) ≡ map (part_of settled_enum) (enums_in p)
settled_enums_in p =
    ap (λ (l : DescriptorProto-F DescriptorProto). parts (qualified p.scope (text_or_empty l.name)) p.place 4 l.enum_type) (settled_out p.item)
    ∙ parts_of settled_enum (message_name p) p.place 4 (out-DescriptorProto p.item).enum_type

pub settled_extensions_in : (p : Message) → extensions_in (part_of settled_message p) ≡ map (part_of settled_field) (extensions_in p)
settled_extensions_in p =
    ap (λ (l : DescriptorProto-F DescriptorProto). parts (qualified p.scope (text_or_empty l.name)) p.place 6 l.extension) (settled_out p.item)
    ∙ parts_of settled_field (message_name p) p.place 6 (out-DescriptorProto p.item).extension

pub settled_oneofs_in : (p : Message) → oneofs_in (part_of settled_message p) ≡ map (part_of settled_oneof) (oneofs_in p)
settled_oneofs_in p =
    ap (λ (l : DescriptorProto-F DescriptorProto). parts (qualified p.scope (text_or_empty l.name)) p.place 8 l.oneof_decl) (settled_out p.item)
    ∙ parts_of settled_oneof (message_name p) p.place 8 (out-DescriptorProto p.item).oneof_decl

pub settled_ranges_in : (p : Message) → extension_ranges_in (part_of settled_message p) ≡ map (part_of settled_extension_range) (extension_ranges_in p)
settled_ranges_in p =
    ap (λ (l : DescriptorProto-F DescriptorProto). parts [] p.place 5 l.extension_range) (settled_out p.item)
    ∙ parts_of settled_extension_range [] p.place 5 (out-DescriptorProto p.item).extension_range

-- the full name of a message
pub settled_name : (p : Message) → message_name (part_of settled_message p) ≡ message_name p
settled_name p = ap (λ (l : DescriptorProto-F DescriptorProto). qualified p.scope (text_or_empty l.name)) (settled_out p.item)

-- ---- in an enum and in a service

pub settled_values_in : (p : Part EnumDescriptorProto) → values_in (part_of settled_enum p) ≡ map (part_of settled_value) (values_in p)
settled_values_in p = parts_of settled_value p.scope p.place 2 p.item.value

pub settled_methods_in : (p : Part ServiceDescriptorProto) → methods_in (part_of settled_service p) ≡ map (part_of settled_method) (methods_in p)
settled_methods_in p = parts_of settled_method (service_name p) p.place 2 p.item.method

-- ---- in a file

pub settled_tops : (f : File) → top_messages (settled_file f) ≡ map (part_of settled_message) (top_messages f)
settled_tops f = parts_of settled_message (package_of f) [] 4 f.message_type

pub settled_messages : (f : File) → messages (settled_file f) ≡ map (part_of settled_message) (messages f)
settled_messages f =
    told_mapped (part_of settled_message) (part_of settled_message) messages_from messages_from (messages_changed settled_in settling_is_change)
    (top_messages (settled_file f)) (top_messages f) (settled_tops f)

pub settled_fields : (f : File) → fields (settled_file f) ≡ map (part_of settled_field) (fields f)
settled_fields f =
    told_mapped (part_of settled_message) (part_of settled_field) fields_in fields_in settled_fields_in (messages (settled_file f)) (messages f)
    (settled_messages f)

pub settled_oneofs : (f : File) → oneofs (settled_file f) ≡ map (part_of settled_oneof) (oneofs f)
settled_oneofs f =
    told_mapped (part_of settled_message) (part_of settled_oneof) oneofs_in oneofs_in settled_oneofs_in (messages (settled_file f)) (messages f)
    (settled_messages f)

pub settled_enums : (f : File) → enums (settled_file f) ≡ map (part_of settled_enum) (enums f)
settled_enums f =
    halves _ _ _ _
    (told_mapped (part_of settled_message) (part_of settled_enum) enums_in enums_in settled_enums_in (messages (settled_file f)) (messages f)
    (settled_messages f))
    (parts_of settled_enum (package_of f) [] 5 f.enum_type)
    ∙ sym (map-append (part_of settled_enum) (flat_map enums_in (messages f)) (top_enums f))

pub settled_services : (f : File) → services (settled_file f) ≡ map (part_of settled_service) (services f)
settled_services f = parts_of settled_service (package_of f) [] 6 f.service

pub settled_methods : (f : File) → methods (settled_file f) ≡ map (part_of settled_method) (methods f)
settled_methods f =
    told_mapped (part_of settled_service) (part_of settled_method) methods_in methods_in settled_methods_in (services (settled_file f)) (services f)
    (settled_services f)

extensions_settled : (p : Message) → extensions_from (part_of settled_message p) ≡ map (part_of settled_field) (extensions_from p)
unfolding extensions_from
extensions_settled =
    around_changed nothing extensions_in nothing extensions_in (part_of settled_field) settled_in settling_is_change (λ p. refl) settled_extensions_in

pub settled_extensions : (f : File) → extensions (settled_file f) ≡ map (part_of settled_field) (extensions f)
settled_extensions f =
    halves _ _ _ _
    (told_mapped (part_of settled_message) (part_of settled_field) extensions_from extensions_from extensions_settled (top_messages (settled_file f))
    (top_messages f) (settled_tops f))
    (parts_of settled_field (package_of f) [] 7 f.extension)
    ∙ sym (map-append (part_of settled_field) (flat_map extensions_from (top_messages f)) (top_extensions f))

-- ---- definitions

settled_service_definitions : (p : Part ServiceDescriptorProto) → service_definitions (part_of settled_service p) ≡ service_definitions p
settled_service_definitions p =
    ap (λ (ds : List Defined). defined a_service (λ (s : ServiceDescriptorProto). s.name) p ∷ ds)
    (named_alike a_method (λ (m : MethodDescriptorProto). m.name) settled_method (λ m. refl) (service_name p) p.place 2 p.item.method)

pub settled_definitions : (f : File) → definitions (settled_file f) ≡ definitions f
settled_definitions f =
    halves _ _ _ _
    (halves _ _ _ _
    (halves _ _ _ _
    (told_alike (part_of settled_message) definitions_from definitions_from settled_defines (top_messages (settled_file f)) (top_messages f) (settled_tops f))
    (enums_alike (package_of f) [] 5 f.enum_type))
    (told_alike (part_of settled_service) service_definitions service_definitions settled_service_definitions (services (settled_file f)) (services f)
    (settled_services f)))
    (fields_alike an_extension settled_field (λ x. refl) (package_of f) [] 7 f.extension)
