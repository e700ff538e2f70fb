-- Rules on options: none is left uninterpreted, and no message is a message set (`descriptor.proto`: UninterpretedOption, which is the
-- number 999 of all options, and MessageOptions.message_set_wire_format).
use Rattle.std.specs.Prelude.{ℕ, pos, List, [], ◌∷◌, ◌++◌, Bool, Option}
use Rattle.std.specs.List.{flat_map}
use Rattle.pbx_desc_records.specs.declared.enumeration.EnumDescriptorProto.{EnumDescriptorProto}
use Rattle.pbx_desc_records.specs.declared.enumeration.EnumValueDescriptorProto.{EnumValueDescriptorProto}
use Rattle.pbx_desc_records.specs.declared.field.FieldDescriptorProto.{FieldDescriptorProto}
use Rattle.pbx_desc_records.specs.declared.field.OneofDescriptorProto.{OneofDescriptorProto}
use Rattle.pbx_desc_records.specs.declared.file.FileDescriptorProto.{FileDescriptorProto}
use Rattle.pbx_desc_records.specs.declared.message.DescriptorProto.{DescriptorProto, out-DescriptorProto}
use Rattle.pbx_desc_records.specs.declared.message.ExtensionRange.{ExtensionRange}
use Rattle.pbx_desc_records.specs.declared.options.Options.{Options}
use Rattle.pbx_desc_records.specs.declared.service.MethodDescriptorProto.{MethodDescriptorProto}
use Rattle.pbx_desc_records.specs.declared.service.ServiceDescriptorProto.{ServiceDescriptorProto}
use Rattle.pbx_link_definitions.specs.Says.{has_option, is_uninterpreted}
use Rattle.pbx_link_definitions.specs.Definitions.{Place, Part, at, parts, fields_in, oneofs_in, values_in, methods_in, messages, enums, services, extensions}
use Rattle.pbx_link_definitions.specs.Places.{places_where, place_if}

-- the parts whose options, the field of this number, hold an option that is not interpreted
abbrev pub uninterpreted : {X : Type 0} → (X → Option Options) → ℕ → List (Part X) → List Place
uninterpreted options n ps = places_where (λ p. is_uninterpreted (options p.item)) (λ p. at p n) ps

-- the extension ranges of a message as they stand in its record (field 5 of DescriptorProto)
abbrev pub extension_ranges_in : Part DescriptorProto → List (Part ExtensionRange)
extension_ranges_in m = parts [] m.place 5 (out-DescriptorProto m.item).extension_range

-- of a message, and of its fields, extension ranges and oneofs
abbrev pub uninterpreted_in_message : Part DescriptorProto → List Place
uninterpreted_in_message m =
    place_if (is_uninterpreted (out-DescriptorProto m.item).options) (at m 7)
    ++ uninterpreted (λ (x : FieldDescriptorProto). x.options) 8 (fields_in m)
    ++ uninterpreted (λ (r : ExtensionRange). r.options) 3 (extension_ranges_in m)
    ++ uninterpreted (λ (o : OneofDescriptorProto). o.options) 2 (oneofs_in m)

-- of an enum and of its values
abbrev pub uninterpreted_in_enum : Part EnumDescriptorProto → List Place
uninterpreted_in_enum e =
    place_if (is_uninterpreted e.item.options) (at e 3) ++ uninterpreted (λ (v : EnumValueDescriptorProto). v.options) 3 (values_in e)

-- of a service and of its methods
abbrev pub uninterpreted_in_service : Part ServiceDescriptorProto → List Place
uninterpreted_in_service s =
    place_if (is_uninterpreted s.item.options) (at s 3) ++ uninterpreted (λ (m : MethodDescriptorProto). m.options) 4 (methods_in s)

-- of the file (field 8 of FileDescriptorProto), and of all parts that have options
abbrev pub uninterpreted_options : FileDescriptorProto → List Place
uninterpreted_options f =
    place_if (is_uninterpreted f.options) (pos 8 ∷ [])
    ++ flat_map uninterpreted_in_message (messages f)
    ++ uninterpreted (λ (x : FieldDescriptorProto). x.options) 8 (extensions f)
    ++ flat_map uninterpreted_in_enum (enums f)
    ++ flat_map uninterpreted_in_service (services f)

-- the message is a message set
abbrev pub is_message_set : Part DescriptorProto → Bool
is_message_set m = has_option 1 (out-DescriptorProto m.item).options

-- the options of message sets
abbrev pub message_sets : FileDescriptorProto → List Place
message_sets f = places_where is_message_set (λ m. at m 7) (messages f)
