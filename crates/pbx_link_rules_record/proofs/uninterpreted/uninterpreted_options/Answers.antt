use Rattle.std.proofs.Common.{◌≡◌, ◌∙◌, ◌++◌, ◌∷◌, [], List, pos, Option, None, Bool, ap, subst}
use Rattle.std.specs.List.{flat_map}
use Rattle.std.proofs.lemmas.Result.{IfOk-weaker}
use Rattle.pbx_desc_records.specs.declared.field.FieldDescriptorProto.{FieldDescriptorProto}
use Rattle.pbx_desc_records.specs.declared.enumeration.EnumDescriptorProto.{EnumDescriptorProto}
use Rattle.pbx_desc_records.specs.declared.file.FileDescriptorProto.{FileDescriptorProto}
use Rattle.pbx_desc_records.specs.declared.message.DescriptorProto.{DescriptorProto}
use Rattle.pbx_desc_records.specs.declared.options.Options.{Options}
use Rattle.pbx_desc_records.specs.declared.service.ServiceDescriptorProto.{ServiceDescriptorProto}
use Rattle.pbx_link_definitions.specs.Says.{is_uninterpreted}
use Rattle.pbx_link_definitions.specs.Definitions.{Place, Part, parts, package_of, messages, extensions, enums, services}
use Rattle.pbx_link_definitions.specs.Places.{place_if, IsAmong}
use Rattle.pbx_link_rules_record.specs.OptionRules.{uninterpreted, uninterpreted_in_message, uninterpreted_in_enum, uninterpreted_in_service}
use Rattle.pbx_link_rules_record.proofs.Among.{among_right}
use Rattle.pbx_link_rules_record.proofs.OptionPlaces.{own_none}
use Rattle.pbx_link_rules_record.proofs.uninterpreted.uninterpreted_options.Goals as goal

abbrev own : FileDescriptorProto → Bool
own f = is_uninterpreted f.options

abbrev itself : FileDescriptorProto → List Place
itself f = place_if (own f) (pos 8 ∷ [])

abbrev of_field : FieldDescriptorProto → Option Options
of_field x = x.options

abbrev of_messages : List (Part DescriptorProto) → List Place
of_messages ms = flat_map uninterpreted_in_message ms

abbrev of_extensions : List (Part FieldDescriptorProto) → List Place
of_extensions xs = uninterpreted of_field 8 xs

abbrev of_enums : List (Part EnumDescriptorProto) → List Place
of_enums es = flat_map uninterpreted_in_enum es

abbrev of_services : List (Part ServiceDescriptorProto) → List Place
of_services ss = flat_map uninterpreted_in_service ss

pub returns : goal.returns
returns c =
    let f = c.args.parts.now in
    let none : itself f ≡ [] = own_none (own f) (pos 8 ∷ []) (c.if-is_uninterpreted.ensures ∙ ap own c.file-file.ensures) in
    let no_messages : of_messages (messages f) ≡ [] =
    subst (λ (ms : List (Part DescriptorProto)). of_messages ms ≡ []) c.messages.ensures (subst (IsAmong (of_messages c.messages.result.now)) c.in_default.is c.in_ok-place.ensures) in
    let no_extensions : of_extensions (extensions f) ≡ [] =
    subst (λ (xs : List (Part FieldDescriptorProto)). of_extensions xs ≡ []) c.extensions.ensures (subst (IsAmong (of_extensions c.extensions.result.now)) c.in_default-2.is c.in_ok-place-2.ensures) in
    let no_enums : of_enums (enums f) ≡ [] =
    subst (λ (es : List (Part EnumDescriptorProto)). of_enums es ≡ []) c.enums.ensures (subst (IsAmong (of_enums c.enums.result.now)) c.in_default-3.is c.in_ok-place-3.ensures) in
    let front : ((itself f ++ of_messages (messages f)) ++ of_extensions (extensions f)) ++ of_enums (enums f) ≡ [] =
    among_right ((itself f ++ of_messages (messages f)) ++ of_extensions (extensions f)) (of_enums (enums f)) None
    (among_right (itself f ++ of_messages (messages f)) (of_extensions (extensions f)) None (among_right (itself f) (of_messages (messages f)) None none no_messages) no_extensions) no_enums in
    let same = c.as_slice.ensures ∙ ap (λ (g : FileDescriptorProto). g.service) c.file-file.ensures in
    IfOk-weaker c.in_services.result _ _
    (λ o h. among_right (((itself f ++ of_messages (messages f)) ++ of_extensions (extensions f)) ++ of_enums (enums f)) (of_services (services f)) o front
    (subst (λ (ss : List ServiceDescriptorProto). IsAmong (of_services (parts (package_of f) [] 6 ss)) o) same (h (package_of f))))
    c.in_services.ensures
