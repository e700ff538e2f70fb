use Rattle.std.proofs.Common.{◌∙◌, Bool, List, None, Some, ap, sym, subst}
use Rattle.std.specs.Prelude.{Contains, find}
use Rattle.std.specs.List.{flat_map}
use Rattle.pbx_desc_records.specs.declared.field.FieldDescriptorProto.{FieldDescriptorProto}
use Rattle.pbx_desc_records.specs.declared.file.FileDescriptorProto.{FileDescriptorProto}
use Rattle.pbx_link_definitions.specs.Definitions.{Place, Part, at, messages, extensions}
use Rattle.pbx_link_definitions.specs.Places.{IsAmong}
use Rattle.pbx_link_rules_field.specs.Rules.{has_bad_type, bad_types_in, bad_types_among, bad_types}
use Rattle.pbx_link_rules_field.proofs.Placed.{in_first_part, in_second_part, among_found, types_both}
use Rattle.pbx_link_rules_field.proofs.types.bad_types.Goals as goal

abbrev test : Part FieldDescriptorProto → Bool
test p = has_bad_type p.item

abbrev fields_of : FileDescriptorProto → List Place
fields_of f = flat_map bad_types_in (messages f)

pub returns-in-Some : goal.returns-in-Some
returns-in-Some c =
    let f : FileDescriptorProto = c.args.parts.now in
    let among = subst (λ (ps : List Place). IsAmong ps c.in_ok-place.field-0) (ap (flat_map bad_types_in) c.messages.ensures) c.in_ok-place.ensures in
    in_first_part (bad_types f) (fields_of f) (bad_types_among (extensions f)) c.in_ok-place.field-0 c.in-Some.place (types_both f) among c.in-Some.is

pub returns-in_ok-at-in-Some-bad_extension : goal.returns-in_ok-at-in-Some-bad_extension
returns-in_ok-at-in-Some-bad_extension c =
    let f : FileDescriptorProto = c.args.parts.now in
    let among = subst (λ (ps : List Place). IsAmong ps c.in_ok-place.field-0) (ap (flat_map bad_types_in) c.messages.ensures) c.in_ok-place.ensures in
    let found = among_found test (λ (p : Part FieldDescriptorProto). at p 5) (extensions f) (Some c.in-Some-bad_extension.extension.now)
    (c.in-Some-bad_extension.ensures ∙ ap (find test) c.extensions.ensures) in
    in_second_part (bad_types f) (fields_of f) (bad_types_among (extensions f)) c.in_ok-place.field-0 (Some
    c.in_ok-at-in-Some-bad_extension.field-0) (types_both f) among c.in_default.is
    (subst (λ (q : Place). Contains (bad_types_among (extensions f)) q) (sym c.in_ok-at-in-Some-bad_extension.ensures) found)

pub returns-in-None : goal.returns-in-None
returns-in-None c =
    let f : FileDescriptorProto = c.args.parts.now in
    let among = subst (λ (ps : List Place). IsAmong ps c.in_ok-place.field-0) (ap (flat_map bad_types_in) c.messages.ensures) c.in_ok-place.ensures in
    let none = among_found test (λ (p : Part FieldDescriptorProto). at p 5) (extensions f) None (c.in-None.ensures
    ∙ ap (find test) c.extensions.ensures) in
    in_second_part (bad_types f) (fields_of f) (bad_types_among (extensions f)) c.in_ok-place.field-0 None (types_both f) among c.in_default.is none
