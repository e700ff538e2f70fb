use Rattle.std.proofs.Common.{◌∙◌, Bool, List, None, Some, refl, ap, sym, subst}
use Rattle.std.specs.Prelude.{Contains, find}
use Rattle.std.specs.List.{flat_map}
use Rattle.pbx_desc_records.specs.declared.field.FieldDescriptorProto.{FieldDescriptorProto}
use Rattle.pbx_desc_records.specs.declared.file.FileDescriptorProto.{FileDescriptorProto}
use Rattle.pbx_link_definitions.specs.Says.{is_proto3}
use Rattle.pbx_link_definitions.specs.Definitions.{Place, Part, messages, extensions}
use Rattle.pbx_link_definitions.specs.Places.{IsAmong}
use Rattle.pbx_link_rules_field.specs.Rules.{bad_oneofs_in, bad_extension_members, is_bad_extension, bad_oneofs}
use Rattle.pbx_link_rules_field.proofs.Placed.{in_second_part, among_found}
use Rattle.pbx_link_rules_field.proofs.oneofs.bad_oneofs.Goals as goal

abbrev test : Bool → Part FieldDescriptorProto → Bool
test proto3 p = is_bad_extension proto3 p.item

pub returns-in_ok-place_copy-in-Some-bad_extension : goal.returns-in_ok-place_copy-in-Some-bad_extension
returns-in_ok-place_copy-in-Some-bad_extension c =
    let f : FileDescriptorProto = c.args.parts.now in
    let same = ap (λ (g : FileDescriptorProto). flat_map (bad_oneofs_in g) c.messages.result.now) c.file.ensures
    ∙ ap (flat_map (bad_oneofs_in f)) c.messages.ensures in
    let among = subst (λ (ps : List Place). IsAmong ps c.in_ok-place.field-0) same c.in_ok-place.ensures in
    let first = c.in-Some-bad_extension.ensures ∙ ap (λ (b : Bool). find (test b) c.extensions.result.now) (c.is_proto3.ensures
    ∙ ap is_proto3 c.file-2.ensures) ∙ ap (find (test (is_proto3 f))) c.extensions.ensures in
    let found = among_found (test (is_proto3 f)) (λ (p : Part FieldDescriptorProto). p.place) (extensions f) (Some
    c.in-Some-bad_extension.extension.now) first in
    in_second_part (bad_oneofs f) (flat_map (bad_oneofs_in f) (messages f)) (bad_extension_members f) c.in_ok-place.field-0 (Some
    c.in_ok-place_copy-in-Some-bad_extension.field-0) refl among c.in_default.is
    (subst (λ (q : Place). Contains (bad_extension_members f) q) (sym (c.in_ok-place_copy-in-Some-bad_extension.ensures ∙ c.place.ensures)) found)

pub returns-in-None : goal.returns-in-None
returns-in-None c =
    let f : FileDescriptorProto = c.args.parts.now in
    let same = ap (λ (g : FileDescriptorProto). flat_map (bad_oneofs_in g) c.messages.result.now) c.file.ensures
    ∙ ap (flat_map (bad_oneofs_in f)) c.messages.ensures in
    let among = subst (λ (ps : List Place). IsAmong ps c.in_ok-place.field-0) same c.in_ok-place.ensures in
    let first = c.in-None.ensures ∙ ap (λ (b : Bool). find (test b) c.extensions.result.now) (c.is_proto3.ensures
    ∙ ap is_proto3 c.file-2.ensures) ∙ ap (find (test (is_proto3 f))) c.extensions.ensures in
    in_second_part (bad_oneofs f) (flat_map (bad_oneofs_in f) (messages f)) (bad_extension_members f) c.in_ok-place.field-0 None refl among
    c.in_default.is
    (among_found (test (is_proto3 f)) (λ (p : Part FieldDescriptorProto). p.place) (extensions f) None first)
