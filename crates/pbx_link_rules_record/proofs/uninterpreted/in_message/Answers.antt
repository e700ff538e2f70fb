use Rattle.std.proofs.Common.{◌≡◌, ◌∙◌, ◌++◌, List, [], Option, None, Bool, ap, subst}
use Rattle.std.proofs.lemmas.List.Elements.{Contains-append_left, Contains-append_right}
use Rattle.std.proofs.lemmas.Result.{IfOk-weaker}
use Rattle.pbx_desc_records.specs.declared.field.FieldDescriptorProto.{FieldDescriptorProto}
use Rattle.pbx_desc_records.specs.declared.field.OneofDescriptorProto.{OneofDescriptorProto}
use Rattle.pbx_desc_records.specs.declared.message.DescriptorProto.{DescriptorProto, out-DescriptorProto}
use Rattle.pbx_desc_records.specs.declared.message.ExtensionRange.{ExtensionRange}
use Rattle.pbx_desc_records.specs.declared.options.Options.{Options}
use Rattle.pbx_link_definitions.specs.Says.{is_uninterpreted}
use Rattle.pbx_link_definitions.specs.Definitions.{Place, Part, at, message_name, fields_in, oneofs_in}
use Rattle.pbx_link_definitions.specs.Places.{place_if, IsAmong}
use Rattle.pbx_link_rules_record.specs.OptionRules.{uninterpreted, extension_ranges_in}
use Rattle.pbx_link_rules_record.proofs.Among.{among_right}
use Rattle.pbx_link_rules_record.proofs.OptionPlaces.{moved, own_none}
use Rattle.pbx_link_rules_record.proofs.uninterpreted.in_message.Goals as goal

abbrev of_field : FieldDescriptorProto → Option Options
of_field x = x.options

abbrev of_range : ExtensionRange → Option Options
of_range r = r.options

abbrev of_oneof : OneofDescriptorProto → Option Options
of_oneof o = o.options

abbrev own : DescriptorProto → Bool
own d = is_uninterpreted (out-DescriptorProto d).options

abbrev itself : Part DescriptorProto → List Place
itself m = place_if (own m.item) (at m 7)

abbrev fields : Part DescriptorProto → List Place
fields m = uninterpreted of_field 8 (fields_in m)

abbrev ranges : Part DescriptorProto → List Place
ranges m = uninterpreted of_range 3 (extension_ranges_in m)

abbrev oneofs : Part DescriptorProto → List Place
oneofs m = uninterpreted of_oneof 2 (oneofs_in m)

pub returns-in-Some : goal.returns-in-Some
returns-in-Some c =
    let m = c.args.part.now in
    let found : IsAmong (fields m) c.in_ok-place.field-0 =
    moved of_field 8 2 (message_name m) c.place.result.now m.place c.as_slice.result.now (out-DescriptorProto m.item).field c.in_ok-place.field-0 c.place.ensures
    (c.as_slice.ensures ∙ ap (λ (d : DescriptorProto). (out-DescriptorProto d).field) c.item-message.ensures) (c.in_ok-place.ensures (message_name m)) in
    Contains-append_left ((itself m ++ fields m) ++ ranges m) (oneofs m) c.in-Some.place
    (Contains-append_left (itself m ++ fields m) (ranges m) c.in-Some.place (Contains-append_right (itself m) (fields m) c.in-Some.place (subst (IsAmong (fields m)) c.in-Some.is found)))

pub returns-in-Some-2 : goal.returns-in-Some-2
returns-in-Some-2 c =
    let m = c.args.part.now in
    let found : IsAmong (ranges m) c.in_ok-place-2.field-0 =
    moved of_range 3 5 [] c.place-2.result.now m.place c.as_slice-2.result.now (out-DescriptorProto m.item).extension_range c.in_ok-place-2.field-0 c.place-2.ensures
    (c.as_slice-2.ensures ∙ ap (λ (d : DescriptorProto). (out-DescriptorProto d).extension_range) c.item-message.ensures) (c.in_ok-place-2.ensures []) in
    Contains-append_left ((itself m ++ fields m) ++ ranges m) (oneofs m) c.in-Some-2.place
    (Contains-append_right (itself m ++ fields m) (ranges m) c.in-Some-2.place (subst (IsAmong (ranges m)) c.in-Some-2.is found))

pub returns : goal.returns
returns c =
    let m = c.args.part.now in
    let none : itself m ≡ [] = own_none (own m.item) (at m 7) (c.if-is_uninterpreted.ensures ∙ ap own c.item-message.ensures) in
    let in_fields : fields m ≡ [] = subst (IsAmong (fields m)) c.in_default.is
    (moved of_field 8 2 (message_name m) c.place.result.now m.place c.as_slice.result.now (out-DescriptorProto m.item).field c.in_ok-place.field-0 c.place.ensures
    (c.as_slice.ensures ∙ ap (λ (d : DescriptorProto). (out-DescriptorProto d).field) c.item-message.ensures) (c.in_ok-place.ensures (message_name m))) in
    let in_ranges : ranges m ≡ [] = subst (IsAmong (ranges m)) c.in_default-2.is
    (moved of_range 3 5 [] c.place-2.result.now m.place c.as_slice-2.result.now (out-DescriptorProto m.item).extension_range c.in_ok-place-2.field-0 c.place-2.ensures
    (c.as_slice-2.ensures ∙ ap (λ (d : DescriptorProto). (out-DescriptorProto d).extension_range) c.item-message.ensures) (c.in_ok-place-2.ensures [])) in
    let front : (itself m ++ fields m) ++ ranges m ≡ [] =
    among_right (itself m ++ fields m) (ranges m) None (among_right (itself m) (fields m) None none in_fields) in_ranges in
    IfOk-weaker c.in_list-3.result _ _
    (λ o h. among_right ((itself m ++ fields m) ++ ranges m) (oneofs m) o front
    (moved of_oneof 2 8 (message_name m) c.place-3.result.now m.place c.as_slice-3.result.now (out-DescriptorProto m.item).oneof_decl o c.place-3.ensures
    (c.as_slice-3.ensures ∙ ap (λ (d : DescriptorProto). (out-DescriptorProto d).oneof_decl) c.item-message.ensures) (h (message_name m))))
    c.in_list-3.ensures
