use Rattle.std.proofs.Common.{◌≡◌, Some, false, sym, ◌∙◌, subst}
use Rattle.std.specs.Prelude.{Option, IfSome, option_map}
use Rattle.pbx_content.specs.declared.shape.Shape.{Shape}
use Rattle.pbx_content.specs.Content.{Val}
use Rattle.pbx_content.specs.Shape.{field_of, fields_of, is_float}
use Rattle.pbx_content_codec.specs.View.{content_of, val_of}
use Rattle.pbx_desc_records.specs.declared.message.DescriptorProto.{DescriptorProto}
use Rattle.pbx_link_meaning.specs.Descriptors.{Described}
use Rattle.pbx_link_meaning.specs.Shapes.{shape_of, place_of}
use Rattle.pbx_message_laws.specs.Defaults.{value_or_default}
use Rattle.pbx_message_laws.specs.Settable.{IsSettable}
use Rattle.pbx_message_dynamic.specs.Given.{IsFieldGiven}
use Rattle.pbx_message_dynamic.specs.Message.{dynamic}
use Rattle.pbx_message_dynamic.proofs.Gets.{if_there, got_field}
use Rattle.pbx_message_dynamic.proofs.reading.numbered_value.Goals as goal

pub value_or_default-requires-clause-sound : goal.value_or_default-requires-clause-sound
value_or_default-requires-clause-sound c =
    let d = c.args.desc.now in
    let f = c.in-Some.field.now in
    let place : c.place-place.result ≡ place_of d = c.place-place.ensures.place c.requires.shape in
    let numbered : field_of c.args.number (fields_of (shape_of d.pool) (place_of d)) ≡ Some f = sym (rw (c.requires.shape, place) at c.in-Some.ensures) in
    subst (λ (s : Shape). IfSome c.get-held.result (λ held. IsSettable s f (val_of held.now))) (sym c.requires.shape)
    (if_there (shape_of d.pool) (place_of d) c.args.number (content_of c.args.tree.now) (λ held. val_of held.now) c.get-held.result f
    c.sound_values_are_settable.ensures c.requires.sound c.get-held.ensures numbered)

pub returns-in-Ok : goal.returns-in-Ok
returns-in-Ok c =
    let d = c.args.desc.now in
    let f = c.in-Some.field.now in
    let v = c.in-Ok.value in
    let x : Option Val = option_map (λ held. val_of held.now) c.get-held.result in
    let place : c.place-place.result ≡ place_of d = c.place-place.ensures.place c.requires.shape in
    let numbered : field_of c.args.number (fields_of (shape_of d.pool) (place_of d)) ≡ Some f = sym (rw (c.requires.shape, place) at c.in-Some.ensures) in
    let plain : is_float f.kind ≡ false = sym c.is_float.ensures ∙ c.if-is_float.false in
    let given : IsFieldGiven d.pool f.cardinality f.kind (value_or_default (shape_of d.pool) f x) v =
    subst (λ (s : Shape). IsFieldGiven d.pool f.cardinality f.kind (value_or_default s f x) v) c.requires.shape
    (subst (λ (m : Described DescriptorProto). IsFieldGiven m.pool f.cardinality f.kind (value_or_default c.args.schema.now f x) v)
    c.value_type-value_type.ensures.holder c.in-Ok.ensures) in
    got_field (dynamic d (content_of c.args.tree.now)) c.args.number f x v c.fields_are_listed.ensures.declared numbered plain c.get-held.ensures given
