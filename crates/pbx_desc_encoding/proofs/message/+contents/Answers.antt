use Rattle.std.proofs.Common.{subst, refl, sym, ap, ◌∙◌}
use Rattle.std.specs.Prelude.{IfOk}
use Rattle.pbx_content_codec.specs.declared.contents.Held as held
use Rattle.pbx_content.specs.declared.shape.Kind.TheVariants as kind
use Rattle.pbx_content.specs.Content.{Content, message}
use Rattle.pbx_desc_shapes.specs.DescriptorShape.{descriptor_shape, message_fields}
use Rattle.pbx_desc_records.specs.declared.message.DescriptorProto.{out-DescriptorProto}
use Rattle.pbx_desc_encoding.specs.Building.{Holds}
use Rattle.pbx_desc_encoding.specs.Content.{message_values, message_content}
use Rattle.pbx_desc_encoding.proofs.Built.{start, next, whole}
use Rattle.pbx_desc_encoding.proofs.Messages.{opened, message_content_at, nested_put}
use Rattle.pbx_desc_encoding.proofs.Told.{val_of-Message, values_more, are_more}
use Rattle.pbx_desc_encoding.proofs.Types.{message_type, message_options_type}
use Rattle.pbx_desc_encoding.proofs.message.+contents.Goals as goal

pub message_contents-returns : goal.message_contents-returns
message_contents-returns t c =
    let m = c.args.message.now in
    let o = out-DescriptorProto m in
    let nested_put_in = nested_put 3 o.nested_type c.in_ok-nested_values.field-0 c.records.new.self.list c.list.new.self.list c.in_ok-nested_values.ensures.values c.in_ok-nested_values.ensures.sound c.in_ok-list.ensures in
    let before = start message_fields (message_values (opened m)) c.new-fields.result.list c.new-fields.ensures in
    let name = next before c.in_ok-text.ensures refl refl refl in
    let field = next name c.in_ok-records.ensures refl refl refl in
    let nested_type = next field nested_put_in refl refl refl in
    let enum_type = next nested_type c.in_ok-records-2.ensures refl refl refl in
    let extension_range = next enum_type c.in_ok-records-3.ensures refl refl refl in
    let extension = next extension_range c.in_ok-records-4.ensures refl refl refl in
    let options = next extension (c.in_ok-options.ensures 15 message_options_type) refl refl refl in
    let oneof_decl = next options c.in_ok-records-5.ensures refl refl refl in
    let reserved_range = next oneof_decl c.in_ok-records-6.ensures refl refl refl in
    let reserved_name = next reserved_range c.in_ok-texts.ensures refl refl refl in
    subst (λ (x : Content). IfOk c.with_unknown.result (Holds 2 x)) (sym (message_content_at m))
    (whole 2 message_fields (message_values (opened m)) c.texts.new.self.list o.unknown c.with_unknown.result message_type refl reserved_name c.with_unknown.ensures.content c.with_unknown.ensures.fit)

pub nested_values-loop-message-preserved : goal.nested_values-loop-message-preserved
nested_values-loop-message-preserved t c =
    let items = c.as_slice-message-items.result.now in
    let contents = c.in_ok-message_contents.field-0 in
    let same = val_of-Message contents ∙ ap message c.in_ok-message_contents.ensures.content in
    rw c.in_ok-add.ensures.ok (record {
      values = values_more (λ m. message (message_content m)) items c.loop-message.message-index c.message-item.result c.loop-message.values (held.Message contents) c.loop-message-test.true c.message-item.is
          c.loop-message.invariant.values same;
      sound = are_more descriptor_shape (kind.Message 2) (λ m. message (message_content m)) items c.loop-message.message-index c.message-item.result c.loop-message-test.true c.message-item.is
          c.loop-message.invariant.sound c.in_ok-message_contents.ensures.sound;
    })
