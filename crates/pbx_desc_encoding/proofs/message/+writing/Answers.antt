use Rattle.std.proofs.Common.{◌++◌, ℕ, List, subst, refl, sym, ap, ◌∙◌}
use Rattle.std.specs.Prelude.{OnOk}
use Rattle.pbx_wire.specs.Text.{text as text_of_rec}
use Rattle.pbx_wire.specs.declared.rec.Rec.TheVariants as rec
use Rattle.pbx_content.specs.declared.shape.Kind.TheVariants as kind
use Rattle.pbx_content.specs.Content.{Content, message}
use Rattle.pbx_content.specs.Encoding.{payload, content_recs}
use Rattle.pbx_desc_shapes.specs.DescriptorShape.{descriptor_shape, message_fields}
use Rattle.pbx_desc_records.specs.declared.message.DescriptorProto.{out-DescriptorProto}
use Rattle.pbx_desc_encoding.specs.Building.{IsWritten}
use Rattle.pbx_desc_encoding.specs.Content.{message_values, message_content}
use Rattle.pbx_desc_encoding.proofs.Behind.{begin_alone, written, finished, sent_next, all_sent, written_is}
use Rattle.pbx_desc_encoding.proofs.Messages.{opened, message_content_at, nested_written}
use Rattle.pbx_desc_encoding.proofs.Places.{on_ok}
use Rattle.pbx_desc_encoding.proofs.Told.{are_more}
use Rattle.pbx_desc_encoding.proofs.Types.{message_type, message_options_type}
use Rattle.pbx_desc_encoding.proofs.message.+writing.Goals as goal

pub put_message-returns : goal.put_message-returns
put_message-returns t c =
    let m = c.args.message.now in
    let o = out-DescriptorProto m in
    let first = c.args.out.now.items in
    let start = begin_alone 2 message_fields (message_values (opened m)) first message_type in
    let name = written start c.in_ok-put_text.ensures refl refl refl refl refl refl in
    let field = written name c.in_ok-put_each.ensures refl refl refl refl refl refl in
    let nested_type = written field (nested_written 3 o.nested_type c.put_each.new.out.items c.put_nested.new.out.items c.in_ok-put_nested.ensures) refl refl refl refl refl refl in
    let enums = written nested_type c.in_ok-put_each-2.ensures refl refl refl refl refl refl in
    let extension_range = written enums c.in_ok-put_each_by_content.ensures refl refl refl refl refl refl in
    let extension = written extension_range c.in_ok-put_each-3.ensures refl refl refl refl refl refl in
    let options = written extension (c.in_ok-put_options.ensures message_options_type) refl refl refl refl refl refl in
    let oneof_decl = written options c.in_ok-put_each_by_content-2.ensures refl refl refl refl refl refl in
    let reserved_range = written oneof_decl c.in_ok-put_each_by_content-3.ensures refl refl refl refl refl refl in
    subst (λ (x : Content). OnOk c.put_texts.result (IsWritten 2 x first c.put_texts.new.out.items)) (sym (message_content_at m))
    (on_ok c.put_texts.result (λ reserved_name.
    finished o.unknown first c.put_texts.new.out.items (written reserved_range reserved_name refl refl refl refl refl refl) message_type refl (c.if-not-is_empty.ensures.0 refl)) c.put_texts.ensures)

pub put_nested-loop-message-preserved : goal.put_nested-loop-message-preserved
put_nested-loop-message-preserved t c =
    let items = c.as_slice-message-items.result.now in
    let index = c.loop-message.message-index in
    let item = c.message-item.result in
    let before = c.loop-message.out.items in
    let here = c.in_ok-put_message.ensures in
    record {
      text = sent_next (λ m. payload 3 (content_recs descriptor_shape 2 (message_content m))) items index item c.args.out.now.items before c.put_payload.new.out.items c.loop-message-test.true c.message-item.is
          c.loop-message.invariant.text
          (c.in_ok-put_payload.ensures
          ∙ ap (λ (t : List ℕ). before ++ text_of_rec (rec.Bytes 3 t)) (c.as_slice.ensures.value ∙ written_is 2 (message_content item) c.clear.new.self.items c.put_message.new.out.items here c.clear.ensures.items));
      sound = are_more descriptor_shape (kind.Message 2) (λ m. message (message_content m)) items index item c.loop-message-test.true c.message-item.is c.loop-message.invariant.sound here.sound;
    }

pub put_nested-returns : goal.put_nested-returns
put_nested-returns t c =
    all_sent 3 2 message_content c.as_slice-message-items.result.now c.args.messages.now c.loop-message.message-index c.args.out.now.items c.loop-message.out.items c.as_slice-message-items.ensures
    c.loop-message-test.false c.loop-message.invariant.text c.loop-message.invariant.sound
