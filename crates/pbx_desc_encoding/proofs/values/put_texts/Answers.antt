use Rattle.std.proofs.Common.{◌++◌, ℕ, List, ap, ◌∙◌}
use Rattle.pbx_wire.specs.Text.{text as text_of_rec}
use Rattle.pbx_wire.specs.declared.rec.Rec.TheVariants as rec
use Rattle.pbx_content.specs.declared.shape.Kind.TheVariants as kind
use Rattle.pbx_content.specs.Content.{text as text_val}
use Rattle.pbx_desc_shapes.specs.DescriptorShape.{descriptor_shape}
use Rattle.pbx_desc_encoding.proofs.Behind.{sent_next}
use Rattle.pbx_desc_encoding.proofs.Places.{texts_written}
use Rattle.pbx_desc_encoding.proofs.Told.{are_more, same_utf8}
use Rattle.pbx_desc_encoding.proofs.values.put_texts.Goals as goal

pub loop-text-preserved : goal.loop-text-preserved
loop-text-preserved c =
    let items = c.as_slice-text-items.result.now in
    let index = c.loop-text.text-index in
    let item = c.text-item.result in
    let before = c.loop-text.out.items in
    let number = c.args.number in
    record {
      text = sent_next (λ (t : List ℕ). rec.Bytes number t) items index item c.args.out.now.items before c.put_payload.new.out.items c.loop-text-test.true c.text-item.is c.loop-text.invariant.text
          (c.in_ok-put_payload.ensures ∙ ap (λ (t : List ℕ). before ++ text_of_rec (rec.Bytes number t)) (c.as_bytes.ensures.value ∙ c.as_str.ensures));
      sound = are_more descriptor_shape kind.String text_val items index item c.loop-text-test.true c.text-item.is c.loop-text.invariant.sound (same_utf8 _ _ c.as_str.ensures c.as_str.utf8);
    }

pub returns : goal.returns
returns c =
    texts_written c.args.number c.as_slice-text-items.result.now c.args.texts.now c.loop-text.text-index c.args.out.now.items c.loop-text.out.items c.as_slice-text-items.ensures c.loop-text-test.false
    c.loop-text.invariant.text c.loop-text.invariant.sound
