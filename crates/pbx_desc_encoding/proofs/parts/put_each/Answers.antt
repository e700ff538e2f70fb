use Rattle.std.proofs.Common.{◌++◌, ℕ, List, ap, ◌∙◌}
use Rattle.pbx_wire.specs.Text.{text as text_of_rec}
use Rattle.pbx_wire.specs.declared.rec.Rec.TheVariants as rec
use Rattle.pbx_content.specs.declared.shape.Kind.TheVariants as kind
use Rattle.pbx_content.specs.Content.{message}
use Rattle.pbx_content.specs.Encoding.{payload, content_recs}
use Rattle.pbx_desc_shapes.specs.DescriptorShape.{descriptor_shape}
use Rattle.pbx_desc_encoding.proofs.Behind.{sent_next, all_sent, written_is}
use Rattle.pbx_desc_encoding.proofs.Told.{are_more}
use Rattle.pbx_desc_encoding.proofs.parts.put_each.Goals as goal

pub loop-record-preserved : goal.loop-record-preserved
loop-record-preserved g c =
    let items = c.as_slice-record-items.result.now in
    let index = c.loop-record.record-index in
    let item = c.record-item.result in
    let before = c.loop-record.out.items in
    let number = c.args.number in
    let type = g.R.HasContents.TYPE_AT in
    let here = c.in_ok-put.ensures in
    record {
      text = sent_next (λ r. payload number (content_recs descriptor_shape type (g.R.HasContents.content r))) items index item c.args.out.now.items before c.put_payload.new.out.items c.loop-record-test.true c.record-item.is
          c.loop-record.invariant.text
          (c.in_ok-put_payload.ensures
          ∙ ap (λ (t : List ℕ). before ++ text_of_rec (rec.Bytes number t)) (c.as_slice.ensures.value ∙ written_is type (g.R.HasContents.content item) c.clear.new.self.items c.put.new.out.items here c.clear.ensures.items));
      sound = are_more descriptor_shape (kind.Message type) (λ r. message (g.R.HasContents.content r)) items index item c.loop-record-test.true c.record-item.is c.loop-record.invariant.sound here.sound;
    }

pub returns : goal.returns
returns g c =
    let items = c.as_slice-record-items.result.now in
    all_sent c.args.number g.R.HasContents.TYPE_AT g.R.HasContents.content items c.args.records.now c.loop-record.record-index c.args.out.now.items c.loop-record.out.items c.as_slice-record-items.ensures c.loop-record-test.false
    c.loop-record.invariant.text c.loop-record.invariant.sound
