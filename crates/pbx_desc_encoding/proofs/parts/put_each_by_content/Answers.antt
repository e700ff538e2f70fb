use Rattle.pbx_content.specs.declared.shape.Kind.TheVariants as kind
use Rattle.pbx_content.specs.Content.{message}
use Rattle.pbx_content.specs.Encoding.{payload, content_recs}
use Rattle.pbx_content_codec.specs.View.{content_of}
use Rattle.pbx_desc_shapes.specs.DescriptorShape.{descriptor_shape}
use Rattle.pbx_desc_encoding.proofs.Behind.{sent_next, sent_here, all_sent}
use Rattle.pbx_desc_encoding.proofs.Told.{are_more}
use Rattle.pbx_desc_encoding.proofs.parts.put_each_by_content.Goals as goal

pub loop-record-preserved : goal.loop-record-preserved
loop-record-preserved g c =
    let items = c.as_slice-record-items.result.now in
    let item = c.record-item.result in
    let type = g.R.HasContents.TYPE_AT in
    record {
      text = sent_next (λ r. payload c.args.number (content_recs descriptor_shape type (g.R.HasContents.content r))) items c.loop-record.record-index item c.args.out.now.items c.loop-record.out.items
          c.put_payload.new.out.items c.loop-record-test.true c.record-item.is c.loop-record.invariant.text
          (sent_here c.args.number type c.TYPE_AT.result c.args.schema.now (content_of c.in_ok-contents.contents) (g.R.HasContents.content item) c.as_slice.result.now c.in_ok-own.own c.loop-record.out.items
          c.put_payload.new.out.items c.in_ok-put_payload.ensures c.as_slice.ensures c.in_ok-own.ensures c.requires c.TYPE_AT.ensures c.in_ok-contents.ensures.content);
      sound = are_more descriptor_shape (kind.Message type) (λ r. message (g.R.HasContents.content r)) items c.loop-record.record-index item c.loop-record-test.true c.record-item.is c.loop-record.invariant.sound
          c.in_ok-contents.ensures.sound;
    }

pub returns : goal.returns
returns g c =
    let items = c.as_slice-record-items.result.now in
    all_sent c.args.number g.R.HasContents.TYPE_AT g.R.HasContents.content items c.args.records.now c.loop-record.record-index c.args.out.now.items c.loop-record.out.items c.as_slice-record-items.ensures c.loop-record-test.false
    c.loop-record.invariant.text c.loop-record.invariant.sound
