use Rattle.std.proofs.Common.{ap, ◌∙◌}
use Rattle.pbx_content_codec.specs.declared.contents.Held as held
use Rattle.pbx_content.specs.declared.shape.Kind.TheVariants as kind
use Rattle.pbx_content.specs.Content.{message}
use Rattle.pbx_desc_shapes.specs.DescriptorShape.{descriptor_shape}
use Rattle.pbx_desc_encoding.proofs.Told.{val_of-Message, values_more, are_more}
use Rattle.pbx_desc_encoding.proofs.contents.record_values.Goals as goal

pub loop-record-preserved : goal.loop-record-preserved
loop-record-preserved g c =
    let items = c.as_slice-record-items.result.now in
    let contents = c.in_ok-contents.contents in
    let same = val_of-Message contents ∙ ap message c.in_ok-contents.ensures.content in
    rw c.in_ok-add.ensures.ok (record {
      values = values_more (λ r. message (g.R.HasContents.content r)) items c.loop-record.record-index c.record-item.result c.loop-record.values (held.Message contents) c.loop-record-test.true c.record-item.is
          c.loop-record.invariant.values same;
      sound = are_more descriptor_shape (kind.Message g.R.HasContents.TYPE_AT) (λ r. message (g.R.HasContents.content r)) items c.loop-record.record-index c.record-item.result c.loop-record-test.true
          c.record-item.is c.loop-record.invariant.sound c.in_ok-contents.ensures.sound;
    })
