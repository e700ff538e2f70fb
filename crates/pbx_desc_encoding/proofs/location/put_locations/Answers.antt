use Rattle.std.proofs.Common.{◌++◌, ℕ, List, ap, ◌∙◌}
use Rattle.pbx_wire.specs.Text.{text as text_of_rec}
use Rattle.pbx_wire.specs.declared.rec.Rec.TheVariants as rec
use Rattle.pbx_content.specs.declared.shape.Kind.TheVariants as kind
use Rattle.pbx_content.specs.Content.{message}
use Rattle.pbx_content.specs.Encoding.{payload, content_recs}
use Rattle.pbx_desc_shapes.specs.DescriptorShape.{descriptor_shape}
use Rattle.pbx_desc_records.specs.declared.source.Location.{Location}
use Rattle.pbx_desc_encoding.specs.Content.{location_content}
use Rattle.pbx_desc_encoding.proofs.Behind.{sent_next, all_sent, written_is}
use Rattle.pbx_desc_encoding.proofs.Told.{are_more}
use Rattle.pbx_desc_encoding.proofs.location.put_locations.Goals as goal

pub loop-location-preserved : goal.loop-location-preserved
loop-location-preserved c =
    let items = c.as_slice-location-items.result.now in
    let index = c.loop-location.location-index in
    let item = c.location-item.result in
    let before = c.loop-location.out.items in
    let number = c.args.number in
    let here = c.in_ok-put_location.ensures in
    record {
      text = sent_next (λ (r : Location). payload number (content_recs descriptor_shape 13 (location_content r))) items index item c.args.out.now.items before c.put_payload.new.out.items
          c.loop-location-test.true c.location-item.is c.loop-location.invariant.text
          (c.in_ok-put_payload.ensures
          ∙ ap (λ (t : List ℕ). before ++ text_of_rec (rec.Bytes number t)) (c.as_slice.ensures.value ∙ written_is 13 (location_content item) c.clear.new.self.items c.put_location.new.out.items here c.clear.ensures.items));
      sound = are_more descriptor_shape (kind.Message 13) (λ (r : Location). message (location_content r)) items index item c.loop-location-test.true c.location-item.is c.loop-location.invariant.sound here.sound;
    }

pub returns : goal.returns
returns c =
    all_sent c.args.number 13 location_content c.as_slice-location-items.result.now c.args.locations.now c.loop-location.location-index c.args.out.now.items c.loop-location.out.items c.as_slice-location-items.ensures
    c.loop-location-test.false c.loop-location.invariant.text c.loop-location.invariant.sound
