use Rattle.std.proofs.Common.{◌≡◌, ◌++◌, map, take}
use Rattle.pbx_wire.specs.Text.{text_of}
use Rattle.pbx_content.specs.declared.shape.Kind.TheVariants as kind
use Rattle.pbx_content.specs.Content.{message}
use Rattle.pbx_content.specs.Encoding.{payload, content_recs}
use Rattle.pbx_desc_shapes.specs.DescriptorShape.{descriptor_shape}
use Rattle.pbx_desc_records.specs.declared.source.Location.{Location}
use Rattle.pbx_desc_encoding.specs.Content.{location_content}
use Rattle.pbx_desc_encoding.specs.Sound.{AreOf}
use Rattle.pbx_desc_encoding.proofs.location.put_locations.Given as goal

abbrev pub invariant-loop-location : goal.invariant-loop-location
invariant-loop-location l = record {
  text : l.out.items ≡ l.initial.out.items ++ text_of (map (λ (r : Location). payload l.number (content_recs descriptor_shape 13 (location_content r))) (take l.location-index l.location-items));
  sound : AreOf descriptor_shape (kind.Message 13) (map (λ (r : Location). message (location_content r)) (take l.location-index l.location-items));
}
