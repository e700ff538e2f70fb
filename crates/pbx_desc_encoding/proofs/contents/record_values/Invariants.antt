use Rattle.std.proofs.Common.{◌≡◌, map, take}
use Rattle.pbx_content.specs.declared.shape.Kind.TheVariants as kind
use Rattle.pbx_content.specs.Content.{message}
use Rattle.pbx_content_codec.specs.View.{val_of}
use Rattle.pbx_desc_shapes.specs.DescriptorShape.{descriptor_shape}
use Rattle.pbx_desc_encoding.specs.Sound.{AreOf}
use Rattle.pbx_desc_encoding.proofs.contents.record_values.Given as goal

abbrev pub invariant-loop-record : goal.invariant-loop-record
invariant-loop-record g l = record {
  values : map val_of l.values ≡ map (λ r. message (g.R.HasContents.content r)) (take l.record-index l.record-items);
  sound : AreOf descriptor_shape (kind.Message g.R.HasContents.TYPE_AT) (map (λ r. message (g.R.HasContents.content r)) (take l.record-index l.record-items));
}
