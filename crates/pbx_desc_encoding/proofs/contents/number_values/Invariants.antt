use Rattle.std.proofs.Common.{◌≡◌, map, take}
use Rattle.pbx_content.specs.declared.shape.Kind.TheVariants as kind
use Rattle.pbx_content.specs.Content.{number}
use Rattle.pbx_content_codec.specs.View.{val_of}
use Rattle.pbx_desc_shapes.specs.DescriptorShape.{descriptor_shape}
use Rattle.pbx_desc_encoding.specs.Sound.{AreOf}
use Rattle.pbx_desc_encoding.proofs.contents.number_values.Given as goal

abbrev pub invariant-loop-number : goal.invariant-loop-number
invariant-loop-number l = record {
  values : map val_of l.values ≡ map number (take l.number-index l.number-items);
  sound : AreOf descriptor_shape kind.Int32 (map number (take l.number-index l.number-items));
}
