use Rattle.std.proofs.Common.{◌≡◌, map, take}
use Rattle.pbx_content.specs.declared.shape.Kind.TheVariants as kind
use Rattle.pbx_content.specs.Content.{vals_of}
use Rattle.pbx_content.specs.Sound.{AreElements}
use Rattle.pbx_content_codec.specs.View.{val_of, pair_of}
use Rattle.pbx_desc_shapes.specs.TypesShape.{types_shape}
use Rattle.pbx_types.specs.Layers.{value_message, value_pair}
use Rattle.pbx_types.proofs.Pairs.{AreGood}
use Rattle.pbx_types.proofs.encoding.+contents.Given as goal

abbrev pub invariant-named_values-loop-field : goal.invariant-named_values-loop-field
invariant-named_values-loop-field l = record {
  pairs : map pair_of l.pairs ≡ map value_pair (take l.field-index l.field-items);
  sound : AreGood (take l.field-index l.field-items);
}

abbrev pub invariant-element_values-loop-value : goal.invariant-element_values-loop-value
invariant-element_values-loop-value l = record {
  values : map val_of l.helds ≡ map value_message (take l.value-index l.value-items);
  sound : AreElements types_shape (kind.Message 6) (vals_of (map value_message (take l.value-index l.value-items)));
}
