use Rattle.std.proofs.Common.{◌≡◌, map, take}
use Rattle.pbx_content.specs.declared.shape.Kind.TheVariants as kind
use Rattle.pbx_content.specs.Content.{message}
use Rattle.pbx_content_codec.specs.View.{val_of}
use Rattle.pbx_desc_shapes.specs.DescriptorShape.{descriptor_shape}
use Rattle.pbx_desc_encoding.specs.Content.{message_content}
use Rattle.pbx_desc_encoding.specs.Sound.{AreOf}
use Rattle.pbx_desc_encoding.proofs.message.+contents.Given as goal

abbrev pub invariant-nested_values-loop-message : goal.invariant-nested_values-loop-message
invariant-nested_values-loop-message l = record {
  values : map val_of l.values ≡ map (λ m. message (message_content m)) (take l.message-index l.message-items);
  sound : AreOf descriptor_shape (kind.Message 2) (map (λ m. message (message_content m)) (take l.message-index l.message-items));
}
