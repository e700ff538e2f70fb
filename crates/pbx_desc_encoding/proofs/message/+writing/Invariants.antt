use Rattle.std.proofs.Common.{◌≡◌, ◌++◌, map, take}
use Rattle.pbx_wire.specs.Text.{text_of}
use Rattle.pbx_content.specs.declared.shape.Kind.TheVariants as kind
use Rattle.pbx_content.specs.Content.{message}
use Rattle.pbx_content.specs.Encoding.{payload, content_recs}
use Rattle.pbx_desc_shapes.specs.DescriptorShape.{descriptor_shape}
use Rattle.pbx_desc_encoding.specs.Content.{message_content}
use Rattle.pbx_desc_encoding.specs.Sound.{AreOf}
use Rattle.pbx_desc_encoding.proofs.message.+writing.Given as goal

abbrev pub invariant-put_nested-loop-message : goal.invariant-put_nested-loop-message
invariant-put_nested-loop-message l = record {
  text : l.out.items ≡ l.initial.out.items ++ text_of (map (λ m. payload 3 (content_recs descriptor_shape 2 (message_content m))) (take l.message-index l.message-items));
  sound : AreOf descriptor_shape (kind.Message 2) (map (λ m. message (message_content m)) (take l.message-index l.message-items));
}
