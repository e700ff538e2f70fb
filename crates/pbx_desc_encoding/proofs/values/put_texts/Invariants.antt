use Rattle.std.proofs.Common.{◌≡◌, ◌++◌, ℕ, List, map, take}
use Rattle.pbx_wire.specs.Text.{text_of}
use Rattle.pbx_wire.specs.declared.rec.Rec.TheVariants as rec
use Rattle.pbx_content.specs.declared.shape.Kind.TheVariants as kind
use Rattle.pbx_content.specs.Content.{text as text_val}
use Rattle.pbx_desc_shapes.specs.DescriptorShape.{descriptor_shape}
use Rattle.pbx_desc_encoding.specs.Sound.{AreOf}
use Rattle.pbx_desc_encoding.proofs.values.put_texts.Given as goal

abbrev pub invariant-loop-text : goal.invariant-loop-text
invariant-loop-text l = record {
  text : l.out.items ≡ l.initial.out.items ++ text_of (map (λ (t : List ℕ). rec.Bytes l.number t) (take l.text-index l.text-items));
  sound : AreOf descriptor_shape kind.String (map text_val (take l.text-index l.text-items));
}
