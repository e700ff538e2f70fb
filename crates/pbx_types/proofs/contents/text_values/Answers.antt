use Rattle.std.proofs.Common.{ap, ◌∙◌, refl}
use Rattle.pbx_content.specs.declared.shape.Kind.TheVariants as kind
use Rattle.pbx_content_codec.specs.declared.contents.Held as held
use Rattle.pbx_content_codec.proofs.Tree.{val_of-Text}
use Rattle.pbx_content.specs.Content.{text}
use Rattle.pbx_types.proofs.Told.{values_more, are_more, same_utf8}
use Rattle.pbx_types.proofs.contents.text_values.Goals as goal

pub loop-text-preserved : goal.loop-text-preserved
loop-text-preserved c =
    let items = c.as_slice-text-items.result.now in
    let same = val_of-Text c.in_ok-copy.copy ∙ ap text (c.in_ok-copy.ensures ∙ c.as_str.ensures) in
    rw c.in_ok-add.ensures.ok (record {
      values = values_more text items c.loop-text.text-index c.text-item.result c.loop-text.values (held.Text c.in_ok-copy.copy) c.loop-text-test.true c.text-item.is c.loop-text.invariant.values same;
      sound = are_more kind.String text items c.loop-text.text-index c.text-item.result c.loop-text-test.true c.text-item.is c.loop-text.invariant.sound (refl, same_utf8 _ _ c.as_str.ensures c.as_str.utf8);
    })
