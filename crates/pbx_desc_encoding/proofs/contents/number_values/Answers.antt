use Rattle.std.proofs.Common.{◌≡◌, get_or, ap, ◌∙◌, subst, of_z, to_z, rules}
use Rattle.std.specs.Prelude.{pos}
use Rattle.std.specs.Int.{w32}
use Rattle.std.specs.Int.RustNames.{FitsSigned}
use Rattle.std.proofs.lemmas.List.{get_or_default}
use Rattle.pbx_content.specs.declared.shape.Kind.TheVariants as kind
use Rattle.pbx_content.specs.Content.{number}
use Rattle.pbx_desc_shapes.specs.DescriptorShape.{descriptor_shape}
use Rattle.pbx_desc_encoding.proofs.Told.{values_more, are_more}
use Rattle.pbx_desc_encoding.proofs.contents.number_values.Goals as goal

pub loop-number-preserved : goal.loop-number-preserved
loop-number-preserved c =
    let items = c.as_slice-number-items.result.now in
    let item = get_or items c.loop-number.number-index (pos 0) in
    let is = get_or_default items c.loop-number.number-index (pos 0) item c.loop-number-test.true in
    let same : to_z w32 (of_z w32 item) ≡ item = search rules in
    rw c.in_ok-add.ensures.ok (record {
      values = values_more number items c.loop-number.number-index item c.loop-number.values c.number_value.result c.loop-number-test.true is c.loop-number.invariant.values
          (c.number_value.ensures.value ∙ ap number same);
      sound = are_more descriptor_shape kind.Int32 number items c.loop-number.number-index item c.loop-number-test.true is c.loop-number.invariant.sound (subst (FitsSigned w32) same c.number_value.ensures.fits);
    })
