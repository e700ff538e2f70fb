use Rattle.std.proofs.Common.{◌≡◌, ◌++◌, get_or, ap, ◌∙◌, subst, of_z, to_z, rules}
use Rattle.std.specs.Prelude.{ℤ, pos}
use Rattle.std.specs.Int.{w32}
use Rattle.std.specs.Int.RustNames.{FitsSigned}
use Rattle.std.proofs.lemmas.List.{get_or_default}
use Rattle.pbx_wire.specs.Varint.{varint}
use Rattle.pbx_content.specs.declared.shape.Kind.TheVariants as kind
use Rattle.pbx_content.specs.Content.{number}
use Rattle.pbx_content.specs.Encoding.{numeral}
use Rattle.pbx_desc_shapes.specs.DescriptorShape.{descriptor_shape}
use Rattle.pbx_desc_encoding.proofs.Places.{packed_next}
use Rattle.pbx_desc_encoding.proofs.Told.{are_more}
use Rattle.pbx_desc_encoding.proofs.location.put_numbers.Goals as goal

pub loop-number-preserved : goal.loop-number-preserved
loop-number-preserved c =
    let items = c.as_slice-number-items.result.now in
    let item = get_or items c.loop-number.number-index (pos 0) in
    let is = get_or_default items c.loop-number.number-index (pos 0) item c.loop-number-test.true in
    let same : to_z w32 (of_z w32 item) ≡ item = search rules in
    let before = c.loop-number.out.items in
    record {
      text = packed_next items c.loop-number.number-index item c.args.out.now.items before c.put_varint.new.out.items c.loop-number-test.true is c.loop-number.invariant.text
          (c.in_ok-put_varint.ensures ∙ ap (λ n. before ++ varint n) (c.wire_number.ensures.numeral ∙ ap (λ (z : ℤ). numeral kind.Int32 (number z)) same));
      sound = are_more descriptor_shape kind.Int32 number items c.loop-number.number-index item c.loop-number-test.true is c.loop-number.invariant.sound (subst (FitsSigned w32) same c.wire_number.ensures.fits);
    }
