use Rattle.std.proofs.Common.{◌≡◌, ap, ◌∙◌, subst, of_z, to_z, rules}
use Rattle.std.specs.Prelude.{ℤ}
use Rattle.std.specs.Int.{w32}
use Rattle.std.specs.Int.RustNames.{FitsSigned}
use Rattle.pbx_content.specs.declared.shape.Kind.TheVariants as kind
use Rattle.pbx_content.specs.Content.{number}
use Rattle.pbx_content.specs.Encoding.{numeral}
use Rattle.pbx_desc_encoding.proofs.Places.{on_ok, number_written, no_number}
use Rattle.pbx_desc_encoding.proofs.values.put_number.Goals as goal

pub returns-in-Some : goal.returns-in-Some
returns-in-Some c =
    let z = c.in-Some.value in
    let same : to_z w32 (of_z w32 z) ≡ z = search rules in
    let is = c.wire_number.ensures.numeral ∙ ap (λ (y : ℤ). numeral kind.Int32 (number y)) same in
    rw c.in-Some.is
    (on_ok c.put_numeral.result (λ here.
    number_written c.args.number c.wire_number.result z c.args.out.now.items c.put_numeral.new.out.items here is (subst (FitsSigned w32) same c.wire_number.ensures.fits)) c.put_numeral.ensures)

pub returns-in-None : goal.returns-in-None
returns-in-None c = rw c.in-None.is (no_number c.args.number c.args.out.now.items)
