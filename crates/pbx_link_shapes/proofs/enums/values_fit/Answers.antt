use Rattle.std.proofs.Common.{subst, ap, ◌∙◌}
use Rattle.std.specs.List.{All}
use Rattle.std.specs.Int.{w32}
use Rattle.std.specs.Int.RustNames.{FitsSigned}
use Rattle.std.proofs.lemmas.List.{take_all}
use Rattle.std.proofs.lemmas.List.Elements.{All-nil, All-more}
use Rattle.pbx_content.specs.declared.shape.EnumValueShape.{EnumValueShape}
use Rattle.pbx_link_shapes.proofs.enums.values_fit.Goals as goal

pub loop-value-init : goal.loop-value-init
loop-value-init c = All-nil (λ (v : EnumValueShape). FitsSigned w32 v.number)

pub loop-value-preserved : goal.loop-value-preserved
loop-value-preserved c =
    let d = c.number_of-number.ensures in
    let fits = subst (FitsSigned w32) (d.is ∙ ap (λ (x : EnumValueShape). x.number) c.value-item.is) d.fits in
    All-more (λ (v : EnumValueShape). FitsSigned w32 v.number) c.args.values.now c.loop-value.value-index c.value-item.result c.loop-value-test.true
    c.loop-value.invariant fits

pub returns : goal.returns
returns c =
    subst (All (λ (v : EnumValueShape). FitsSigned w32 v.number)) (take_all c.loop-value.value-index c.args.values.now c.loop-value-test.false)
    c.loop-value.invariant
