use Rattle.std.proofs.Common.{List, subst, ap, ◌∙◌}
use Rattle.std.specs.List.{All}
use Rattle.std.specs.Int.{w32}
use Rattle.std.specs.Int.RustNames.{FitsSigned}
use Rattle.std.proofs.lemmas.List.{take_all}
use Rattle.std.proofs.lemmas.List.Elements.{All-nil, All-more}
use Rattle.pbx_content.specs.declared.shape.EnumShape.{EnumShape}
use Rattle.pbx_content.specs.declared.shape.EnumValueShape.{EnumValueShape}
use Rattle.pbx_link_shapes.specs.EnumNumbers.{AreEnumNumbers}
use Rattle.pbx_link_shapes.proofs.enums.numbers_fit.Goals as goal

abbrev Fit : List EnumValueShape → Type 0
Fit vs = All (λ (v : EnumValueShape). FitsSigned w32 v.number) vs

pub loop-shape-init : goal.loop-shape-init
loop-shape-init c = All-nil (λ (e : EnumShape). Fit e.values)

pub loop-shape-preserved : goal.loop-shape-preserved
loop-shape-preserved c =
    let fits = subst Fit (c.as_slice.ensures ∙ ap (λ (x : EnumShape). x.values) c.shape-item.is) c.values_fit.ensures in
    All-more (λ (e : EnumShape). Fit e.values) c.args.enums.now c.loop-shape.shape-index c.shape-item.result c.loop-shape-test.true
    c.loop-shape.invariant fits

pub returns : goal.returns
returns c = subst AreEnumNumbers (take_all c.loop-shape.shape-index c.args.enums.now c.loop-shape-test.false) c.loop-shape.invariant
