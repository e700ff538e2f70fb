use Rattle.std.proofs.Common.{subst, ap, ◌∙◌}
use Rattle.std.specs.Int.{w32}
use Rattle.std.specs.Int.RustNames.{FitsSigned}
use Rattle.std.proofs.lemmas.List.{take_all}
use Rattle.pbx_content.specs.declared.shape.EnumShape.{EnumShape}
use Rattle.pbx_content.specs.Shape.{first_of}
use Rattle.pbx_content.proofs.SchemaTypes.{AreEnums, no_enums, enums_more}
use Rattle.pbx_link_shapes.proofs.enums.enums_fit.Goals as goal

pub loop-shape-init : goal.loop-shape-init
loop-shape-init c = no_enums

pub loop-shape-preserved : goal.loop-shape-preserved
loop-shape-preserved c =
    let d = c.default_of-default.ensures in
    let fits = subst (FitsSigned w32) (d.is ∙ ap (λ (x : EnumShape). first_of x.values) c.shape-item.is) d.fits in
    enums_more c.args.enums.now c.loop-shape.shape-index c.shape-item.result c.loop-shape-test.true c.loop-shape.invariant fits

pub returns : goal.returns
returns c = subst AreEnums (take_all c.loop-shape.shape-index c.args.enums.now c.loop-shape-test.false) c.loop-shape.invariant
