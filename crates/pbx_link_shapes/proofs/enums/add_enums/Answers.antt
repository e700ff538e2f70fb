use Rattle.std.proofs.Common.{◌∙◌, ◌∷◌, [], ◌++◌, ap, arith}
use Rattle.pbx_content.specs.declared.shape.EnumShape.{EnumShape}
use Rattle.pbx_link_definitions.specs.Definitions.{enums}
use Rattle.pbx_link_shapes.specs.Items.{part_enum}
use Rattle.pbx_link_shapes.proofs.Whole.{part_more}
use Rattle.pbx_link_shapes.proofs.enums.add_enums.Goals as goal

pub loop-index-preserved : goal.loop-index-preserved
loop-index-preserved c =
    c.in_ok-add.ensures.ok ∙ ap (λ (e : EnumShape). c.loop-index.shapes ++ e ∷ []) c.in_ok-shape.ensures
    ∙ part_more part_enum (enums c.args.table.now) c.loop-index.index c.in-Some.part c.args.shapes.now c.loop-index.shapes (omega arith) c.in-Some.ensures
    c.loop-index.invariant
