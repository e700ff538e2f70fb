use Rattle.std.proofs.Common.{◌∙◌, ◌∷◌, [], ◌++◌, Bool, ap, arith}
use Rattle.pbx_content.specs.declared.shape.MessageShape.{MessageShape}
use Rattle.pbx_link_definitions.specs.Definitions.{messages}
use Rattle.pbx_link_definitions.specs.Says.{is_proto3}
use Rattle.pbx_link_shapes.specs.Items.{own_shape}
use Rattle.pbx_link_shapes.proofs.Whole.{part_more}
use Rattle.pbx_link_shapes.proofs.messages.add_messages.Goals as goal

pub loop-index-preserved : goal.loop-index-preserved
loop-index-preserved c =
    let types = c.args.types.now in
    let so_far = c.loop-index.shapes.items in
    c.in_ok-push.ensures.items
    ∙ ap (λ (m : MessageShape). so_far ++ m ∷ [])
    (c.in_ok-shape.ensures ∙ ap (λ (b : Bool). own_shape types b c.in-Some.part) (c.is_proto3-proto3.ensures ∙ ap is_proto3 c.file.ensures))
    ∙ part_more (own_shape types (is_proto3 c.args.table.now)) (messages c.args.table.now) c.loop-index.index c.in-Some.part c.args.shapes.now.items so_far (omega arith)
    c.in-Some.ensures c.loop-index.invariant
