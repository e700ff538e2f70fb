use Rattle.std.proofs.Common.{◌∙◌, List, sym, subst}
use Rattle.pbx_desc_records.specs.declared.file.FileDescriptorProto.{FileDescriptorProto}
use Rattle.pbx_link_definitions.specs.Definitions.{messages, message_name}
use Rattle.pbx_link_shapes.specs.Starts.{AreStarts, counts}
use Rattle.pbx_link_shapes.proofs.Placed.{placed_is, unplaced_is}
use Rattle.pbx_link_shapes.proofs.shaped.ShapedPool.message_place.Goals as goal

pub returns-in-Some : goal.returns-in-Some
returns-in-Some c =
    let starts = subst (λ (fs : List FileDescriptorProto). AreStarts (counts messages fs) c.self.inside.messages) (sym c.as_ref.ensures) c.self.invariant.1 in
    placed_is messages message_name c.as_ref.result.now c.args.name.now c.args.self.now c.self.inside.messages c.message_place.result c.in-Some.file c.in-Some.index c.place.result
    (c.as_ref.ensures ∙ c.self.view_is) starts c.message_place.ensures c.in-Some.is c.place.ensures

pub returns-in-None : goal.returns-in-None
returns-in-None c =
    unplaced_is messages message_name c.as_ref.result.now c.args.name.now c.args.self.now c.message_place.result (c.as_ref.ensures ∙ c.self.view_is)
    c.message_place.ensures c.in-None.is
