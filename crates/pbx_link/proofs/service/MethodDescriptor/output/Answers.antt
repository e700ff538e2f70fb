use Rattle.std.proofs.Common.{◌∙◌, ap, sym}
use Rattle.pbx_desc_records.specs.declared.service.MethodDescriptorProto.{MethodDescriptorProto}
use Rattle.pbx_link_meaning.specs.Descriptors.{Described}
use Rattle.pbx_link.proofs.References.{found_there, has_output}
use Rattle.pbx_link.proofs.service.MethodDescriptor.output.Goals as goal

pub unwrap-requires : goal.unwrap-requires
unwrap-requires c =
    let s = c.self.inside.service in
    found_there s.pool c.pool-pool.result.now _ c.record.result.now.output_type c.message_referred.result c.message_referred.ensures c.pool-pool.ensures.same
    (ap (λ (m : MethodDescriptorProto). m.output_type) c.record.ensures
    ∙ ap (λ (d : Described MethodDescriptorProto). d.part.item.output_type) (sym c.self.view_is))
    (has_output s.pool c.pool-pool.ensures.pooled s.file c.pool-pool.ensures.file s.part c.self.inside.index c.pool-pool.ensures.service c.self.invariant)
