use Rattle.std.proofs.Common.{◌∙◌, ap, sym}
use Rattle.pbx_desc_records.specs.declared.service.MethodDescriptorProto.{MethodDescriptorProto}
use Rattle.pbx_link_meaning.specs.Descriptors.{Described}
use Rattle.pbx_link.proofs.References.{found_there, has_input}
use Rattle.pbx_link.proofs.service.MethodDescriptor.input.Goals as goal

pub unwrap-requires : goal.unwrap-requires
unwrap-requires c =
    let s = c.self.inside.service in
    found_there s.pool c.pool-pool.result.now _ c.record.result.now.input_type c.message_referred.result c.message_referred.ensures c.pool-pool.ensures.same
    (ap (λ (m : MethodDescriptorProto). m.input_type) c.record.ensures
    ∙ ap (λ (d : Described MethodDescriptorProto). d.part.item.input_type) (sym c.self.view_is))
    (has_input s.pool c.pool-pool.ensures.pooled s.file c.pool-pool.ensures.file s.part c.self.inside.index c.pool-pool.ensures.service c.self.invariant)
