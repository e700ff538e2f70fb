use Rattle.std.proofs.Common.{◌∙◌, ap, sym}
use Rattle.pbx_desc_records.specs.declared.field.FieldDescriptorProto.{FieldDescriptorProto}
use Rattle.pbx_link_meaning.specs.Descriptors.{Described}
use Rattle.pbx_link.proofs.Types.{found_kind, field_kind}
use Rattle.pbx_link.proofs.field.FieldDescriptor.kind.Goals as goal

pub unwrap-requires : goal.unwrap-requires
unwrap-requires c =
    let m = c.self.inside.message in
    found_kind m.pool c.pool.result.now _ c.record.result.now c.kind_of.result c.kind_of.ensures c.pool.ensures.same
    (c.record.ensures ∙ ap (λ (d : Described FieldDescriptorProto). d.part.item) (sym c.self.view_is))
    (field_kind m.pool c.pool.ensures.pooled m.file c.pool.ensures.file m.part c.self.inside.index c.pool.ensures.message c.self.invariant)
