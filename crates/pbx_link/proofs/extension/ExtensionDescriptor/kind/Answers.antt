use Rattle.std.proofs.Common.{◌∙◌, ap, sym, refl}
use Rattle.pbx_desc_records.specs.declared.field.FieldDescriptorProto.{FieldDescriptorProto}
use Rattle.pbx_link_meaning.specs.Descriptors.{Described}
use Rattle.pbx_link.proofs.Types.{found_kind, extension_kind}
use Rattle.pbx_link.proofs.extension.ExtensionDescriptor.kind.Goals as goal

pub unwrap-requires : goal.unwrap-requires
unwrap-requires c =
    let d = c.self.inside in
    found_kind d.pool d.pool _ c.record.result.now c.kind_of.result c.kind_of.ensures refl
    (c.record.ensures ∙ ap (λ (e : Described FieldDescriptorProto). e.part.item) (sym c.self.view_is))
    (extension_kind d.pool c.tables.ensures.pooled d.table c.self.invariant.0 d.index c.self.invariant.1)
