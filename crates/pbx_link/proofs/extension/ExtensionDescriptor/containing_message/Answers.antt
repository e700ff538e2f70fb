use Rattle.std.proofs.Common.{◌∙◌, ap, sym, refl}
use Rattle.pbx_desc_records.specs.declared.field.FieldDescriptorProto.{FieldDescriptorProto}
use Rattle.pbx_link_definitions.specs.Definitions.{extensions}
use Rattle.pbx_link_meaning.specs.Descriptors.{Described, message_referred}
use Rattle.pbx_link.specs.Tables.{no_field}
use Rattle.pbx_link.proofs.Parts.{contains_described}
use Rattle.pbx_link.proofs.References.{found_there, has_extendee}
use Rattle.pbx_link.proofs.Extended.{extended_has}
use Rattle.pbx_link.proofs.extension.ExtensionDescriptor.containing_message.Goals as goal

pub unwrap-requires : goal.unwrap-requires
unwrap-requires c =
    let d = c.self.inside in
    found_there d.pool d.pool _ c.record.result.now.extendee c.message_referred.result c.message_referred.ensures refl
    (ap (λ (m : FieldDescriptorProto). m.extendee) c.record.ensures ∙ ap (λ (e : Described FieldDescriptorProto). e.part.item.extendee) (sym c.self.view_is))
    (has_extendee d.pool c.tables.ensures.pooled d.table c.self.invariant.0 d.index c.self.invariant.1)

pub returns-clause-of_it : goal.returns-clause-of_it
returns-clause-of_it c =
    let d = c.self.inside in
    extended_has d.pool c.args.self.now c.unwrap.result
    (contains_described no_field extensions d.pool d.table d.index c.args.self.now c.self.invariant.0 c.self.invariant.1 c.self.view_is)
    (ap (λ (x : FieldDescriptorProto). message_referred d.pool x.extendee) (sym c.record.ensures) ∙ sym c.message_referred.ensures ∙ c.unwrap.ensures)
