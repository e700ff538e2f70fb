use Rattle.std.proofs.Common.{◌∙◌, ap}
use Rattle.pbx_desc_records.specs.declared.field.OneofDescriptorProto.{OneofDescriptorProto}
use Rattle.pbx_link_definitions.specs.Definitions.{message_name, oneofs_in}
use Rattle.pbx_link_meaning.specs.Descriptors.{Described, fields_of_oneof}
use Rattle.pbx_link.specs.Tables.{part_at, no_oneof, own_oneofs}
use Rattle.pbx_link.proofs.Only.{members_are, part_scope, part_index}
use Rattle.pbx_link.proofs.field.OneofDescriptor.fields.Goals as goal

pub returns : goal.returns
returns c =
    let m = c.self.inside.message in
    let i = c.self.inside.index in
    members_are m.pool c.pool.ensures.pooled m.file c.pool.ensures.file m.part c.pool.ensures.message (part_at no_oneof (oneofs_in m.part) i)
    (part_scope no_oneof (message_name m.part) m.part.place 8 (own_oneofs m.part.item) i c.self.invariant) i
    (part_index no_oneof (message_name m.part) m.part.place 8 (own_oneofs m.part.item) i c.self.invariant)
    ∙ ap (λ (d : Described OneofDescriptorProto). fields_of_oneof d) c.self.view_is
