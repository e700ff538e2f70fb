use Rattle.std.proofs.Common.{◌∙◌, Some, ap, sym, subst}
use Rattle.std.specs.Prelude.{Contains}
use Rattle.pbx_desc_records.specs.declared.message.DescriptorProto.{DescriptorProto}
use Rattle.pbx_desc_records.specs.declared.field.FieldDescriptorProto.{FieldDescriptorProto}
use Rattle.pbx_link_definitions.specs.Definitions.{message_name, fields_in}
use Rattle.pbx_link_definitions.specs.Says.{own_fields}
use Rattle.pbx_link_meaning.specs.Descriptors.{Described, fields_of_message, parent_of}
use Rattle.pbx_link.specs.Tables.{part_at, no_field}
use Rattle.pbx_link.proofs.Parts.{contains_part}
use Rattle.pbx_link.proofs.Only.{parent_is_it, part_scope}
use Rattle.pbx_link.proofs.field.FieldDescriptor.parent_message.Goals as goal

pub returns-clause-parent : goal.returns-clause-parent
returns-clause-parent c =
    let m = c.self.inside.message in
    let i = c.self.inside.index in
    ap (λ (d : Described FieldDescriptorProto). parent_of d) (sym c.self.view_is)
    ∙ parent_is_it m.pool c.pool.ensures.pooled m.file c.pool.ensures.file m.part c.pool.ensures.message (part_at no_field (fields_in m.part) i).scope
    (part_scope no_field (message_name m.part) m.part.place 2 (own_fields m.part.item) i c.self.invariant)
    ∙ ap (λ (d : Described DescriptorProto). Some d) (sym c.copy.ensures)

pub returns-clause-of_it : goal.returns-clause-of_it
returns-clause-of_it c =
    let m = c.self.inside.message in
    subst (λ (d : Described DescriptorProto). Contains (fields_of_message d) c.args.self.now) (sym c.copy.ensures)
    (contains_part no_field m.pool m.file (fields_in m.part) c.self.inside.index c.args.self.now c.self.invariant c.self.view_is)
