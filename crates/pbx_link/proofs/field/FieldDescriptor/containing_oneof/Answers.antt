use Rattle.std.proofs.Common.{◌∙◌, ℕ, Option, ap, sym}
use Rattle.std.specs.Prelude.{option_map, option_and_then, slice_get}
use Rattle.pbx_desc_records.specs.declared.field.FieldDescriptorProto.{FieldDescriptorProto}
use Rattle.pbx_link_definitions.specs.Definitions.{message_name, fields_in, oneofs_in}
use Rattle.pbx_link_definitions.specs.Says.{own_fields}
use Rattle.pbx_link_meaning.specs.Descriptors.{Described, described, oneof_of_field}
use Rattle.pbx_link.specs.Tables.{part_at, no_field, index_of}
use Rattle.pbx_link.proofs.Only.{oneof_is, part_scope}
use Rattle.pbx_link.proofs.field.FieldDescriptor.containing_oneof.Goals as goal

pub returns-in-Some : goal.returns-in-Some
returns-in-Some c =
    let m = c.self.inside.message in
    let i = c.self.inside.index in
    c.oneof_at.ensures
    ∙ ap (λ (o : Option ℕ). option_map (described m.pool m.file) (option_and_then (slice_get (oneofs_in m.part)) o))
    (c.in-Some.ensures ∙ ap (λ (x : FieldDescriptorProto). index_of x.oneof_index) c.record.ensures
    ∙ ap (λ (d : Described FieldDescriptorProto). index_of d.part.item.oneof_index) (sym c.self.view_is))
    ∙ sym (oneof_is m.pool c.pool.ensures.pooled m.file c.pool.ensures.file m.part c.pool.ensures.message (part_at no_field (fields_in m.part) i)
    (part_scope no_field (message_name m.part) m.part.place 2 (own_fields m.part.item) i c.self.invariant))
    ∙ ap (λ (d : Described FieldDescriptorProto). oneof_of_field d) c.self.view_is

pub returns-in-None : goal.returns-in-None
returns-in-None c =
    let m = c.self.inside.message in
    let i = c.self.inside.index in
    ap (λ (o : Option ℕ). option_map (described m.pool m.file) (option_and_then (slice_get (oneofs_in m.part)) o))
    (c.in-None.ensures ∙ ap (λ (x : FieldDescriptorProto). index_of x.oneof_index) c.record.ensures
    ∙ ap (λ (d : Described FieldDescriptorProto). index_of d.part.item.oneof_index) (sym c.self.view_is))
    ∙ sym (oneof_is m.pool c.pool.ensures.pooled m.file c.pool.ensures.file m.part c.pool.ensures.message (part_at no_field (fields_in m.part) i)
    (part_scope no_field (message_name m.part) m.part.place 2 (own_fields m.part.item) i c.self.invariant))
    ∙ ap (λ (d : Described FieldDescriptorProto). oneof_of_field d) c.self.view_is
