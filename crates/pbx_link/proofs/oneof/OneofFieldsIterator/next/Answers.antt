use Rattle.std.proofs.Common.{◌∙◌, List, Option, sym, subst}
use Rattle.std.specs.Iterator.{YieldsFirst}
use Rattle.pbx_desc_records.specs.declared.field.FieldDescriptorProto.{FieldDescriptorProto}
use Rattle.pbx_link_meaning.specs.Descriptors.{Described}
use Rattle.pbx_link.proofs.Members.{no_member_left, member_within, next_member}
use Rattle.pbx_link.proofs.Walk.{goes_on}
use Rattle.pbx_link.proofs.oneof.OneofFieldsIterator.next.Goals as goal

pub returns-in_err-before-clause-steps : goal.returns-in_err-before-clause-steps
returns-in_err-before-clause-steps c =
    let none = sym c.self.view_is
    ∙ no_member_left c.self.inside.message.now c.self.inside.oneof c.self.inside.index c.own_fields.result.now c.own_fields.ensures c.fields_before.result
    c.fields_before.ensures c.in_err-before.was in
    subst (λ (r : Option (Described FieldDescriptorProto)). YieldsFirst (λ (it : List (Described FieldDescriptorProto)). it) c.args.self.now r c.args.self.now)
    (sym c.from_residual.ensures) (none, none)

pub field-requires : goal.field-requires
field-requires c =
    member_within c.self.inside.message.now c.self.inside.oneof c.self.inside.index c.own_fields.result.now c.own_fields.ensures c.fields_before.result
    c.fields_before.ensures c.in_ok-before.before c.in_ok-before.was

pub returns-clause-steps : goal.returns-clause-steps
returns-clause-steps c =
    sym c.self.view_is
    ∙ next_member c.self.inside.message.now c.self.inside.oneof c.self.inside.index c.own_fields.result.now c.own_fields.ensures c.fields_before.result
    c.fields_before.ensures c.in_ok-before.before c.in_ok-before.was c.field.result c.field.ensures

pub returns-clause-goes : goal.returns-clause-goes
returns-clause-goes c = goes_on _ _ _ _ tt (returns-clause-steps c)
