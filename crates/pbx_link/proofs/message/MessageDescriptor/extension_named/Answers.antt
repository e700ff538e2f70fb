use Rattle.std.proofs.Common.{◌∙◌, ℕ, List, true, false, ap, sym}
use Rattle.pbx_desc_records.specs.declared.field.FieldDescriptorProto.{FieldDescriptorProto}
use Rattle.pbx_link_definitions.specs.Names.{is_named, dotted}
use Rattle.pbx_link.proofs.ExtensionsOnce.{named_none, named_one}
use Rattle.pbx_link.proofs.message.MessageDescriptor.extension_named.Goals as goal

pub returns-in_err-extension : goal.returns-in_err-extension
returns-in_err-extension c =
    c.from_residual.ensures
    ∙ named_none c.args.name.now c.args.self.now c.pool.result.now c.pool.ensures.same c.pool.ensures.pooled c.get_extension_by_name.result
    c.get_extension_by_name.ensures c.in_err-extension.was

pub returns-then-is_dotted : goal.returns-then-is_dotted
returns-then-is_dotted c =
    let x = c.in_ok-extension.extension in
    named_one c.args.name.now c.args.self.now c.pool.result.now c.pool.ensures.same c.pool.ensures.pooled c.get_extension_by_name.result x true
    c.get_extension_by_name.ensures c.in_ok-extension.was
    (sym (c.is_dotted.ensures ∙ ap (λ (y : FieldDescriptorProto). is_named y.extendee (dotted c.full_name.result.now)) c.record.ensures
    ∙ ap (λ (n : List ℕ). is_named x.part.item.extendee (dotted n)) c.full_name.ensures)
    ∙ c.if-is_dotted.true)

pub returns-else-is_dotted : goal.returns-else-is_dotted
returns-else-is_dotted c =
    let x = c.in_ok-extension.extension in
    named_one c.args.name.now c.args.self.now c.pool.result.now c.pool.ensures.same c.pool.ensures.pooled c.get_extension_by_name.result x false
    c.get_extension_by_name.ensures c.in_ok-extension.was
    (sym (c.is_dotted.ensures ∙ ap (λ (y : FieldDescriptorProto). is_named y.extendee (dotted c.full_name.result.now)) c.record.ensures
    ∙ ap (λ (n : List ℕ). is_named x.part.item.extendee (dotted n)) c.full_name.ensures)
    ∙ c.if-is_dotted.false)
