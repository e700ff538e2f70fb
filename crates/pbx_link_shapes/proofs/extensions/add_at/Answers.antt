use Rattle.std.proofs.Common.{refl, arith}
use Rattle.pbx_link_shapes.specs.Items.{with_field}
use Rattle.pbx_link_shapes.proofs.Extended.{written, none_written, not_less, on_ok}
use Rattle.pbx_link_shapes.proofs.extensions.add_at.Goals as goal

pub returns-in-Some : goal.returns-in-Some
returns-in-Some c =
    let lt = c.in-Some.ensures.variant.0 refl in
    let is = c.in-Some.ensures.value in
    on_ok c.add_field.result c.add_field.ensures
    (λ new. written (with_field c.args.field) c.args.messages.now.items c.args.place c.in-Some.message.now c.add_field.new.message (omega arith) is new)

pub returns-in-None : goal.returns-in-None
returns-in-None c =
    let messages = c.args.messages.now in
    let past = not_less c.args.place messages.len c.in-None.ensures.variant.1 in
    none_written (with_field c.args.field) messages.items c.args.place (omega arith)
