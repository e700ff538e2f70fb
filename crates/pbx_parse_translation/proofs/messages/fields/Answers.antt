use Rattle.std.proofs.Common.{◌≡◌, ◌+◌, ℕ, length, ap, ◌∙◌}
use Rattle.pbx_parse_tree.specs.View.{item_of}
use Rattle.pbx_parse_translation.specs.Messages.{oneofs_in, optional_names_in}
use Rattle.pbx_parse_translation.proofs.Steps.{fields_go_on, fields_end}
use Rattle.pbx_parse_translation.proofs.messages.fields.Goals as goal

pub each-preserved : goal.each-preserved
each-preserved c =
    let x = c.item-item.result in
    let written : c.in_ok-written.written ≡ c.each.written + length (oneofs_in (item_of x)) = c.in_ok-written.ensures ∙ ap (λ (n : ℕ). c.each.written + n) c.oneofs_in.ensures in
    let synthetic : c.in_ok-synthetic.synthetic ≡ c.each.synthetic + length (optional_names_in c.args.version (item_of x)) = c.in_ok-synthetic.ensures ∙ ap (λ (n : ℕ). c.each.synthetic + n) c.optionals_in.ensures in
    fields_go_on c.args.version c.args.items.now c.each.item-index c.each.written c.each.synthetic x c.in_ok-written.written c.in_ok-synthetic.synthetic c.each.all c.add_fields.new.records _ c.each-test.true c.item-item.is c.each.invariant c.in_ok-add_fields.ensures written synthetic

pub returns : goal.returns
returns c = fields_end c.args.version c.args.items.now c.each.item-index c.each.written c.each.synthetic c.each.all _ c.each-test.false c.each.invariant
