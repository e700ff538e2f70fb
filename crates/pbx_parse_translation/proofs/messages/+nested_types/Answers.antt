use Rattle.std.proofs.Common.{refl, ap, ◌∙◌}
use Rattle.pbx_parse_tree.specs.View.{body_of}
use Rattle.pbx_parse_translation.specs.Messages.{nested_types}
use Rattle.pbx_parse_translation.proofs.ItemForms.{adds_no_type, adds_entry, adds_message}
use Rattle.pbx_parse_translation.proofs.Steps.{types_go_on, types_end}
use Rattle.pbx_parse_translation.proofs.messages.+nested_types.Goals as goal
use Rattle.pbx_parse_translation.proofs.messages.+nested_types.Goals.{in-Message+in_ok-types-in-Message+in_ok-add_message-in-Message, in-Map+in_ok-add_entry-in-Map, in_default}

pub each-preserved : goal.each-preserved
each-preserved t c =
    let v = c.args.version in
    let x = c.item-item.result in
    let before = c.each.records in
    let all = c.match-item.records in
    types_go_on v c.deref-item-items.result.now c.each.item-index x before all _ c.each-test.true c.item-item.is c.each.invariant
    (elim c.match-item.branch [
      | in-Message+in_ok-types-in-Message+in_ok-add_message-in-Message w ↦
          adds_message v x before all w.in-Message.head w.in-Message.inner w.in-Message.field-2 w.deref.result.now w.in_ok-types-in-Message.types _ w.in-Message.is w.deref.ensures.value w.in_ok-types-in-Message.ensures refl (w.records-is ∙ w.in_ok-add_message-in-Message.ensures)
      | in-Map+in_ok-add_entry-in-Map w ↦ adds_entry v x before all w.in-Map.map w.in-Map.is (w.records-is ∙ w.in_ok-add_entry-in-Map.ensures)
      | in_default w ↦ adds_no_type v x before all w.in_default.not-Message w.in_default.not-Map w.records-is
    ])

pub returns : goal.returns
returns t c =
    types_end c.args.version c.deref-item-items.result.now c.each.item-index c.each.records _ c.each-test.false c.each.invariant
    ∙ ap (λ is. nested_types c.args.version (body_of is)) c.deref-item-items.ensures.value
