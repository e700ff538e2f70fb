use Rattle.std.proofs.Common.{◌∙◌, ap}
use Rattle.pbx_link_definitions.specs.Names.{qualified}
use Rattle.pbx_link_record.specs.Settled.{settled_message}
use Rattle.pbx_link_record.specs.Linked.{linked_message}
use Rattle.pbx_link_record.proofs.Rolled.{linked_made, linked_more}
use Rattle.pbx_link_record.proofs.messages.+linking.Goals as goal

pub linked_message-returns : goal.linked_message-returns
linked_message-returns g t c =
    linked_made (g.V.Visible.files c.args.seen.now) c.args.scope.now c.args.message.now c.as_str-name.result.now c.in_ok-own.own c.in_ok-nested_type.nested_type
    (c.as_str-name.ensures ∙ c.in_ok-full.ensures ∙ ap (qualified c.args.scope.now) c.text_or_empty.ensures) c.in_ok-own.ensures c.in_ok-nested_type.ensures

pub linked_messages-loop-message-preserved : goal.linked_messages-loop-message-preserved
linked_messages-loop-message-preserved g t c =
    linked_more (linked_message (g.V.Visible.files c.args.seen.now) c.args.scope.now) settled_message c.as_slice-message-items.result.now c.loop-message.message-index c.message-item.result c.in_ok-linked_message.field-0 c.loop-message.linked c.add.new.self
    c.loop-message-test.true c.message-item.is c.loop-message.invariant c.in_ok-linked_message.ensures c.in_ok-add.ensures.ok
