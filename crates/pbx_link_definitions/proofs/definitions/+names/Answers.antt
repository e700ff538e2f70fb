use Rattle.std.proofs.Common.{◌∙◌}
use Rattle.pbx_link_definitions.proofs.Defined.{defined_more, message_defined}
use Rattle.pbx_link_definitions.proofs.definitions.+names.Goals as goal

pub add_message-returns : goal.add_message-returns
add_message-returns t c =
    message_defined c.add_items-3.result c.args.scope.now c.args.place.now c.args.message.now c.text_or_empty-own.result.now c.in_ok-full.full c.as_str-name.result.now c.in_ok-made_definition.field-0 c.as_slice.result.now c.as_slice-2.result.now c.as_slice-3.result.now c.as_slice-4.result.now
    c.args.table.now c.add.new.self c.add_items.new.table c.add_messages.new.table c.add_enums.new.table c.add_items-2.new.table c.add_items-3.new.table
    c.text_or_empty-own.ensures c.in_ok-full.ensures c.as_str-name.ensures c.as_slice.ensures c.as_slice-2.ensures c.as_slice-3.ensures c.as_slice-4.ensures (rw (c.in_ok-place_copy.ensures) at c.in_ok-made_definition.ensures) c.in_ok-add.ensures.ok
    c.in_ok-add_items.ensures c.in_ok-add_messages.ensures c.in_ok-add_enums.ensures c.in_ok-add_items-2.ensures c.add_items-3.ensures

pub add_messages-loop-index-preserved : goal.add_messages-loop-index-preserved
add_messages-loop-index-preserved t c =
    defined_more c.args.scope.now c.args.place.now c.as_slice.result.now c.args.number c.as_slice-message-items.result.now c.loop-index.index c.message-item.result c.args.table.now c.loop-index.table c.add_message.new.table
    c.loop-index-test.true c.message-item.is c.loop-index.invariant (c.as_slice.ensures ∙ c.in_ok-there.ensures) c.in_ok-add_message.ensures
