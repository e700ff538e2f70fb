use Rattle.std.proofs.Common.{◌∙◌}
use Rattle.pbx_link_definitions.specs.Definitions.{messages_from, extensions_from}
use Rattle.pbx_link_definitions.proofs.Listed.{message_listed, extensions_listed, told_more}
use Rattle.pbx_link_definitions.proofs.file_parts.+parts.Goals as goal

pub add_message-returns-clause-messages : goal.add_message-returns-clause-messages
add_message-returns-clause-messages t c =
    message_listed c.add_parts.result c.args.scope.now c.in_ok-from_str.field-0 c.args.place.now c.in_ok-place_copy.field-0 c.args.index c.args.message.now c.as_str-name.result.now c.in_ok-full.full c.text_or_empty.result.now
    c.args.parts.now c.add.new.self c.add_messages.new.parts c.in_ok-from_str.ensures c.in_ok-place_copy.ensures (search (c.new-part.ensures, c.in_ok-add.ensures.ok)) c.as_str-name.ensures c.in_ok-full.ensures c.text_or_empty.ensures c.in_ok-add_messages.ensures.messages

pub add_message-returns-clause-extensions : goal.add_message-returns-clause-extensions
add_message-returns-clause-extensions t c =
    extensions_listed c.add_parts.result c.args.scope.now c.args.place.now c.args.index c.args.message.now c.as_str-name.result.now c.in_ok-full.full c.text_or_empty.result.now c.as_slice.result.now
    c.args.extensions.now c.add_messages.new.extensions c.add_parts.new.parts c.as_str-name.ensures c.in_ok-full.ensures c.text_or_empty.ensures c.as_slice.ensures c.in_ok-add_messages.ensures.extensions c.add_parts.ensures

pub add_messages-loop-index-preserved : goal.add_messages-loop-index-preserved
add_messages-loop-index-preserved t c = (
  told_more messages_from c.args.scope.now c.args.place.now c.as_slice.result.now c.args.number c.as_slice-message-items.result.now c.loop-index.index c.message-item.result c.args.parts.now c.loop-index.parts c.add_message.new.parts
      c.loop-index-test.true c.message-item.is c.loop-index.invariant.0 (c.as_slice.ensures ∙ c.in_ok-there.ensures) c.in_ok-add_message.ensures.messages,
  told_more extensions_from c.args.scope.now c.args.place.now c.as_slice.result.now c.args.number c.as_slice-message-items.result.now c.loop-index.index c.message-item.result c.args.extensions.now c.loop-index.extensions c.add_message.new.extensions
      c.loop-index-test.true c.message-item.is c.loop-index.invariant.1 (c.as_slice.ensures ∙ c.in_ok-there.ensures) c.in_ok-add_message.ensures.extensions,
)
