use Rattle.pbx_link_tables.proofs.Kept.{message_made}
use Rattle.pbx_link_tables.proofs.entry.message_entry.Goals as goal

pub returns : goal.returns
returns c =
    message_made c.args.part.now c.item-message.result.now c.scope.result.now c.text_or_empty-own_name.result.now c.as_str.result.now c.place.result.now c.index.result c.in_ok-entry.entry c.as_slice.result.now
    c.in_ok-fields.fields c.item-message.ensures c.scope.ensures c.text_or_empty-own_name.ensures c.place.ensures c.index.ensures c.in_ok-entry.ensures c.as_str.ensures c.as_slice.ensures c.in_ok-fields.ensures
