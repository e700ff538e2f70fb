use Rattle.std.proofs.Common.{◌+◌, drop}
use Rattle.pbx_link_definitions.specs.Definitions.{fields_in}
use Rattle.pbx_link_rules_scope.specs.Rules.{places_by}
use Rattle.pbx_link_rules_scope.proofs.Searched.{message_fields, list_next, list_done, some_here, none_here}
use Rattle.pbx_link_rules_scope.proofs.searches.broken_field.Goals as goal

pub returns-in-Some : goal.returns-in-Some
returns-in-Some g c =
    let P = g.R.Rule.breaks c.args.rule.now in
    let ms = c.args.messages.now in
    let i = c.loop-message.message-index in
    let all = places_by P c.args.number (message_fields 0 ms) in
    some_here P c.args.number all (fields_in c.message-item.result) (message_fields (i + 1) (drop (i + 1) ms))
    (list_next message_fields P c.args.number all ms i c.message-item.result c.loop-message-test.true c.message-item.is c.loop-message.invariant)
    c.in_ok-place.field-0 c.in_ok-place.ensures c.in-Some.place c.in-Some.is

pub loop-message-preserved : goal.loop-message-preserved
loop-message-preserved g c =
    let P = g.R.Rule.breaks c.args.rule.now in
    let ms = c.args.messages.now in
    let i = c.loop-message.message-index in
    let all = places_by P c.args.number (message_fields 0 ms) in
    none_here P c.args.number all (fields_in c.message-item.result) (message_fields (i + 1) (drop (i + 1) ms))
    (list_next message_fields P c.args.number all ms i c.message-item.result c.loop-message-test.true c.message-item.is c.loop-message.invariant)
    c.in_ok-place.field-0 c.in_ok-place.ensures c.in_default.is

pub returns : goal.returns
returns g c =
    let P = g.R.Rule.breaks c.args.rule.now in
    list_done message_fields P c.args.number (places_by P c.args.number (message_fields 0 c.args.messages.now)) c.args.messages.now c.loop-message.message-index
    c.loop-message-test.false c.loop-message.invariant
