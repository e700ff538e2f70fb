use Rattle.std.proofs.Common.{◌∙◌, ap}
use Rattle.pbx_link_definitions.specs.Definitions.{message_name}
use Rattle.pbx_link_definitions.specs.Names.{qualified}
use Rattle.pbx_link_definitions.specs.Says.{own_name, own_fields}
use Rattle.pbx_link_rules_scope.proofs.Searched.{item_here}
use Rattle.pbx_link_rules_scope.proofs.searches.broken_field_in.Goals as goal

pub returns-in-Some : goal.returns-in-Some
returns-in-Some g c =
    let m = c.args.message.now in
    let name = c.as_str.ensures ∙ c.in_ok-name.ensures ∙ ap (λ s. qualified s c.text_or_empty.result.now) c.scope.ensures
    ∙ ap (qualified m.scope) (c.text_or_empty.ensures ∙ ap own_name c.item-item.ensures) in
    item_here (g.R.Rule.breaks c.args.rule.now) (message_name m) c.as_str.result.now name m.place 2 c.args.number (own_fields m.item) c.as_slice.result.now
    (c.as_slice.ensures ∙ ap own_fields c.item-item.ensures) c.in_ok-index.field-0 c.in_ok-index.ensures c.in-Some.index c.place.result.now
    c.in_ok-place_in_item-in-Some.field-0 c.in-Some.is c.place.ensures c.in_ok-place_in_item-in-Some.ensures
