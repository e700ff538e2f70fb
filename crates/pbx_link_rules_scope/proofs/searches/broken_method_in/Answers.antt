use Rattle.std.proofs.Common.{◌∙◌, [], ap}
use Rattle.pbx_link_definitions.specs.Definitions.{part, service_name}
use Rattle.pbx_link_definitions.specs.Names.{qualified}
use Rattle.pbx_link_rules_scope.proofs.Searched.{item_here}
use Rattle.pbx_link_rules_scope.proofs.searches.broken_method_in.Goals as goal

pub returns-in-Some : goal.returns-in-Some
returns-in-Some g c =
    let s = part c.args.scope.now [] 6 c.args.index c.args.service.now in
    let name = c.as_str.ensures ∙ c.in_ok-name.ensures ∙ ap (qualified c.args.scope.now) c.text_or_empty.ensures in
    item_here (g.R.Rule.breaks c.args.rule.now) (service_name s) c.as_str.result.now name s.place 2 c.args.number c.args.service.now.method
    c.as_slice.result.now
    c.as_slice.ensures c.in_ok-method.field-0 c.in_ok-method.ensures c.in-Some.method c.as_slice-in-Some.result.now
    c.in_ok-place_in_item-in-Some.field-0 c.in-Some.is (c.as_slice-in-Some.ensures ∙ c.in_ok-place-in-Some.ensures) c.in_ok-place_in_item-in-Some.ensures
