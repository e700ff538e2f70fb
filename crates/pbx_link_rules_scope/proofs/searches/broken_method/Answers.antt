use Rattle.std.proofs.Common.{◌+◌, [], drop, subst}
use Rattle.pbx_link_definitions.specs.Definitions.{part, methods, methods_in, package_of}
use Rattle.pbx_link_definitions.specs.Places.{IsAmong}
use Rattle.pbx_link_rules_scope.specs.Rules.{places_by}
use Rattle.pbx_link_rules_scope.proofs.Searched.{service_methods, list_next, list_done, some_here, none_here}
use Rattle.pbx_link_rules_scope.proofs.searches.broken_method.Goals as goal

pub returns-in-Some : goal.returns-in-Some
returns-in-Some g c =
    let P = g.R.Rule.breaks c.args.rule.now in
    let n = c.args.number in
    let f = c.args.file.now in
    let ss = c.as_slice-service-items.result.now in
    let i = c.loop-index.index in
    let s = c.service-item.result in
    let here = subst (λ t. IsAmong (places_by P n (methods_in (part t [] 6 i s))) c.in_ok-place.field-0) c.text_or_empty-scope.ensures c.in_ok-place.ensures in
    some_here P n (places_by P n (methods f)) (methods_in (part (package_of f) [] 6 i s)) (service_methods (package_of f) (i + 1) (drop (i + 1) ss))
    (list_next (service_methods (package_of f)) P n (places_by P n (methods f)) ss i s c.loop-index-test.true c.service-item.is c.loop-index.invariant)
    c.in_ok-place.field-0 here c.in-Some.place c.in-Some.is

pub loop-index-preserved : goal.loop-index-preserved
loop-index-preserved g c =
    let P = g.R.Rule.breaks c.args.rule.now in
    let n = c.args.number in
    let f = c.args.file.now in
    let ss = c.as_slice-service-items.result.now in
    let i = c.loop-index.index in
    let s = c.service-item.result in
    let here = subst (λ t. IsAmong (places_by P n (methods_in (part t [] 6 i s))) c.in_ok-place.field-0) c.text_or_empty-scope.ensures c.in_ok-place.ensures in
    none_here P n (places_by P n (methods f)) (methods_in (part (package_of f) [] 6 i s)) (service_methods (package_of f) (i + 1) (drop (i + 1) ss))
    (list_next (service_methods (package_of f)) P n (places_by P n (methods f)) ss i s c.loop-index-test.true c.service-item.is c.loop-index.invariant)
    c.in_ok-place.field-0 here c.in_default.is

pub returns : goal.returns
returns g c =
    let P = g.R.Rule.breaks c.args.rule.now in
    let f = c.args.file.now in
    list_done (service_methods (package_of f)) P c.args.number (places_by P c.args.number (methods f)) c.as_slice-service-items.result.now c.loop-index.index
    c.loop-index-test.false c.loop-index.invariant
