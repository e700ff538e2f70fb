use Rattle.std.proofs.Common.{sym, subst}
use Rattle.std.specs.Prelude.{Contains}
use Rattle.pbx_link_definitions.specs.Says.{is_uninterpreted}
use Rattle.pbx_link_definitions.specs.Definitions.{Place, parts}
use Rattle.pbx_link_rules_record.specs.OptionRules.{uninterpreted}
use Rattle.pbx_link_rules_record.proofs.ItemPlaces.{field_found_in, field_not_in}
use Rattle.pbx_link_rules_record.proofs.uninterpreted.in_list.Goals as goal

pub returns-in_ok-place_of_field-in-Some : goal.returns-in_ok-place_of_field-in-Some
returns-in_ok-place_of_field-in-Some g c = λ scope.
    subst (λ (p : Place). Contains (uninterpreted g.T.HasOptions.options c.args.field (parts scope c.args.place.now c.args.list c.args.items.now)) p) (sym c.in_ok-place_of_field-in-Some.ensures)
    (field_found_in scope c.args.place.now c.args.list c.args.items.now (λ x. is_uninterpreted (g.T.HasOptions.options x)) c.args.field c.in-Some.index c.in-Some.ensures)

pub returns-in-None : goal.returns-in-None
returns-in-None g c = λ scope.
    field_not_in scope c.args.place.now c.args.list c.args.items.now (λ x. is_uninterpreted (g.T.HasOptions.options x)) c.args.field c.in-None.ensures
