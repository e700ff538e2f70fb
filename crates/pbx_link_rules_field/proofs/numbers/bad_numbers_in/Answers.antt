use Rattle.pbx_link_rules_field.specs.Rules.{is_bad_number, has_reserved_name}
use Rattle.pbx_link_rules_field.proofs.Numbered.{like}
use Rattle.pbx_link_rules_field.proofs.Placed.{field_here, no_field, again_here, none_again, number_first, number_second, name_third, no_number}
use Rattle.pbx_link_rules_field.proofs.numbers.bad_numbers_in.Goals as goal

pub returns-in-Some : goal.returns-in-Some
returns-in-Some c =
    number_first c.args.message.now c.in_ok-place_in_item.field-0
    (field_here c.args.message.now c.item-item.result.now c.item-item.ensures 3 (λ m x. is_bad_number m x.number) c.in_ok-index.field-0
    c.in_ok-index.ensures c.in-Some.index c.place.result.now
    c.in_ok-place_in_item.field-0 c.in-Some.is c.place.ensures c.in_ok-place_in_item.ensures)

pub returns-in-Some-2 : goal.returns-in-Some-2
returns-in-Some-2 c =
    number_second c.args.message.now c.in_ok-place_in_item-2.field-0
    (no_field c.args.message.now c.item-item.result.now c.item-item.ensures 3 (λ m x. is_bad_number m x.number) c.in_ok-index.field-0
    c.in_ok-index.ensures c.in_default.is)
    (again_here c.args.message.now c.item-item.result.now c.item-item.ensures 3 like c.as_slice.result.now c.as_slice.ensures
    c.in_ok-index-2.field-0 c.in_ok-index-2.ensures c.in-Some-2.index c.place-in-Some-2.result.now
    c.in_ok-place_in_item-2.field-0 c.in-Some-2.is c.place-in-Some-2.ensures c.in_ok-place_in_item-2.ensures)

pub returns-in-Some-3 : goal.returns-in-Some-3
returns-in-Some-3 c =
    name_third c.args.message.now c.in_ok-place_in_item-3.field-0
    (no_field c.args.message.now c.item-item.result.now c.item-item.ensures 3 (λ m x. is_bad_number m x.number) c.in_ok-index.field-0
    c.in_ok-index.ensures c.in_default.is)
    (none_again c.args.message.now c.item-item.result.now c.item-item.ensures 3 like c.as_slice.result.now c.as_slice.ensures
    c.in_ok-index-2.field-0 c.in_ok-index-2.ensures c.in_default-2.is)
    (field_here c.args.message.now c.item-item.result.now c.item-item.ensures 1 has_reserved_name c.in_ok-index-3.field-0 c.in_ok-index-3.ensures
    c.in-Some-3.index c.place-in-Some-3.result.now
    c.in_ok-place_in_item-3.field-0 c.in-Some-3.is c.place-in-Some-3.ensures c.in_ok-place_in_item-3.ensures)

pub returns : goal.returns
returns c =
    no_number c.args.message.now
    (no_field c.args.message.now c.item-item.result.now c.item-item.ensures 3 (λ m x. is_bad_number m x.number) c.in_ok-index.field-0
    c.in_ok-index.ensures c.in_default.is)
    (none_again c.args.message.now c.item-item.result.now c.item-item.ensures 3 like c.as_slice.result.now c.as_slice.ensures
    c.in_ok-index-2.field-0 c.in_ok-index-2.ensures c.in_default-2.is)
    (no_field c.args.message.now c.item-item.result.now c.item-item.ensures 1 has_reserved_name c.in_ok-index-3.field-0 c.in_ok-index-3.ensures
    c.in_default-3.is)
