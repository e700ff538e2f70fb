use Rattle.std.proofs.Common.{◌∙◌, ap, sym}
use Rattle.std.specs.Prelude.{string_bytes}
use Rattle.std.specs.BTreeMap.{get_by_text}
use Rattle.pbx_link_definitions.specs.Names.{qualified}
use Rattle.pbx_link_definitions.specs.Ranges.{in_ranges, extension_ranges}
use Rattle.pbx_link_definitions.specs.Says.{own_name}
use Rattle.pbx_link_rules_scope.proofs.Extended.{kept_more}
use Rattle.pbx_link_rules_scope.proofs.extension_numbers.leaves_number.Goals as goal

pub returns-clause-own : goal.returns-clause-own
returns-clause-own c = λ seen own is.
    let m = c.args.message.now in
    let name = c.in_ok-from_str.ensures.ok ∙ c.as_str-2.ensures ∙ c.in_ok-name.ensures ∙ ap (λ s. qualified s c.text_or_empty.result.now) c.scope.ensures
    ∙ ap (qualified m.scope) (c.text_or_empty.ensures ∙ ap own_name c.item.ensures) in
    kept_more seen c.args.known.now own m is (string_bytes c.in_ok-from_str.field-0) name c.insert.new.self c.in_ok-ranges.ranges
    (λ number. c.in_ok-ranges.ensures number ∙ ap (λ x. in_ranges (extension_ranges x) number) c.item-2.ensures) c.in_ok-insert.ensures.updates

pub returns-in-Some-clause-left : goal.returns-in-Some-clause-left
returns-in-Some-clause-left c = λ seen own is.
    let m = c.args.message.now in
    let name = c.as_str.ensures ∙ c.in_ok-name.ensures ∙ ap (λ s. qualified s c.text_or_empty.result.now) c.scope.ensures
    ∙ ap (qualified m.scope) (c.text_or_empty.ensures ∙ ap own_name c.item.ensures) in
    c.contains.ensures
    ∙ own m c.in-Some.ranges.now is (sym (ap (get_by_text c.args.known.now) name) ∙ sym c.in-Some.ensures.value) c.args.number
