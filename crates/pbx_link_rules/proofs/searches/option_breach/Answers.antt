use Rattle.std.proofs.Common.{arith}
use Rattle.pbx_link_rules_field.specs.Rules.{bad_labels}
use Rattle.pbx_link_rules_record.specs.OptionRules.{uninterpreted_options, message_sets}
use Rattle.pbx_link_rules_record.specs.RangeRules.{bad_ranges}
use Rattle.pbx_link_rules.proofs.First.{start, broken_at, kept_at, rule_13, rule_14, rule_15, rule_16}
use Rattle.pbx_link_rules.proofs.searches.option_breach.Goals as goal

pub returns-in-Some : goal.returns-in-Some
returns-in-Some c = λ files seen.
    let f = c.args.parts.now in
    broken_at files seen f 13 (bad_labels f) (rule_13 files seen f) c.in_ok-place.field-0 c.in_ok-place.ensures 13 (start files seen f 13)
    16 c.in-Some.place (omega arith) (omega arith) c.in-Some.is

pub returns-in-Some-2 : goal.returns-in-Some-2
returns-in-Some-2 c = λ files seen.
    let f = c.args.parts.now in
    let kept_13 =
    kept_at files seen f 13 (bad_labels f) (rule_13 files seen f) c.in_ok-place.field-0 c.in_ok-place.ensures 13 (start files seen f 13) c.in_default.is in
    broken_at files seen f 14 (uninterpreted_options f) (rule_14 files seen f) c.in_ok-place-2.field-0 c.in_ok-place-2.ensures 13 kept_13
    16 c.in-Some-2.place (omega arith) (omega arith) c.in-Some-2.is

pub returns-in-Some-3 : goal.returns-in-Some-3
returns-in-Some-3 c = λ files seen.
    let f = c.args.parts.now in
    let kept_13 =
    kept_at files seen f 13 (bad_labels f) (rule_13 files seen f) c.in_ok-place.field-0 c.in_ok-place.ensures 13 (start files seen f 13) c.in_default.is in
    let kept_14 =
    kept_at files seen f 14 (uninterpreted_options f) (rule_14 files seen f) c.in_ok-place-2.field-0 c.in_ok-place-2.ensures 13 kept_13 c.in_default-2.is in
    broken_at files seen f 15 (message_sets f) (rule_15 files seen f) c.in_ok-place-3.field-0 c.in_ok-place-3.ensures 13 kept_14
    16 c.in-Some-3.place (omega arith) (omega arith) c.in-Some-3.is

pub returns-in-Some-4 : goal.returns-in-Some-4
returns-in-Some-4 c = λ files seen.
    let f = c.args.parts.now in
    let kept_13 =
    kept_at files seen f 13 (bad_labels f) (rule_13 files seen f) c.in_ok-place.field-0 c.in_ok-place.ensures 13 (start files seen f 13) c.in_default.is in
    let kept_14 =
    kept_at files seen f 14 (uninterpreted_options f) (rule_14 files seen f) c.in_ok-place-2.field-0 c.in_ok-place-2.ensures 13 kept_13 c.in_default-2.is in
    let kept_15 =
    kept_at files seen f 15 (message_sets f) (rule_15 files seen f) c.in_ok-place-3.field-0 c.in_ok-place-3.ensures 13 kept_14 c.in_default-3.is in
    broken_at files seen f 16 (bad_ranges f) (rule_16 files seen f) c.in_ok-place-4.field-0 c.in_ok-place-4.ensures 13 kept_15
    16 c.in-Some-4.place (omega arith) (omega arith) c.in-Some-4.is

pub returns-in-None : goal.returns-in-None
returns-in-None c = λ files seen.
    let f = c.args.parts.now in
    let kept_13 =
    kept_at files seen f 13 (bad_labels f) (rule_13 files seen f) c.in_ok-place.field-0 c.in_ok-place.ensures 13 (start files seen f 13) c.in_default.is in
    let kept_14 =
    kept_at files seen f 14 (uninterpreted_options f) (rule_14 files seen f) c.in_ok-place-2.field-0 c.in_ok-place-2.ensures 13 kept_13 c.in_default-2.is in
    let kept_15 =
    kept_at files seen f 15 (message_sets f) (rule_15 files seen f) c.in_ok-place-3.field-0 c.in_ok-place-3.ensures 13 kept_14 c.in_default-3.is in
    let kept_16 =
    kept_at files seen f 16 (bad_ranges f) (rule_16 files seen f) c.in_ok-place-4.field-0 c.in_ok-place-4.ensures 13 kept_15 c.in-None.is in
    kept_16
