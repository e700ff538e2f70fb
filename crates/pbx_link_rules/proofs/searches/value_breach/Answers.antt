use Rattle.std.proofs.Common.{arith}
use Rattle.pbx_link_rules_field.specs.Rules.{bad_oneofs}
use Rattle.pbx_link_rules_record.specs.EnumRules.{bad_enums}
use Rattle.pbx_link_rules_scope.specs.Defaults.{bad_defaults}
use Rattle.pbx_link_rules.specs.Breaches.{bad_maps}
use Rattle.pbx_link_rules.proofs.First.{start, broken_at, kept_at, rule_9, rule_10, rule_11, rule_12}
use Rattle.pbx_link_rules.proofs.searches.value_breach.Goals as goal

pub returns-in-Some : goal.returns-in-Some
returns-in-Some g c = λ files.
    let f = c.args.parts.now in
    let seen = g.V.Visible.files c.args.seen.now in
    broken_at files seen f 9 (bad_oneofs f) (rule_9 files seen f) c.in_ok-place.field-0 c.in_ok-place.ensures 9 (start files seen f 9)
    12 c.in-Some.place (omega arith) (omega arith) c.in-Some.is

pub returns-in-Some-2 : goal.returns-in-Some-2
returns-in-Some-2 g c = λ files.
    let f = c.args.parts.now in
    let seen = g.V.Visible.files c.args.seen.now in
    let kept_9 =
    kept_at files seen f 9 (bad_oneofs f) (rule_9 files seen f) c.in_ok-place.field-0 c.in_ok-place.ensures 9 (start files seen f 9) c.in_default.is in
    broken_at files seen f 10 (bad_enums f) (rule_10 files seen f) c.in_ok-place-2.field-0 c.in_ok-place-2.ensures 9 kept_9
    12 c.in-Some-2.place (omega arith) (omega arith) c.in-Some-2.is

pub returns-in-Some-3 : goal.returns-in-Some-3
returns-in-Some-3 g c = λ files.
    let f = c.args.parts.now in
    let seen = g.V.Visible.files c.args.seen.now in
    let kept_9 =
    kept_at files seen f 9 (bad_oneofs f) (rule_9 files seen f) c.in_ok-place.field-0 c.in_ok-place.ensures 9 (start files seen f 9) c.in_default.is in
    let kept_10 =
    kept_at files seen f 10 (bad_enums f) (rule_10 files seen f) c.in_ok-place-2.field-0 c.in_ok-place-2.ensures 9 kept_9 c.in_default-2.is in
    broken_at files seen f 11 (bad_defaults seen f) (rule_11 files seen f) c.in_ok-place-3.field-0 c.in_ok-place-3.ensures 9 kept_10
    12 c.in-Some-3.place (omega arith) (omega arith) c.in-Some-3.is

pub returns-in-Some-4 : goal.returns-in-Some-4
returns-in-Some-4 g c = λ files.
    let f = c.args.parts.now in
    let seen = g.V.Visible.files c.args.seen.now in
    let kept_9 =
    kept_at files seen f 9 (bad_oneofs f) (rule_9 files seen f) c.in_ok-place.field-0 c.in_ok-place.ensures 9 (start files seen f 9) c.in_default.is in
    let kept_10 =
    kept_at files seen f 10 (bad_enums f) (rule_10 files seen f) c.in_ok-place-2.field-0 c.in_ok-place-2.ensures 9 kept_9 c.in_default-2.is in
    let kept_11 =
    kept_at files seen f 11 (bad_defaults seen f) (rule_11 files seen f) c.in_ok-place-3.field-0 c.in_ok-place-3.ensures 9 kept_10 c.in_default-3.is in
    broken_at files seen f 12 (bad_maps seen f) (rule_12 files seen f) c.in_ok-place-4.field-0 c.in_ok-place-4.ensures 9 kept_11
    12 c.in-Some-4.place (omega arith) (omega arith) c.in-Some-4.is

pub returns-in-None : goal.returns-in-None
returns-in-None g c = λ files.
    let f = c.args.parts.now in
    let seen = g.V.Visible.files c.args.seen.now in
    let kept_9 =
    kept_at files seen f 9 (bad_oneofs f) (rule_9 files seen f) c.in_ok-place.field-0 c.in_ok-place.ensures 9 (start files seen f 9) c.in_default.is in
    let kept_10 =
    kept_at files seen f 10 (bad_enums f) (rule_10 files seen f) c.in_ok-place-2.field-0 c.in_ok-place-2.ensures 9 kept_9 c.in_default-2.is in
    let kept_11 =
    kept_at files seen f 11 (bad_defaults seen f) (rule_11 files seen f) c.in_ok-place-3.field-0 c.in_ok-place-3.ensures 9 kept_10 c.in_default-3.is in
    let kept_12 =
    kept_at files seen f 12 (bad_maps seen f) (rule_12 files seen f) c.in_ok-place-4.field-0 c.in_ok-place-4.ensures 9 kept_11 c.in-None.is in
    kept_12
