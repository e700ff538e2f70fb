use Rattle.std.proofs.Common.{arith}
use Rattle.pbx_link_scope.specs.Scope.{visible}
use Rattle.pbx_link_rules_record.specs.FileRules.{bad_names}
use Rattle.pbx_link_rules.specs.Rules.{names_twice}
use Rattle.pbx_link_rules.proofs.First.{start, broken_at, kept_at, rule_4, rule_5}
use Rattle.pbx_link_rules.proofs.searches.name_breach.Goals as goal

pub returns-in-Some : goal.returns-in-Some
returns-in-Some g c =
    let f = c.args.parts.now in
    let files = g.P.Pooled.files c.args.pool.now in
    let seen = visible files f in
    broken_at files seen f 4 (bad_names f) (rule_4 files seen f) c.in_ok-place.field-0 c.in_ok-place.ensures 4 (start files seen f 4)
    5 c.in-Some.place (omega arith) (omega arith) c.in-Some.is

pub returns-in-Some-2 : goal.returns-in-Some-2
returns-in-Some-2 g c =
    let f = c.args.parts.now in
    let files = g.P.Pooled.files c.args.pool.now in
    let seen = visible files f in
    let kept_4 =
    kept_at files seen f 4 (bad_names f) (rule_4 files seen f) c.in_ok-place.field-0 c.in_ok-place.ensures 4 (start files seen f 4) c.in_default.is in
    broken_at files seen f 5 (names_twice files f) (rule_5 files seen f)
    c.in_ok-place-2.field-0 c.in_ok-place-2.ensures 4 kept_4 5 c.in-Some-2.place (omega arith) (omega arith) c.in-Some-2.is

pub returns-in-None : goal.returns-in-None
returns-in-None g c =
    let f = c.args.parts.now in
    let files = g.P.Pooled.files c.args.pool.now in
    let seen = visible files f in
    let kept_4 =
    kept_at files seen f 4 (bad_names f) (rule_4 files seen f) c.in_ok-place.field-0 c.in_ok-place.ensures 4 (start files seen f 4) c.in_default.is in
    let kept_5 =
    kept_at files seen f 5 (names_twice files f) (rule_5 files seen f)
    c.in_ok-place-2.field-0 c.in_ok-place-2.ensures 4 kept_4 c.in-None.is in
    kept_5
