use Rattle.std.proofs.Common.{arith}
use Rattle.pbx_link_rules_field.specs.Rules.{bad_types}
use Rattle.pbx_link_rules_scope.specs.Rules.{unbound_names}
use Rattle.pbx_link_rules.specs.Breaches.{bad_numbers}
use Rattle.pbx_link_rules.proofs.First.{start, broken_at, kept_at, rule_6, rule_7, rule_8}
use Rattle.pbx_link_rules.proofs.searches.type_breach.Goals as goal

pub returns-in-Some : goal.returns-in-Some
returns-in-Some g c =
    let f = c.args.parts.now in
    let files = g.P.Pooled.files c.args.pool.now in
    let seen = g.V.Visible.files c.args.seen.now in
    broken_at files seen f 6 (bad_numbers files seen f) (rule_6 files seen f) c.in_ok-place.field-0 c.in_ok-place.ensures 6 (start files seen f 6)
    8 c.in-Some.place (omega arith) (omega arith) c.in-Some.is

pub returns-in-Some-2 : goal.returns-in-Some-2
returns-in-Some-2 g c =
    let f = c.args.parts.now in
    let files = g.P.Pooled.files c.args.pool.now in
    let seen = g.V.Visible.files c.args.seen.now in
    let kept_6 =
    kept_at files seen f 6 (bad_numbers files seen f) (rule_6 files seen f) c.in_ok-place.field-0 c.in_ok-place.ensures
    6 (start files seen f 6) c.in_default.is in
    broken_at files seen f 7 (unbound_names seen f) (rule_7 files seen f) c.in_ok-place-2.field-0 c.in_ok-place-2.ensures 6 kept_6
    8 c.in-Some-2.place (omega arith) (omega arith) c.in-Some-2.is

pub returns-in-Some-3 : goal.returns-in-Some-3
returns-in-Some-3 g c =
    let f = c.args.parts.now in
    let files = g.P.Pooled.files c.args.pool.now in
    let seen = g.V.Visible.files c.args.seen.now in
    let kept_6 =
    kept_at files seen f 6 (bad_numbers files seen f) (rule_6 files seen f) c.in_ok-place.field-0 c.in_ok-place.ensures
    6 (start files seen f 6) c.in_default.is in
    let kept_7 =
    kept_at files seen f 7 (unbound_names seen f) (rule_7 files seen f) c.in_ok-place-2.field-0 c.in_ok-place-2.ensures 6 kept_6 c.in_default-2.is in
    broken_at files seen f 8 (bad_types f) (rule_8 files seen f) c.in_ok-place-3.field-0 c.in_ok-place-3.ensures 6 kept_7
    8 c.in-Some-3.place (omega arith) (omega arith) c.in-Some-3.is

pub returns-in-None : goal.returns-in-None
returns-in-None g c =
    let f = c.args.parts.now in
    let files = g.P.Pooled.files c.args.pool.now in
    let seen = g.V.Visible.files c.args.seen.now in
    let kept_6 =
    kept_at files seen f 6 (bad_numbers files seen f) (rule_6 files seen f) c.in_ok-place.field-0 c.in_ok-place.ensures
    6 (start files seen f 6) c.in_default.is in
    let kept_7 =
    kept_at files seen f 7 (unbound_names seen f) (rule_7 files seen f) c.in_ok-place-2.field-0 c.in_ok-place-2.ensures 6 kept_6 c.in_default-2.is in
    let kept_8 =
    kept_at files seen f 8 (bad_types f) (rule_8 files seen f) c.in_ok-place-3.field-0 c.in_ok-place-3.ensures 6 kept_7 c.in-None.is in
    kept_8
