use Rattle.std.proofs.Common.{Option, None, Some, subst, arith}
use Rattle.std.proofs.lemmas.Result.{IfOk-weaker}
use Rattle.pbx_link_rules.specs.declared.breach.Breach.{Breach}
use Rattle.pbx_link_rules.specs.Breaches.{IsFirstOf}
use Rattle.pbx_link_rules.proofs.First.{wider, behind}
use Rattle.pbx_link_rules.proofs.searches.first_breach.Goals as goal

pub returns-in-Some-2 : goal.returns-in-Some-2
returns-in-Some-2 g c =
    let files = g.P.Pooled.files c.args.pool.now in
    let seen = g.V.Visible.files c.args.seen.now in
    let f = c.args.parts.now in
    behind files seen f 6 8 16 (Some c.in-Some-2.breach) (omega arith)
    (subst (λ (o : Option Breach). IsFirstOf files seen f 6 8 o) c.in_default.is c.in_ok-breach.ensures)
    (wider files seen f 9 12 16 c.in-Some-2.breach (omega arith)
    (subst (λ (o : Option Breach). IsFirstOf files seen f 9 12 o) c.in-Some-2.is (c.in_ok-breach-2.ensures files)))

pub returns : goal.returns
returns g c =
    let files = g.P.Pooled.files c.args.pool.now in
    let seen = g.V.Visible.files c.args.seen.now in
    let f = c.args.parts.now in
    let none = behind files seen f 6 8 12 None (omega arith)
    (subst (λ (o : Option Breach). IsFirstOf files seen f 6 8 o) c.in_default.is c.in_ok-breach.ensures)
    (subst (λ (o : Option Breach). IsFirstOf files seen f 9 12 o) c.in_default-2.is (c.in_ok-breach-2.ensures files)) in
    IfOk-weaker c.option_breach.result (IsFirstOf files seen f 13 16) (IsFirstOf files seen f 6 16)
    (λ o h. behind files seen f 6 12 16 o (omega arith) none h) (c.option_breach.ensures files seen)
