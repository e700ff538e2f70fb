use Rattle.std.proofs.Common.{Some, subst}
use Rattle.pbx_link_rules.specs.Breaches.{IsFirstOf}
use Rattle.pbx_link_pool.proofs.linking.link_visible.Goals as goal

pub returns-in-Ok-Some-clause-refused : goal.returns-in-Ok-Some-clause-refused
returns-in-Ok-Some-clause-refused c =
    let files = c.args.pool.now in
    let f = c.args.parts.now in
    c.breach_is_first.ensures.behind files f c.in-Ok-Some.breach c.requires.alone
    (subst (λ seen. IsFirstOf files seen f 6 16 (Some c.in-Ok-Some.breach)) c.requires.seen
    (subst (λ found. IsFirstOf files c.args.seen.now f 6 16 found) c.in-Ok-Some.field-0-is c.in-Ok-Some.ensures))
