use Rattle.std.proofs.Common.{subst}
use Rattle.pbx_link_scope.specs.Scope.{visible}
use Rattle.pbx_link_rules.specs.Breaches.{IsFirstOf}
use Rattle.pbx_link_pool.proofs.linking.link_parts.Goals as goal

pub returns-in-Ok-Some-clause-refused : goal.returns-in-Ok-Some-clause-refused
returns-in-Ok-Some-clause-refused c =
    let files = c.args.pool.now in
    let f = c.args.parts.now in
    c.breach_is_first.ensures.alone files f c.in-Ok-Some.breach (subst (λ found. IsFirstOf files (visible files f) f 1 5 found) c.in-Ok-Some.field-0-is c.in-Ok-Some.ensures)
