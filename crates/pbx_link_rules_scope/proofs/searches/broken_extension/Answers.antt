use Rattle.pbx_link_rules_scope.proofs.Searched.{part_here}
use Rattle.pbx_link_rules_scope.proofs.searches.broken_extension.Goals as goal

pub returns-then-branch : goal.returns-then-branch
returns-then-branch g c =
    part_here (g.R.Rule.breaks c.args.rule.now) c.args.number c.args.extensions.now c.loop-extension.extension-index c.extension-item.result
    c.loop-extension-test.true c.extension-item.is c.loop-extension.invariant c.scope.result.now c.scope.ensures c.item.result.now c.item.ensures
    c.in_ok-is_broken.field-0 c.in_ok-is_broken.ensures c.if-branch.true c.in_ok-at.field-0 c.in_ok-at.ensures
