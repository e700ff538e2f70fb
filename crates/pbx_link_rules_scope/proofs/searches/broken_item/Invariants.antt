use Rattle.pbx_link_rules_scope.proofs.Searched.{NonePasses}
use Rattle.pbx_link_rules_scope.proofs.searches.broken_item.Given as goal

abbrev pub invariant-loop-index : goal.invariant-loop-index
invariant-loop-index g l = NonePasses (g.R.Rule.breaks l.rule l.scope) l.items l.index
