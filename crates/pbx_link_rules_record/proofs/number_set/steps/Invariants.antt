use Rattle.pbx_link_rules_record.proofs.Reaching.{AreStepsTo, IsReach}
use Rattle.pbx_link_rules_record.proofs.number_set.steps.Given as goal

abbrev pub invariant-loop-span : goal.invariant-loop-span
invariant-loop-span l = record {
  done : AreStepsTo l.spans l.steps.items l.span-index;
  reach : IsReach l.spans l.span-index l.reach;
}
