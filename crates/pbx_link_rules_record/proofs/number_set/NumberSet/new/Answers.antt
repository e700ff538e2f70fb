use Rattle.std.proofs.Common.{List, map, refl, subst}
use Rattle.std.specs.List.{enumerate_from}
use Rattle.pbx_link_rules_record.specs.declared.spans.Span.{Span}
use Rattle.pbx_link_rules_record.specs.Spans.{AreSteps, span_of}
use Rattle.pbx_link_rules_record.proofs.Reaching.{set_of}
use Rattle.pbx_link_rules_record.proofs.number_set.NumberSet.new.Goals as goal

pub invariant_of-result : goal.invariant_of-result
invariant_of-result c =
    (set_of c.args.ranges.now (map span_of (enumerate_from 0 c.args.ranges.now)) c.in_ok-spans.spans.items c.in_ok-steps.field-0.items
    refl c.in_ok-spans.ensures.permutation c.in_ok-spans.ensures.sorted
    (subst (λ (l : List Span). AreSteps l c.in_ok-steps.field-0.items) c.as_slice.ensures.value c.in_ok-steps.ensures)).0

pub returns : goal.returns
returns c = λ z.
    (set_of c.args.ranges.now (map span_of (enumerate_from 0 c.args.ranges.now)) c.in_ok-spans.spans.items c.in_ok-steps.field-0.items
    refl c.in_ok-spans.ensures.permutation c.in_ok-spans.ensures.sorted
    (subst (λ (l : List Span). AreSteps l c.in_ok-steps.field-0.items) c.as_slice.ensures.value c.in_ok-steps.ensures)).1 z
