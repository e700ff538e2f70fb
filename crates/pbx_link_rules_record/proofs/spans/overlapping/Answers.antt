use Rattle.std.proofs.Common.{ℕ, List, Option, Some, None, subst}
use Rattle.std.specs.List.Sorted.{IsPermutation}
use Rattle.pbx_link_rules_record.specs.declared.spans.Span.{Span}
use Rattle.pbx_link_definitions.specs.Ranges.{Range}
use Rattle.pbx_link_rules_record.specs.RangeRules.{share_number}
use Rattle.pbx_link_definitions.specs.Found.{IsIndex, is_earlier}
use Rattle.pbx_link_rules_record.specs.Spans.{IsSortedByStart, IsSharedIn}
use Rattle.pbx_link_rules_record.proofs.Overlaps.{all_spans, overlap_found, overlap_none}
use Rattle.pbx_link_rules_record.proofs.spans.overlapping.Goals as goal

answered : (rs : List Range) (ss : List Span) (o : Option ℕ) → IsPermutation (all_spans rs) ss → IsSortedByStart ss → IsSharedIn ss o → IsIndex (is_earlier share_number rs) rs o
answered rs ss None p up h = overlap_none rs ss p (h up)
answered rs ss (Some i) p up h = overlap_found rs ss i p (h up)

pub returns : goal.returns
returns c =
    answered c.args.ranges.now c.in_ok-spans.spans.items c.shared.result c.in_ok-spans.ensures.permutation c.in_ok-spans.ensures.sorted
    (subst (λ (l : List Span). IsSharedIn l c.shared.result) c.as_slice.ensures.value c.shared.ensures)
