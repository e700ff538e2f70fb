use Rattle.std.proofs.Common.{◌∙◌}
use Rattle.pbx_link_rules_record.proofs.Overlaps.{spans_more}
use Rattle.pbx_link_rules_record.proofs.spans.spans.Goals as goal

pub loop-index-preserved : goal.loop-index-preserved
loop-index-preserved c =
    c.in_ok-push.ensures.items
    ∙ spans_more c.args.ranges.now c.loop-index.index c.index-ranges-index.result c.indexed.result c.loop-index.spans.items c.loop-index-test.true c.index-ranges-index.is c.indexed.ensures c.loop-index.invariant
