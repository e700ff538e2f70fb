use Rattle.pbx_link_rules_record.specs.RangeRules.{bad_message_ranges}
use Rattle.pbx_link_rules_record.proofs.Walked.{flat_here, flat_next}
use Rattle.pbx_link_rules_record.proofs.range_rules.in_messages.Goals as goal

pub returns-in-Some : goal.returns-in-Some
returns-in-Some c =
    flat_here (bad_message_ranges c.args.proto3) c.args.messages.now c.loop-part.part-index c.part-item.result _ c.in_ok-place.field-0 c.in-Some.place c.loop-part.invariant c.loop-part-test.true c.part-item.is c.in_ok-place.ensures c.in-Some.is

pub loop-part-preserved : goal.loop-part-preserved
loop-part-preserved c =
    flat_next (bad_message_ranges c.args.proto3) c.args.messages.now c.loop-part.part-index c.part-item.result _ c.in_ok-place.field-0 c.loop-part.invariant c.loop-part-test.true c.part-item.is c.in_ok-place.ensures c.in_default.is
