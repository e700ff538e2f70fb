use Rattle.pbx_link_rules_record.specs.OptionRules.{uninterpreted_in_enum}
use Rattle.pbx_link_rules_record.proofs.Walked.{flat_here, flat_next}
use Rattle.pbx_link_rules_record.proofs.uninterpreted.in_enums.Goals as goal

pub returns-in-Some : goal.returns-in-Some
returns-in-Some c =
    flat_here uninterpreted_in_enum c.args.enums.now c.loop-part.part-index c.part-item.result _ c.in_ok-place.field-0 c.in-Some.place c.loop-part.invariant c.loop-part-test.true c.part-item.is c.in_ok-place.ensures c.in-Some.is

pub loop-part-preserved : goal.loop-part-preserved
loop-part-preserved c =
    flat_next uninterpreted_in_enum c.args.enums.now c.loop-part.part-index c.part-item.result _ c.in_ok-place.field-0 c.loop-part.invariant c.loop-part-test.true c.part-item.is c.in_ok-place.ensures c.in_default.is
