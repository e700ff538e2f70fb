use Rattle.pbx_link_meaning.specs.Shapes.{shape_of}
use Rattle.pbx_message_dynamic.specs.Given.{HoldsPair}
use Rattle.pbx_message_dynamic.proofs.GivenMaps.{one_holds, given_more, all_given}
use Rattle.pbx_message_dynamic.proofs.giving.map_value.Goals as goal

pub value_of-requires-clause-sound : goal.value_of-requires-clause-sound
value_of-requires-clause-sound c =
    one_holds (HoldsPair (shape_of c.args.value_type.now.holder.pool) c.args.value_type.now.kind) c.args.pairs.now c.loop-pair.pair-index c.pair-item.result
    (rw c.as_slice-pair-items.ensures at c.loop-pair-test.true) (rw c.as_slice-pair-items.ensures at c.pair-item.is) c.requires.sound

pub loop-pair-preserved : goal.loop-pair-preserved
loop-pair-preserved c =
    rw c.in-Ok.ensures (given_more c.args.value_type.now.holder.pool c.args.key_kind c.args.value_type.now.kind c.args.pairs.now c.loop-pair.pair-index c.loop-pair.values
    c.pair-item.result c.in_ok-key.key c.in_ok-value.value (rw c.as_slice-pair-items.ensures at c.loop-pair-test.true) (rw c.as_slice-pair-items.ensures at c.pair-item.is)
    c.requires.order c.loop-pair.invariant c.in_ok-key.ensures c.in_ok-value.ensures)

pub returns : goal.returns
returns c =
    all_given c.args.value_type.now.holder.pool c.args.key_kind c.args.value_type.now.kind c.args.pairs.now c.loop-pair.pair-index c.loop-pair.values
    (rw c.as_slice-pair-items.ensures at c.loop-pair-test.false) c.loop-pair.invariant
