use Rattle.pbx_link_meaning.specs.Shapes.{shape_of}
use Rattle.pbx_message_dynamic.specs.Given.{HoldsSound}
use Rattle.pbx_message_dynamic.proofs.GivenValues.{one_sound, given_more, all_given}
use Rattle.pbx_message_dynamic.proofs.giving.list_value.Goals as goal

pub value_of-requires-clause-sound : goal.value_of-requires-clause-sound
value_of-requires-clause-sound c =
    one_sound (HoldsSound (shape_of c.args.value_type.now.holder.pool) c.args.value_type.now.kind) c.args.list.now c.loop-held.held-index c.held-item.result
    (rw c.as_slice-held-items.ensures at c.loop-held-test.true) (rw c.as_slice-held-items.ensures at c.held-item.is) c.requires.sound

pub loop-held-preserved : goal.loop-held-preserved
loop-held-preserved c =
    rw c.in_ok-add.ensures.ok (given_more c.args.value_type.now.holder.pool c.args.value_type.now.kind c.args.list.now c.loop-held.held-index c.loop-held.values
    c.held-item.result c.in_ok-value_of.field-0 (rw c.as_slice-held-items.ensures at c.loop-held-test.true) (rw c.as_slice-held-items.ensures at c.held-item.is)
    c.loop-held.invariant c.in_ok-value_of.ensures)

pub returns : goal.returns
returns c =
    all_given c.args.value_type.now.holder.pool c.args.value_type.now.kind c.args.list.now c.loop-held.held-index c.loop-held.values
    (rw c.as_slice-held-items.ensures at c.loop-held-test.false) c.loop-held.invariant
