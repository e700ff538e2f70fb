use Rattle.pbx_content.specs.Shape.{fields_of}
use Rattle.pbx_message_dynamic.proofs.Noting.{member_noted, none_noted}
use Rattle.pbx_message_dynamic.proofs.members.members_in.Goals as goal
use Rattle.pbx_message_dynamic.proofs.members.members_in.Goals.{in-Some+in_ok-put, in_default}

pub loop-field-preserved : goal.loop-field-preserved
loop-field-preserved c =
    elim c.match-oneof_of.branch [
      | in-Some+in_ok-put w ↦ rw w.members-is (member_noted (fields_of c.args.schema.now c.args.place) c.args.fields.now c.loop-field.field-index w.in-Some.oneof c.field-item.result
          c.loop-field.members w.put.new.self c.requires c.loop-field-test.true c.field-item.is c.loop-field.invariant w.in-Some.ensures w.in_ok-put.ensures.ok)
      | in_default w ↦ rw w.members-is (none_noted (fields_of c.args.schema.now c.args.place) c.args.fields.now c.loop-field.field-index c.field-item.result
          c.loop-field.members c.loop-field-test.true c.field-item.is c.loop-field.invariant w.in_default.ensures)
    ]
