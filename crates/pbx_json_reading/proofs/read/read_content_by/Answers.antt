use Rattle.std.proofs.Common.{not}
use Rattle.serde_json.specs.View.{view}
use Rattle.pbx_json_reading.proofs.Members.{told_content, told_nothing, told_first}
use Rattle.pbx_json_reading.proofs.Answered.{ok_told, err_told}
use Rattle.pbx_content_codec.specs.View.{content_of}
use Rattle.pbx_json_reading.proofs.read.read_content_by.Goals as goal

pub returns-clause-stands : goal.returns-clause-stands
returns-clause-stands c =
    told_content c.message_is_told.ensures c.args.schema.now c.args.place (not c.args.options.now.deny_unknown_fields) (view c.args.tree.now) c.shape.ensures.proper
    c.read_message.result (ok_told content_of _ _ c.read_message.ensures.told)

pub returns-clause-fault : goal.returns-clause-fault
returns-clause-fault c =
    told_first c.fault_is_first.ensures c.args.schema.now c.args.place (not c.args.options.now.deny_unknown_fields) (view c.args.tree.now) c.shape.ensures.proper
    c.read_message.result (err_told content_of _ _ c.read_message.ensures.told)

pub returns-clause-refused : goal.returns-clause-refused
returns-clause-refused c =
    told_nothing c.message_is_told.ensures c.args.schema.now c.args.place (not c.args.options.now.deny_unknown_fields) (view c.args.tree.now) c.shape.ensures.proper
    c.read_message.result (err_told content_of _ _ c.read_message.ensures.told)
