use Rattle.std.proofs.Common.{length}
use Rattle.pbx_json_reading.proofs.Empty.{some_members, not_zero}
use Rattle.pbx_json_reading.proofs.opened.no_members.Goals as goal

pub returns-else-is_empty : goal.returns-else-is_empty
returns-else-is_empty c = some_members c.args.members.now.entries (not_zero c.is_empty.result (length c.args.members.now.entries) c.is_empty.ensures c.if-is_empty.false)
