use Rattle.std.proofs.Common.{sym}
use Rattle.pbx_message_dynamic.proofs.Sets.{own_number}
use Rattle.pbx_message_dynamic.proofs.setting.set_numbered.Goals as goal

pub put_value-requires-clause-own : goal.put_value-requires-clause-own
put_value-requires-clause-own c = own_number c.args.schema.now c.place-place.result c.args.number c.in-Some.field.now (sym c.in-Some.ensures)
