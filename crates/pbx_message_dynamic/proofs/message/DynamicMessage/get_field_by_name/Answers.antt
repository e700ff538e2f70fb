use Rattle.std.proofs.Common.{ap}
use Rattle.pbx_message_dynamic.specs.Message.{Dynamic}
use Rattle.pbx_message_dynamic.proofs.Gets.{got_own, got_none}
use Rattle.pbx_message_dynamic.proofs.message.DynamicMessage.get_field_by_name.Goals as goal

pub returns-in-Some : goal.returns-in-Some
returns-in-Some c = got_own c.args.self.now _ c.in-Some.number c.get_number.result (rw (ap (λ (m : Dynamic). m.of) c.self.view_is) at (rw c.in-Some.is at c.in_ok-number.ensures)) c.get_number.ensures

pub returns-in-None : goal.returns-in-None
returns-in-None c = got_none c.args.self.now _ (rw (ap (λ (m : Dynamic). m.of) c.self.view_is) at (rw c.in-None.is at c.in_ok-number.ensures))
