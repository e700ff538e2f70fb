use Rattle.std.proofs.Common.{ap}
use Rattle.pbx_message_dynamic.specs.Message.{Dynamic}
use Rattle.pbx_message_dynamic.proofs.Targets.{has_own, has_none}
use Rattle.pbx_message_dynamic.proofs.message.DynamicMessage.has_extension.Goals as goal

pub returns-in-Some : goal.returns-in-Some
returns-in-Some c = has_own c.args.self.now _ c.in-Some.number c.has_number.result (rw (ap (λ (m : Dynamic). m.of) c.self.view_is) at c.in-Some.ensures) c.has_number.ensures

pub returns-in-None : goal.returns-in-None
returns-in-None c = has_none c.args.self.now _ (rw (ap (λ (m : Dynamic). m.of) c.self.view_is) at c.in-None.ensures)
