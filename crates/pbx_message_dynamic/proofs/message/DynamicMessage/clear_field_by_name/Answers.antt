use Rattle.std.proofs.Common.{ap}
use Rattle.pbx_message_dynamic.specs.Message.{Dynamic}
use Rattle.pbx_message_dynamic.proofs.Targets.{cleared_own, cleared_none}
use Rattle.pbx_message_dynamic.proofs.message.DynamicMessage.clear_field_by_name.Goals as goal

pub returns-in-Some : goal.returns-in-Some
returns-in-Some c = cleared_own c.args.self.now c.clear_number.new.self _ c.in-Some.number (rw (ap (λ (m : Dynamic). m.of) c.self.view_is) at c.in-Some.ensures) c.clear_number.ensures

pub returns-in-None : goal.returns-in-None
returns-in-None c = cleared_none c.args.self.now _ (rw (ap (λ (m : Dynamic). m.of) c.self.view_is) at c.in-None.ensures)
