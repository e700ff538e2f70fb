use Rattle.std.proofs.Common.{ap}
use Rattle.pbx_message_dynamic.specs.Message.{Dynamic}
use Rattle.pbx_message_dynamic.proofs.Targets.{set_own, refused_own}
use Rattle.pbx_message_dynamic.proofs.message.DynamicMessage.set_extension.Goals as goal

pub returns-in-Some-clause-set : goal.returns-in-Some-clause-set
returns-in-Some-clause-set c =
    set_own c.args.self.now c.set_number.new.self _ c.in-Some.number c.args.value c.set_number.result (rw (ap (λ (m : Dynamic). m.of) c.self.view_is) at c.in-Some.ensures)
    c.set_number.ensures.set

pub returns-in-Some-clause-refused : goal.returns-in-Some-clause-refused
returns-in-Some-clause-refused c =
    refused_own c.args.self.now _ c.in-Some.number c.args.value c.set_number.result (rw (ap (λ (m : Dynamic). m.of) c.self.view_is) at c.in-Some.ensures)
    c.set_number.ensures.refused

pub returns-in-None-clause-refused : goal.returns-in-None-clause-refused
returns-in-None-clause-refused c = rw (ap (λ (m : Dynamic). m.of) c.self.view_is) at c.in-None.ensures
