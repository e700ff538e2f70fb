use Rattle.pbx_message_dynamic.proofs.GivenValues.{AreGiven}
use Rattle.pbx_message_dynamic.proofs.giving.list_value.Given as goal

abbrev pub invariant-loop-held : goal.invariant-loop-held
invariant-loop-held l = AreGiven l.value_type.holder.pool l.value_type.kind l.list l.held-index l.values
