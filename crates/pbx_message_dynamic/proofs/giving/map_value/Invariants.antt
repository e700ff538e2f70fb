use Rattle.pbx_message_dynamic.proofs.GivenMaps.{AreGivenPairs}
use Rattle.pbx_message_dynamic.proofs.giving.map_value.Given as goal

abbrev pub invariant-loop-pair : goal.invariant-loop-pair
invariant-loop-pair l = AreGivenPairs l.value_type.holder.pool l.key_kind l.value_type.kind l.pairs l.pair-index l.values
