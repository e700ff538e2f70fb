use Rattle.std.proofs.Common.{◌≡◌, ◌++◌}
use Rattle.pbx_message_dynamic.proofs.Items.{AreHeldPairs}
use Rattle.pbx_message_dynamic.proofs.holding.map_held.Given as goal

abbrev pub invariant-loop-key : goal.invariant-loop-key
invariant-loop-key l =
    AreHeldPairs l.value_type.holder.pool l.key_kind l.value_type.kind l.yielded l.pairs × (l.fn.map ≡ l.yielded ++ l.key-iterator.rest.items)
