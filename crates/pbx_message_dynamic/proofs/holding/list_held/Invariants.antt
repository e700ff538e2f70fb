use Rattle.std.proofs.Common.{◌≡◌, ◌++◌}
use Rattle.pbx_message_dynamic.proofs.Items.{AreHeld}
use Rattle.pbx_message_dynamic.proofs.holding.list_held.Given as goal

abbrev pub invariant-loop-value : goal.invariant-loop-value
invariant-loop-value l =
    AreHeld l.value_type.holder.pool l.value_type.kind l.yielded l.list × (l.fn.values ≡ l.yielded ++ l.value-iterator.rest.items)
