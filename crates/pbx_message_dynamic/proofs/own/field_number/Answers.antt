use Rattle.pbx_message_laws.specs.Pools.{IsPooled}
use Rattle.pbx_message_dynamic.proofs.Targets.{own_field}
use Rattle.pbx_message_dynamic.proofs.own.field_number.Goals as goal

pub returns-then-is_same : goal.returns-then-is_same
returns-then-is_same c =
    let here = c.parent_pool-pool.ensures in
    let there = c.parent_pool-other.ensures in
    let found = c.parent_message-parent.ensures in
    let of : IsPooled c.args.desc.now = record { pooled = rw here.pool at here.pooled; within = rw here.pool at here.of_it } in
    let by : IsPooled c.parent_message-parent.result = record { pooled = rw there.pool at there.pooled; within = rw there.pool at there.of_it } in
    rw c.number.ensures (own_field c.args.desc.now c.parent_message-parent.result c.args.field.now c.messages_are_placed.ensures.same c.fields_of_messages.ensures.fields
    of by (c.is_same.ensures.0 c.if-is_same.true) found.parent found.of_it)
