use Rattle.pbx_message_laws.specs.Pools.{IsPooled}
use Rattle.pbx_message_dynamic.proofs.Targets.{own_extension}
use Rattle.pbx_message_dynamic.proofs.own.extension_number.Goals as goal

pub returns-then-is_same : goal.returns-then-is_same
returns-then-is_same c =
    let here = c.parent_pool-pool.ensures in
    let there = c.parent_pool-other.ensures in
    let found = c.containing_message-extended.ensures in
    let of : IsPooled c.args.desc.now = record { pooled = rw here.pool at here.pooled; within = rw here.pool at here.of_it } in
    let by : IsPooled c.containing_message-extended.result = record { pooled = rw there.pool at there.pooled; within = rw there.pool at there.of_it } in
    rw c.number.ensures (own_extension c.args.desc.now c.containing_message-extended.result c.args.field.now c.messages_are_placed.ensures.same c.fields_of_messages.ensures.extensions
    of by (c.is_same.ensures.0 c.if-is_same.true) found.extended found.of_it)
