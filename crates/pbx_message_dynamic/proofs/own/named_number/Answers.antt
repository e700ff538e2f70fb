use Rattle.pbx_message_laws.specs.Pools.{IsPooled}
use Rattle.pbx_message_dynamic.proofs.Named.{number_target}
use Rattle.pbx_message_dynamic.proofs.own.named_number.Goals as goal

pub returns-in-Some : goal.returns-in-Some
returns-in-Some c =
    let here = c.parent_pool-pool.ensures in
    let of : IsPooled c.args.desc.now = record { pooled = rw here.pool at here.pooled; within = rw here.pool at here.of_it } in
    number_target c.args.desc.now c.args.name.now c.in-Some.number c.fields_of_messages.ensures.named c.fields_of_messages.ensures.fields of c.in-Some.ensures
