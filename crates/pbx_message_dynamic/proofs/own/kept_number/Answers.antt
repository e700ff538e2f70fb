use Rattle.pbx_message_laws.specs.Pools.{IsPooled}
use Rattle.pbx_message_dynamic.proofs.Named.{kept_target}
use Rattle.pbx_message_dynamic.proofs.own.kept_number.Goals as goal

pub returns : goal.returns
returns c =
    let here = c.parent_pool-pool.ensures in
    let of : IsPooled c.args.desc.now = record { pooled = rw here.pool at here.pooled; within = rw here.pool at here.of_it } in
    kept_target c.args.desc.now c.args.name.now c.field_number.result c.fields_of_messages.ensures.named c.fields_of_messages.ensures.fields of c.field_number.ensures
