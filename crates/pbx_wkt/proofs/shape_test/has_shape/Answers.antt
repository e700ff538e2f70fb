use Rattle.std.proofs.Common.{◌∙◌}
use Rattle.pbx_message_laws.specs.Pools.{IsPooled}
use Rattle.pbx_wkt.proofs.Whole.{shape_alike}
use Rattle.pbx_wkt.proofs.shape_test.has_shape.Goals as goal

pub returns : goal.returns
returns c =
    let here = c.parent_pool-pool.ensures in
    let of : IsPooled c.args.desc.now = record { pooled = rw here.pool at here.pooled; within = rw here.pool at here.of_it } in
    c.is_shaped.ensures ∙ shape_alike c.args.desc.now of
