use Rattle.std.proofs.Common.{subst}
use Rattle.pbx_link.specs.Pool.{IsRefused}
use Rattle.pbx_wkt.proofs.Grown.{none_breaks}
use Rattle.pbx_wkt.proofs.pool.add.Goals as goal

pub unreachable-requires : goal.unreachable-requires
unreachable-requires c =
    none_breaks c.args.pool.now c.args.file c.in-Err-Rule.field-0-2 c.in-Err-Rule.field-0-1 c.requires
    (subst (IsRefused c.args.pool.now c.args.file) c.in-Err-Rule.field-0-is c.in-Err-Rule.ensures.refused).1
