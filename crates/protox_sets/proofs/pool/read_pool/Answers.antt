use Rattle.protox_sets.proofs.Refusals.{pool_stops}
use Rattle.protox_sets.proofs.pool.read_pool.Goals as goal

pub returns-in-Ok-Bytes-clause-stop : goal.returns-in-Ok-Bytes-clause-stop
returns-in-Ok-Bytes-clause-stop g c tells =
    pool_stops (g.D.Disk.volume c.args.disk.now) c.args.path.now c.in-Ok-Bytes.bytes c.pool_of.result (rw c.in-Ok-Bytes.field-0-is at (c.in-Ok-Bytes.ensures.told tells)) (rw c.as_slice.ensures at c.pool_of.ensures.stop)
