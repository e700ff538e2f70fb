use Rattle.std.specs.List.{flat_map}
use Rattle.pbx_link_definitions.specs.Definitions.{extensions}
use Rattle.pbx_link_pool.proofs.Found.{none_extended}
use Rattle.pbx_link_pool.proofs.pool.PoolPooled.is_extended.Goals as goal

pub returns-in-None : goal.returns-in-None
returns-in-None c = none_extended c.args.extendee.now c.args.number (flat_map extensions c.args.self.now) (cc)
