-- Pools without files.
use Rattle.std.specs.Prelude.{[]}
use Rattle.pbx_link_rules.specs.Pool.{ArePooled}

pub none_pooled : ArePooled [] []
unfolding ArePooled
none_pooled = tt
