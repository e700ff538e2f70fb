use Rattle.protox_compile_walk.proofs.Joined.{opens_once, closes_once}
use Rattle.protox_compile_walk.proofs.laws.opens_once.Goals as goal

pub returns-clause-path : goal.returns-clause-path
returns-clause-path c = opens_once c.looked_up_once.ensures

pub returns-clause-paths : goal.returns-clause-paths
returns-clause-paths c = closes_once c.looked_up_once.ensures
