use Rattle.protox_compile_walk.proofs.Pooled.{closed_are_ordered}
use Rattle.protox_compile_walk.proofs.laws.closed_are_ordered.Goals as goal

pub returns : goal.returns
returns c = closed_are_ordered
