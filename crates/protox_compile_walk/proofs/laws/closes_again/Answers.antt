use Rattle.protox_compile_walk.proofs.WalkAgain.{closes_again}
use Rattle.protox_compile_walk.proofs.laws.closes_again.Goals as goal

pub returns : goal.returns
returns c = closes_again
