use Rattle.protox_compile_walk.proofs.Again.{again}
use Rattle.protox_compile_walk.proofs.laws.opening_again_marks.Goals as goal

pub returns : goal.returns
returns c = again
