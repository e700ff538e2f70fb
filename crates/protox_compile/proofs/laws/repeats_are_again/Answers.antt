use Rattle.protox_compile.proofs.Repeats.{repeats_are_again}
use Rattle.protox_compile.proofs.laws.repeats_are_again.Goals as goal

pub returns : goal.returns
returns c = repeats_are_again
