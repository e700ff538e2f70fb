use Rattle.protox_compile.proofs.RepeatsAgain as again
use Rattle.protox_compile.proofs.laws.names_repeat_as_paths.Goals as goal

pub returns : goal.returns
returns c = again.names_repeat_as_paths
