use Rattle.protox_io.proofs.Below.{resolved_below}
use Rattle.protox_io.proofs.paths.resolved_stand_below.Goals as goal

pub returns : goal.returns
returns c = resolved_below
