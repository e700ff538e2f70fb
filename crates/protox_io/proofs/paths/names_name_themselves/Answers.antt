use Rattle.protox_io.proofs.Again.{name_again}
use Rattle.protox_io.proofs.paths.names_name_themselves.Goals as goal

pub returns : goal.returns
returns c = name_again
