use Rattle.protox_file_sources.proofs.Lookups.{looked_up}
use Rattle.protox_file_sources.proofs.file.looked_up_once.Goals as goal

pub returns : goal.returns
returns c = looked_up c.at_most_one.ensures
