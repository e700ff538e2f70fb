use Rattle.protox_file.proofs.Joined as joined
use Rattle.protox_file.proofs.laws.chains_join.Goals as goal

pub returns : goal.returns
returns c = joined.chains_join
