use Rattle.pbx_content.proofs.FaultyAlone.{rec_means_nothing}
use Rattle.pbx_content.proofs.laws.rec_means_nothing.Goals as goal

pub returns : goal.returns
returns c = rec_means_nothing
