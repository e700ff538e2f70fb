use Rattle.pbx_content.proofs.Settled.{same_written}
use Rattle.pbx_content.proofs.laws.same_is_written_alike.Goals as goal

pub returns : goal.returns
returns c = same_written
