use Rattle.pbx_wkt_laws.proofs.Kept.{files_linked}
use Rattle.pbx_wkt_laws.proofs.files_are_linked.Goals as goal

pub returns : goal.returns
returns c = files_linked
