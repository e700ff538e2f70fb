use Rattle.pbx_json_laws.proofs.Fitting.{fitting_is_written}
use Rattle.pbx_json_laws.proofs.laws.fitting_is_written.Goals as goal

pub returns : goal.returns
returns c = fitting_is_written
