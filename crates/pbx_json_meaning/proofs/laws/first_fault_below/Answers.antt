use Rattle.pbx_json_meaning.proofs.First.{first_fault_below}
use Rattle.pbx_json_meaning.proofs.laws.first_fault_below.Goals as goal

pub returns : goal.returns
returns c = first_fault_below
