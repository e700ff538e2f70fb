use Rattle.pbx_json_meaning.proofs.First.{first_fault_at_key}
use Rattle.pbx_json_meaning.proofs.laws.first_fault_at_key.Goals as goal

pub returns : goal.returns
returns c = first_fault_at_key
