use Rattle.pbx_json_laws.proofs.WriteFound.{canonical_without_fault}
use Rattle.pbx_json_laws.proofs.laws.canonical_without_fault.Goals as goal

pub returns : goal.returns
returns c = canonical_without_fault
