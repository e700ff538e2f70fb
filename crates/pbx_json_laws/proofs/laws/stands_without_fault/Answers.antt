use Rattle.pbx_json_laws.proofs.FaultFound.{stands_without_fault}
use Rattle.pbx_json_laws.proofs.laws.stands_without_fault.Goals as goal

pub returns : goal.returns
returns c = stands_without_fault
