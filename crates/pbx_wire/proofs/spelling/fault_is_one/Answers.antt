use Rattle.pbx_wire.proofs.Breaking.{one_fault}
use Rattle.pbx_wire.proofs.spelling.fault_is_one.Goals as goal

pub returns : goal.returns
returns c = one_fault
