use Rattle.pbx_json_walk.proofs.Told.{fault_is_first}
use Rattle.pbx_json_walk.proofs.laws.fault_is_first.Goals as goal

pub returns : goal.returns
returns c = fault_is_first c.first_fault_here.ensures c.first_fault_at_key.ensures c.first_fault_below.ensures
