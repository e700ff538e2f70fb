use Rattle.pbx_wire.proofs.Breaking.{are_spelled}
use Rattle.pbx_wire.proofs.spelling.records_are_spelled.Goals as goal

pub returns : goal.returns
returns c = are_spelled
