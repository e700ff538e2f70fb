use Rattle.pbx_wire.proofs.Written.{written_spelled}
use Rattle.pbx_wire.proofs.spelling.written_is_spelled.Goals as goal

pub returns : goal.returns
returns c = written_spelled
