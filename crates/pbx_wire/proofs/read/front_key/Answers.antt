use Rattle.pbx_wire.proofs.Fronts.{front_is, front_none}
use Rattle.pbx_wire.proofs.read.front_key.Goals as goal

pub returns-in-Ok : goal.returns-in-Ok
returns-in-Ok c = front_is 0 c.args.bytes.now c.in-Ok.key _ c.in-Ok.ensures

pub returns-in-Err : goal.returns-in-Err
returns-in-Err c = front_none 0 c.args.bytes.now c.in-Err.field-0 c.in-Err.ensures
