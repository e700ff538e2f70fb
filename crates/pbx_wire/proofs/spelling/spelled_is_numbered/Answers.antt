use Rattle.pbx_wire.proofs.Writable.{spelled_numbered, spelled_fit, front_numbered}
use Rattle.pbx_wire.proofs.spelling.spelled_is_numbered.Goals as goal

pub returns-clause-numbered : goal.returns-clause-numbered
returns-clause-numbered c = spelled_numbered

pub returns-clause-fit : goal.returns-clause-fit
returns-clause-fit c = spelled_fit

pub returns-clause-front : goal.returns-clause-front
returns-clause-front c = front_numbered
