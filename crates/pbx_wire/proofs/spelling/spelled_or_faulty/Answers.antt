use Rattle.pbx_wire.proofs.Breaking.{either, not_both}
use Rattle.pbx_wire.proofs.spelling.spelled_or_faulty.Goals as goal

pub returns-clause-either : goal.returns-clause-either
returns-clause-either c = either

pub returns-clause-not_both : goal.returns-clause-not_both
returns-clause-not_both c = not_both
