use Rattle.protox_run.proofs.Left.{others_stay, written_or_open}
use Rattle.protox_run.proofs.laws.stopped_run_leaves.Goals as goal

pub returns-clause-others : goal.returns-clause-others
returns-clause-others c = others_stay

pub returns-clause-own : goal.returns-clause-own
returns-clause-own c = written_or_open
