use Rattle.protox_run.specs.Told.{stop_told}
use Rattle.protox_run.proofs.Judged.{number_stop}
use Rattle.protox_run.proofs.plan.generate.Goals as goal

pub returns-in-Err-clause-stop : goal.returns-in-Err-clause-stop
returns-in-Err-clause-stop c = number_stop c.args.number c.in-Err.error (stop_told c.stop_of-stop.result) c.stop_of-stop.ensures c.in-Err.ensures.settled c.in-Err.ensures.err
