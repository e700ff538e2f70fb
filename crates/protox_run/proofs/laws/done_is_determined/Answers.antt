use Rattle.protox_run.proofs.Determined.{done_alone, done_once, no_set_alone}
use Rattle.protox_run.proofs.laws.done_is_determined.Goals as goal

pub returns-clause-alone : goal.returns-clause-alone
returns-clause-alone c = done_alone c.opens_once.ensures.paths c.sets_are_read_once.ensures.once

pub returns-clause-once : goal.returns-clause-once
returns-clause-once c = done_once c.opens_once.ensures.paths c.sets_are_read_once.ensures.once

pub returns-clause-set : goal.returns-clause-set
returns-clause-set c = no_set_alone
