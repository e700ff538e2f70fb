use Rattle.protox_compile_laws.proofs.Retried.{begins, accepted, refused, reported}
use Rattle.protox_compile_laws.proofs.tries.tries_are_one.Goals as goal

pub returns-clause-begins : goal.returns-clause-begins
returns-clause-begins c = begins

pub returns-clause-accepted : goal.returns-clause-accepted
returns-clause-accepted c = accepted c.looked_up_once.ensures

pub returns-clause-refused : goal.returns-clause-refused
returns-clause-refused c = refused c.looked_up_once.ensures

pub returns-clause-reported : goal.returns-clause-reported
returns-clause-reported c = reported
