use Rattle.protox_run.proofs.report.say_refusal.Goals as goal

pub returns-in-TooLong-clause-said : goal.returns-in-TooLong-clause-said
returns-in-TooLong-clause-said g c = rw c.in-TooLong.is c.say.ensures.said
