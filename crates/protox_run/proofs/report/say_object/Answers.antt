use Rattle.protox_run.proofs.report.say_object.Goals as goal

pub returns-in-Output-clause-said : goal.returns-in-Output-clause-said
returns-in-Output-clause-said g c = rw c.in-Output.is c.say-in-Output.ensures.said
