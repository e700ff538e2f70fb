use Rattle.protox_lines.proofs.run.tell.Goals as goal

pub returns-in-Err-clause-said : goal.returns-in-Err-clause-said
returns-in-Err-clause-said g c = rw c.in-Err.is c.report.ensures.said
