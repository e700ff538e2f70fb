use Rattle.protox_run.proofs.report.say_fault.Goals as goal

pub returns-in-Unknown-clause-said : goal.returns-in-Unknown-clause-said
returns-in-Unknown-clause-said g c = rw c.in-Unknown.is c.say_between.ensures.said

pub returns-in-Twice-clause-said : goal.returns-in-Twice-clause-said
returns-in-Twice-clause-said g c = rw c.in-Twice.is c.say_between-in-Twice.ensures.said

pub returns-in-NeedsValue-clause-said : goal.returns-in-NeedsValue-clause-said
returns-in-NeedsValue-clause-said g c = rw c.in-NeedsValue.is c.say_between-in-NeedsValue.ensures.said

pub returns-in-TakesNoValue-clause-said : goal.returns-in-TakesNoValue-clause-said
returns-in-TakesNoValue-clause-said g c = rw c.in-TakesNoValue.is c.say_between-in-TakesNoValue.ensures.said

pub returns-in-NeedsNumber-clause-said : goal.returns-in-NeedsNumber-clause-said
returns-in-NeedsNumber-clause-said g c = rw c.in-NeedsNumber.is c.say_between-in-NeedsNumber.ensures.said

pub returns-in-NeedsRetries-clause-said : goal.returns-in-NeedsRetries-clause-said
returns-in-NeedsRetries-clause-said g c = rw c.in-NeedsRetries.is c.say_between-in-NeedsRetries.ensures.said

pub returns-in-NeedsType-clause-said : goal.returns-in-NeedsType-clause-said
returns-in-NeedsType-clause-said g c = rw c.in-NeedsType.is c.say_behind.ensures.said

pub returns-in-ExcludesInclude-clause-said : goal.returns-in-ExcludesInclude-clause-said
returns-in-ExcludesInclude-clause-said g c = rw c.in-ExcludesInclude.is c.say-in-ExcludesInclude.ensures.said
