use Rattle.pbx_content.proofs.FaultyFirst.{faults_behind, first_behind}
use Rattle.pbx_content.proofs.laws.faults_are_behind.Goals as goal

pub returns-clause-all : goal.returns-clause-all
returns-clause-all c = faults_behind

pub returns-clause-first : goal.returns-clause-first
returns-clause-first c = first_behind
