use Rattle.pbx_content.proofs.FaultyLaw.{means_or_faulty_with, faulty_means_nothing_with, message_faults_are_with}
use Rattle.pbx_content.proofs.FaultyFirst.{first_is_with, first_is_merged}
use Rattle.pbx_content.proofs.laws.means_or_faulty_with.Goals as goal

pub returns-clause-either : goal.returns-clause-either
returns-clause-either c = means_or_faulty_with

pub returns-clause-not_both : goal.returns-clause-not_both
returns-clause-not_both c = faulty_means_nothing_with

pub returns-clause-alike : goal.returns-clause-alike
returns-clause-alike c = message_faults_are_with

pub returns-clause-first : goal.returns-clause-first
returns-clause-first c = first_is_with

pub returns-clause-merged : goal.returns-clause-merged
returns-clause-merged c = first_is_merged
