use Rattle.pbx_content.proofs.FaultyAlone.{spelled_next}
use Rattle.pbx_content.proofs.OntoAppends.{onto_appends, onto_means_alone}
use Rattle.pbx_content.proofs.laws.records_one_by_one.Goals as goal

pub returns-clause-spelled : goal.returns-clause-spelled
returns-clause-spelled c = spelled_next

pub returns-clause-meant : goal.returns-clause-meant
returns-clause-meant c = onto_appends

pub returns-clause-alone : goal.returns-clause-alone
returns-clause-alone c = onto_means_alone
