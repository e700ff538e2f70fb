use Rattle.pbx_content.proofs.FaultyLaw.{means_or_faulty, faulty_means_nothing, parts_mean_or_faulty, faulty_parts_mean_nothing}
use Rattle.pbx_content.proofs.laws.means_or_faulty.Goals as goal

pub returns-clause-either : goal.returns-clause-either
returns-clause-either c = means_or_faulty

pub returns-clause-not_both : goal.returns-clause-not_both
returns-clause-not_both c = faulty_means_nothing

pub returns-clause-parts : goal.returns-clause-parts
returns-clause-parts c = parts_mean_or_faulty

pub returns-clause-not_both_parts : goal.returns-clause-not_both_parts
returns-clause-not_both_parts c = faulty_parts_mean_nothing
