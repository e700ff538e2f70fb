use Rattle.pbx_link_rules.proofs.RulesKept.{first_alone, first_behind}
use Rattle.pbx_link_rules.proofs.rule_laws.breach_is_first.Goals as goal

pub returns-clause-alone : goal.returns-clause-alone
returns-clause-alone c = first_alone

pub returns-clause-behind : goal.returns-clause-behind
returns-clause-behind c = first_behind
