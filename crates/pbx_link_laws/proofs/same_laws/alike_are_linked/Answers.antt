use Rattle.pbx_link_laws.proofs.AlikeLinked.{alike_break, alike_link, alike_is_linked}
use Rattle.pbx_link_laws.proofs.same_laws.alike_are_linked.Goals as goal

pub returns-clause-rules : goal.returns-clause-rules
returns-clause-rules c = alike_break

pub returns-clause-linking : goal.returns-clause-linking
returns-clause-linking c = alike_link

pub returns-clause-again : goal.returns-clause-again
returns-clause-again c = alike_is_linked
