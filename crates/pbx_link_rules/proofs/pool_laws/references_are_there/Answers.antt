use Rattle.pbx_link_rules.proofs.References.{methods_have_messages}
use Rattle.pbx_link_rules.proofs.pool_laws.references_are_there.Goals as goal

pub returns-clause-methods : goal.returns-clause-methods
returns-clause-methods c = methods_have_messages
