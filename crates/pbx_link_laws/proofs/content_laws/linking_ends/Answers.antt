use Rattle.pbx_link_laws.proofs.Again.{linked_is_linked, settled_is_linked, pooled_are_linked, pool_is_linked}
use Rattle.pbx_link_laws.proofs.content_laws.linking_ends.Goals as goal

pub returns-clause-again : goal.returns-clause-again
returns-clause-again c = linked_is_linked

pub returns-clause-same : goal.returns-clause-same
returns-clause-same c = settled_is_linked

pub returns-clause-pool : goal.returns-clause-pool
returns-clause-pool c = pooled_are_linked

pub returns-clause-each : goal.returns-clause-each
returns-clause-each c = pool_is_linked
