use Rattle.pbx_link_rules.proofs.Kept.{new_names}
use Rattle.pbx_link_rules.proofs.pool_laws.names_are_new.Goals as goal

pub returns : goal.returns
returns c = new_names
