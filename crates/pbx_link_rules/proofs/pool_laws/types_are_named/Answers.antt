use Rattle.pbx_link_rules.proofs.Named.{fields_are_held}
use Rattle.pbx_link_rules.proofs.pool_laws.types_are_named.Goals as goal

pub returns-clause-fields : goal.returns-clause-fields
returns-clause-fields c = fields_are_held
