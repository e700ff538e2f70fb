use Rattle.pbx_types.proofs.Lists.{list_in}
use Rattle.pbx_types.proofs.elements.values_of.Goals as goal

pub returns-in-Many : goal.returns-in-Many
returns-in-Many c k = list_in k c.args.held c.in-Many.values c.in-Many.is
