use Rattle.pbx_desc.proofs.Lists.{values_many}
use Rattle.pbx_desc.proofs.elements.values_of.Goals as goal

pub returns-in-Many : goal.returns-in-Many
returns-in-Many c k = values_many k c.args.held c.in-Many.values c.in-Many.is
