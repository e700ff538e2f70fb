use Rattle.pbx_link_meaning.proofs.Proper.{types_are_proper, shape_is_proper}
use Rattle.pbx_link_meaning.proofs.laws.shape_is_proper.Goals as goal

pub returns-clause-types : goal.returns-clause-types
returns-clause-types c = types_are_proper

pub returns-clause-shape : goal.returns-clause-shape
returns-clause-shape c = shape_is_proper
