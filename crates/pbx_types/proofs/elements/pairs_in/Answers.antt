use Rattle.pbx_types.proofs.Lists.{map_in}
use Rattle.pbx_types.proofs.elements.pairs_in.Goals as goal

pub returns-in-Pairs : goal.returns-in-Pairs
returns-in-Pairs c key k = map_in key k c.args.held c.in-Pairs.pairs c.in-Pairs.is
