use Rattle.pbx_link_order_laws.proofs.Parts.{parts_link_alike}
use Rattle.pbx_link_order_laws.proofs.order_laws.parts_link_alike.Goals as goal

pub returns : goal.returns
returns c = parts_link_alike
