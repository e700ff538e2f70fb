use Rattle.pbx_link_order_laws.proofs.Orders.{added_stand_behind, order_is_free}
use Rattle.pbx_link_order_laws.proofs.order_laws.order_is_free.Goals as goal

pub returns-clause-behind : goal.returns-clause-behind
returns-clause-behind c = added_stand_behind

pub returns-clause-orders : goal.returns-clause-orders
returns-clause-orders c = order_is_free
