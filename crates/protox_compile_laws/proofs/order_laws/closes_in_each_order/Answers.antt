use Rattle.protox_compile_walk.proofs.Joined.{closes_once}
use Rattle.protox_compile_laws.proofs.Again.{in_each_order, opens_in_each_order}
use Rattle.protox_compile_laws.proofs.order_laws.closes_in_each_order.Goals as goal

pub returns-clause-closes : goal.returns-clause-closes
returns-clause-closes c = in_each_order

pub returns-clause-opens : goal.returns-clause-opens
returns-clause-opens c = opens_in_each_order (closes_once c.looked_up_once.ensures)
