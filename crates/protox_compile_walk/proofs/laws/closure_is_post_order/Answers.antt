use Rattle.protox_compile_walk.proofs.PostOrder.{in_post_order, at_each_depth, distinct, within_limit}
use Rattle.protox_compile_walk.proofs.laws.closure_is_post_order.Goals as goal

pub returns-clause-order : goal.returns-clause-order
returns-clause-order c = in_post_order

pub returns-clause-depth : goal.returns-clause-depth
returns-clause-depth c = at_each_depth

pub returns-clause-once : goal.returns-clause-once
returns-clause-once c = distinct

pub returns-clause-limit : goal.returns-clause-limit
returns-clause-limit c = within_limit
