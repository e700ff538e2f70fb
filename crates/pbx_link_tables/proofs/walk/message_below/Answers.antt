use Rattle.std.proofs.Common.{◌∙◌, refl, sym, arith}
use Rattle.pbx_link_tables.proofs.Standing.{below_more, below_none, below_end}
use Rattle.pbx_link_tables.proofs.walk.message_below.Goals as goal

pub returns-in_default : goal.returns-in_default
returns-in_default c = below_none _ c.loop-rest.rest.now c.as_slice.result.now c.loop-rest-test.true c.as_slice.ensures c.in_default.ensures ∙ c.loop-rest.invariant

pub loop-rest-preserved : goal.loop-rest-preserved
loop-rest-preserved c = below_more _ c.in-Some.nested.now c.loop-rest.rest.now _ c.as_slice.result.now c.loop-rest-test.true c.as_slice.ensures c.in-Some.ensures refl ∙ c.loop-rest.invariant

pub returns : goal.returns
returns c = sym (below_end _ c.loop-rest.rest.now (omega arith)) ∙ c.loop-rest.invariant
