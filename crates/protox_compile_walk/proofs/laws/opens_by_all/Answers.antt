use Rattle.protox_compile_walk.specs.Opening.{Accepted}
use Rattle.protox_compile_walk.proofs.Joined.{more_all, opens_more, closes_more, refuses_more, stops_more}
use Rattle.protox_compile_walk.proofs.laws.opens_by_all.Goals as goal

pub returns-clause-opens : goal.returns-clause-opens
returns-clause-opens c files resolves limit path done later all right complete h = opens_more h.0 all (more_all c.looked_up_once.ensures files h.0 all h.1 right complete) resolves limit path done later Accepted tt h.2

pub returns-clause-refuses : goal.returns-clause-refuses
returns-clause-refuses c files resolves limit path done later error all right complete h = refuses_more h.0 all (more_all c.looked_up_once.ensures files h.0 all h.1 right complete) resolves limit path done later error h.2

pub returns-clause-closes : goal.returns-clause-closes
returns-clause-closes c files resolves limit paths done later all right complete h = closes_more h.0 all (more_all c.looked_up_once.ensures files h.0 all h.1 right complete) resolves limit paths done later Accepted tt h.2

pub returns-clause-stops : goal.returns-clause-stops
returns-clause-stops c files resolves limit paths done later error all right complete h = stops_more h.0 all (more_all c.looked_up_once.ensures files h.0 all h.1 right complete) resolves limit paths done later error h.2
