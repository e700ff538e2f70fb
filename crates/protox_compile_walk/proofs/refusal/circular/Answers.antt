use Rattle.protox_compile_walk.proofs.refusal.circular.Goals as goal

pub returns : goal.returns
returns c = c.error_of.ensures _ c.try_circular.ensures
