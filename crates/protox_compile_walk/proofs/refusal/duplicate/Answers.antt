use Rattle.protox_compile_walk.proofs.refusal.duplicate.Goals as goal

pub returns : goal.returns
returns c = c.error_of.ensures _ c.try_duplicate.ensures
