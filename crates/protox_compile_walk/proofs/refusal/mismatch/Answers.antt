use Rattle.protox_compile_walk.proofs.refusal.mismatch.Goals as goal

pub returns : goal.returns
returns c = c.error_of.ensures _ c.try_mismatch.ensures
