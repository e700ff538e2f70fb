use Rattle.protox_compile_walk.proofs.refusal.import_not_found.Goals as goal

pub returns : goal.returns
returns c = c.error_of.ensures _ c.try_import_not_found.ensures
