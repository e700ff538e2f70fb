use Rattle.std.proofs.Common.{◌∙◌, sym}
use Rattle.protox_compile_walk.proofs.Recorded.{records_known, ordered}
use Rattle.protox_compile_walk.proofs.finished.FinishedFiles.pool.Goals as goal

pub returns-clause-pool : goal.returns-clause-pool
returns-clause-pool c = rw (← c.self.view_is) (c.copy.ensures ∙ sym (records_known c.self.inside.known c.self.inside.pool c.self.invariant))

pub returns-clause-ordered : goal.returns-clause-ordered
returns-clause-ordered c = rw (← c.self.view_is) (ordered c.self.inside.known c.self.inside.pool c.self.invariant c.files-files.ensures.pooled)

pub returns-clause-pooled : goal.returns-clause-pooled
returns-clause-pooled c = rw (← c.self.view_is, records_known c.self.inside.known c.self.inside.pool c.self.invariant) c.files-files.ensures.pooled
