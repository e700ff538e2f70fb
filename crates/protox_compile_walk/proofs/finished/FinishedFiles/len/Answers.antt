use Rattle.std.proofs.Common.{◌∙◌, sym}
use Rattle.protox_compile_walk.proofs.Recorded.{length_done}
use Rattle.protox_compile_walk.proofs.finished.FinishedFiles.len.Goals as goal

pub returns : goal.returns
returns c = rw (← c.self.view_is) (c.len.ensures ∙ sym (length_done c.self.inside.known c.self.inside.pool c.self.invariant))
