use Rattle.std.proofs.Common.{◌∙◌, sym}
use Rattle.protox_compile_walk.proofs.Recorded.{metadata_known}
use Rattle.protox_compile_walk.proofs.finished.FinishedFiles.metadata.Goals as goal

pub returns : goal.returns
returns c = rw (← c.self.view_is) (c.as_slice.ensures ∙ sym (metadata_known c.self.inside.known c.self.inside.pool c.self.invariant))
