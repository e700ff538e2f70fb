use Rattle.std.proofs.Common.{◌∙◌, sym}
use Rattle.protox_compile_walk.proofs.Recorded.{path_in_known}
use Rattle.protox_compile_walk.proofs.finished.FinishedFiles.path_of.Goals as goal

pub returns : goal.returns
returns c = rw (← c.self.view_is) (c.path_of.ensures ∙ sym (path_in_known c.self.inside.known c.self.inside.pool c.args.name.now c.self.invariant))
