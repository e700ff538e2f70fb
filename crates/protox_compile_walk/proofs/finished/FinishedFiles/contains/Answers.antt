use Rattle.std.proofs.Common.{◌∙◌, sym}
use Rattle.protox_compile_walk.proofs.Recorded.{is_done_known}
use Rattle.protox_compile_walk.proofs.finished.FinishedFiles.contains.Goals as goal

pub returns : goal.returns
returns c = rw (← c.self.view_is) (c.contains.ensures ∙ sym (is_done_known c.self.inside.known c.self.inside.pool c.args.name.now c.self.invariant))
