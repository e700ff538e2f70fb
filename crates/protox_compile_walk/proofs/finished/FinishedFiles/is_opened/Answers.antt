use Rattle.std.proofs.Common.{◌∙◌, sym}
use Rattle.protox_compile_walk.proofs.Recorded.{is_opened_in_known}
use Rattle.protox_compile_walk.proofs.finished.FinishedFiles.is_opened.Goals as goal

pub returns : goal.returns
returns c = rw (← c.self.view_is) (c.is_opened.ensures ∙ sym (is_opened_in_known c.self.inside.known c.self.inside.pool c.args.name.now c.self.invariant))
