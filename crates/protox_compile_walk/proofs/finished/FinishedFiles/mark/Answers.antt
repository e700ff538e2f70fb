use Rattle.protox_compile_walk.proofs.Recorded.{mark_known, mark_recorded}
use Rattle.protox_compile_walk.proofs.finished.FinishedFiles.mark.Goals as goal

pub invariant_of-self : goal.invariant_of-self
invariant_of-self c = rw c.mark.ensures (mark_recorded c.self.inside.known c.self.inside.pool c.args.name.now c.self.invariant)

pub returns : goal.returns
returns c = rw (c.mark.ensures, ← c.self.view_is) (mark_known c.self.inside.known c.self.inside.pool c.args.name.now c.self.invariant)
