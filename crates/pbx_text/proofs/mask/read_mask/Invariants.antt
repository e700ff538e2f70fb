use Rattle.std.proofs.Common.{length}
use Rattle.pbx_text.proofs.Paths.{HaveRead}
use Rattle.pbx_text.proofs.mask.read_mask.Given as goal

abbrev pub invariant-loop-piece : goal.invariant-loop-piece
invariant-loop-piece l = HaveRead l.text l.paths (length l.yielded)
