use Rattle.pbx_link_visible.proofs.Walk.{Walked, next_index}
use Rattle.pbx_link_visible.proofs.imports.visible_files.Given as goal

abbrev pub invariant-loop-index : goal.invariant-loop-index
invariant-loop-index g l = Walked (g.P.Pooled.files l.pool) l.file.dependency l.found l.pending

abbrev pub decreases-loop-index : goal.decreases-loop-index
decreases-loop-index g l = next_index l.pending.keys
