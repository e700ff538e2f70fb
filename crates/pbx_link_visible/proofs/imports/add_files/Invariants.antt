use Rattle.std.proofs.Common.{take, None}
use Rattle.pbx_link_visible.specs.Imports.{HasAdded}
use Rattle.pbx_link_visible.proofs.imports.add_files.Given as goal

abbrev pub invariant-loop-name : goal.invariant-loop-name
invariant-loop-name g l = HasAdded (g.P.Pooled.files l.pool) None (take l.name-index l.names) l.initial.pending l.pending
