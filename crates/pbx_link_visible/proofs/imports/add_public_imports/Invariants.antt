use Rattle.std.proofs.Common.{take, Some}
use Rattle.std.specs.List.{filter_map}
use Rattle.pbx_link_scope.specs.Scope.{item_at}
use Rattle.pbx_link_visible.specs.Imports.{HasAdded}
use Rattle.pbx_link_visible.proofs.imports.add_public_imports.Given as goal

abbrev pub invariant-loop-import : goal.invariant-loop-import
invariant-loop-import g l = HasAdded (g.P.Pooled.files l.pool) (Some l.index) (filter_map (item_at l.file.dependency) (take l.import-index l.import-items)) l.initial.pending l.pending
