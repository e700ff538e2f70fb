use Rattle.std.proofs.Common.{◌≡◌, ◌-◌, length}
use Rattle.pbx_link.specs.Tables.{extensions_from}
use Rattle.pbx_link.proofs.pool_extensions.extension_standing.Given as goal

abbrev pub invariant-loop-place : goal.invariant-loop-place
invariant-loop-place l = extensions_from l.tables l.fn.file l.fn.index ≡ extensions_from l.tables l.place l.rest

abbrev pub decreases-loop-place : goal.decreases-loop-place
decreases-loop-place l = length l.tables - l.place
