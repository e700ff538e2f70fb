use Rattle.std.proofs.Common.{◌≡◌, ◌-◌, length}
use Rattle.pbx_link.specs.Tables.{services_from}
use Rattle.pbx_link.proofs.pool_services.service_standing.Given as goal

abbrev pub invariant-loop-place : goal.invariant-loop-place
invariant-loop-place l = services_from l.tables l.fn.file l.fn.index ≡ services_from l.tables l.place l.rest

abbrev pub decreases-loop-place : goal.decreases-loop-place
decreases-loop-place l = length l.tables - l.place
