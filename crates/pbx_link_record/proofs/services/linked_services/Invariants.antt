use Rattle.std.proofs.Common.{◌≡◌, map, take}
use Rattle.pbx_link_record.specs.Settled.{settled_service}
use Rattle.pbx_link_record.specs.Linked.{linked_service}
use Rattle.pbx_link_record.proofs.services.linked_services.Given as goal

abbrev pub invariant-loop-service : goal.invariant-loop-service
invariant-loop-service g l = l.linked ≡ map settled_service (map (linked_service (g.V.Visible.files l.seen) l.scope) (take l.service-index l.service-items))
