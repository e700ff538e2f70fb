use Rattle.std.proofs.Common.{◌≡◌, map, take}
use Rattle.pbx_link_record.specs.Settled.{settled_method}
use Rattle.pbx_link_record.specs.Linked.{linked_method}
use Rattle.pbx_link_record.proofs.services.linked_methods.Given as goal

abbrev pub invariant-loop-method : goal.invariant-loop-method
invariant-loop-method g l = l.linked ≡ map settled_method (map (linked_method (g.V.Visible.files l.seen) l.scope) (take l.method-index l.method-items))
