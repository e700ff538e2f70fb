use Rattle.std.proofs.Common.{◌≡◌, map, take}
use Rattle.pbx_link_record.specs.Settled.{settled_field}
use Rattle.pbx_link_record.specs.Linked.{linked_field}
use Rattle.pbx_link_record.proofs.fields.linked_fields.Given as goal

abbrev pub invariant-loop-field : goal.invariant-loop-field
invariant-loop-field g l = l.linked ≡ map settled_field (map (linked_field (g.V.Visible.files l.seen) l.scope) (take l.field-index l.field-items))
