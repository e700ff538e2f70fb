use Rattle.std.proofs.Common.{◌≡◌, map, take}
use Rattle.pbx_link_record.specs.Settled.{settled_field}
use Rattle.pbx_link_record.specs.Linked.{linked_extension}
use Rattle.pbx_link_record.proofs.fields.linked_extensions.Given as goal

abbrev pub invariant-loop-extension : goal.invariant-loop-extension
invariant-loop-extension g l = l.linked ≡ map settled_field (map (linked_extension (g.V.Visible.files l.seen) l.scope) (take l.extension-index l.extension-items))
