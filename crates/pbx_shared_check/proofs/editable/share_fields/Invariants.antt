-- The handles shared so far are those of the fields passed.
use Rattle.std.proofs.Common.{◌≡◌, take}
use Rattle.pbx_shared_check.proofs.editable.share_fields.Given as goal

abbrev pub invariant-loop-field : goal.invariant-loop-field
invariant-loop-field l = l.shared.items ≡ take l.field-index l.fields
