use Rattle.std.proofs.Common.{◌≡◌, take}
use Rattle.pbx_types.proofs.tree.+copy.Given as goal

abbrev pub invariant-copy_fields-loop-field : goal.invariant-copy_fields-loop-field
invariant-copy_fields-loop-field l = l.copies ≡ take l.field-index l.field-items

abbrev pub invariant-copy_values-loop-value : goal.invariant-copy_values-loop-value
invariant-copy_values-loop-value l = l.copies ≡ take l.value-index l.value-items
