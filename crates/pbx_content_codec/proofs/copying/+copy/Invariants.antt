use Rattle.std.proofs.Common.{◌≡◌, take}
use Rattle.pbx_content_codec.proofs.copying.+copy.Given as goal

abbrev pub invariant-copy_fields-loop-field : goal.invariant-copy_fields-loop-field
invariant-copy_fields-loop-field l = l.copies ≡ take l.field-index l.field-items

abbrev pub invariant-copy_many-loop-held : goal.invariant-copy_many-loop-held
invariant-copy_many-loop-held l = l.copies ≡ take l.held-index l.held-items

abbrev pub invariant-copy_pairs-loop-pair : goal.invariant-copy_pairs-loop-pair
invariant-copy_pairs-loop-pair l = l.copies ≡ take l.pair-index l.pair-items
