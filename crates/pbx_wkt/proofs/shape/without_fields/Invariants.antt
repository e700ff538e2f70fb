use Rattle.std.proofs.Common.{◌≡◌, ◌+◌, length}
use Rattle.pbx_link_meaning.specs.Descriptors.{fields_of_message}
use Rattle.pbx_wkt.proofs.shape.without_fields.Given as goal

abbrev pub invariant-loop-field : goal.invariant-loop-field
invariant-loop-field l = length (fields_of_message l.fn.desc) + l.left ≡ l.count + length l._field-iterator
