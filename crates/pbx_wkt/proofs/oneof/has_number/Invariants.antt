use Rattle.std.proofs.Common.{◌≡◌}
use Rattle.pbx_link_meaning.specs.Descriptors.{fields_of_oneof}
use Rattle.pbx_wkt.specs.Told.{has_number as has_number_of}
use Rattle.pbx_wkt.proofs.oneof.has_number.Given as goal

abbrev pub invariant-loop-field : goal.invariant-loop-field
invariant-loop-field l = has_number_of l.number (fields_of_oneof l.fn.oneof) ≡ has_number_of l.number l.field-iterator
