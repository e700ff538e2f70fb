use Rattle.std.proofs.Common.{◌∙◌, refl}
use Rattle.pbx_parse_reader.proofs.cursor.Cursor.enum_number.Goals as goal

pub invariant_of-result : goal.invariant_of-result
invariant_of-result c = record { in_range = c.most_with.ensures (record { minus = c.eat-minus.result; value = c.in_ok-value.value; span = c.in_ok-value.span }) refl ∙ c.in_ok-value.ensures.fits }
