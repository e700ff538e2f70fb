use Rattle.std.proofs.Common.{◌≡◌, length}
use Rattle.std.specs.List.{list_all}
use Rattle.pbx_text.specs.Decimal.{is_digit}
use Rattle.pbx_text.proofs.decimal.are_digits.Given as goal

abbrev pub invariant-digits : goal.invariant-digits
invariant-digits l = list_all is_digit l.rest ≡ list_all is_digit l.bytes

abbrev pub decreases-digits : goal.decreases-digits
decreases-digits l = length l.rest
