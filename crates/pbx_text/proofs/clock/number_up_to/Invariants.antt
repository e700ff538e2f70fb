use Rattle.std.proofs.Common.{◌≡◌, ◌≤◌, ◌+◌, ◌-◌, ◌*◌, length, true, fold}
use Rattle.std.specs.List.{list_all}
use Rattle.pbx_text.specs.Decimal.{digits_value, is_digit}
use Rattle.pbx_text.proofs.clock.number_up_to.Given as goal

abbrev pub invariant-digits : goal.invariant-digits
invariant-digits l = record {
  digits : list_all is_digit l.rest ≡ true;
  value : fold (λ n c. n * 10 + (c - 48)) l.number l.rest ≡ digits_value l.fn.digits;
  small : l.number ≤ l.max;
}

abbrev pub decreases-digits : goal.decreases-digits
decreases-digits l = length l.rest
