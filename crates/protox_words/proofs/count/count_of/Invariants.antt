use Rattle.std.proofs.Common.{◌≡◌, ◌+◌, ◌-◌, ◌*◌, ◌≤◌, drop, fold}
use Rattle.std.specs.List.{list_all}
use Rattle.protox_words.specs.Words.{is_digit, digits_value}
use Rattle.protox_words.proofs.count.count_of.Given as goal

abbrev pub invariant-loop-digit : goal.invariant-loop-digit
invariant-loop-digit l = record {
  small : l.number ≤ 2000;
  value : digits_value l.fn.text ≡ fold (λ n b. n * 10 + (b - 48)) l.number (drop l.digit-index l.digits);
  rest : list_all is_digit l.fn.text ≡ list_all is_digit (drop l.digit-index l.digits);
}
