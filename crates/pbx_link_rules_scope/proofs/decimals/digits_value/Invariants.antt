use Rattle.std.proofs.Common.{◌≡◌, ◌<◌, ◌^◌, drop}
use Rattle.pbx_link_rules_scope.specs.Defaults.{digits_value}
use Rattle.pbx_link_rules_scope.specs.Digits.{small}
use Rattle.pbx_link_rules_scope.proofs.Spelled.{spelled}
use Rattle.pbx_link_rules_scope.proofs.decimals.digits_value.Given as goal

abbrev pub invariant-loop-digit : goal.invariant-loop-digit
invariant-loop-digit l = record {
  left : spelled l.number (drop l.digit-index l.digits) ≡ small (digits_value l.digits);
  fits : l.number < 2 ^ 64;
}
