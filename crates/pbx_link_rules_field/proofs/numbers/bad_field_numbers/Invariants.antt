use Rattle.std.proofs.Common.{◌≡◌, drop}
use Rattle.std.specs.List.{flat_map}
use Rattle.pbx_link_rules_field.specs.Rules.{bad_numbers_in}
use Rattle.pbx_link_rules_field.proofs.numbers.bad_field_numbers.Given as goal

abbrev pub invariant-loop-message : goal.invariant-loop-message
invariant-loop-message l = flat_map bad_numbers_in l.message-items ≡ flat_map bad_numbers_in (drop l.message-index l.message-items)
