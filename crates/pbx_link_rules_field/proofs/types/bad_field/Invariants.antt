use Rattle.std.proofs.Common.{◌≡◌, drop}
use Rattle.std.specs.List.{flat_map}
use Rattle.pbx_link_rules_field.specs.Rules.{bad_types_in}
use Rattle.pbx_link_rules_field.proofs.types.bad_field.Given as goal

abbrev pub invariant-loop-message : goal.invariant-loop-message
invariant-loop-message l = flat_map bad_types_in l.messages ≡ flat_map bad_types_in (drop l.message-index l.messages)
