use Rattle.std.proofs.Common.{◌≡◌, drop}
use Rattle.std.specs.List.{flat_map}
use Rattle.pbx_link_rules_record.specs.OptionRules.{uninterpreted_in_message}
use Rattle.pbx_link_rules_record.proofs.uninterpreted.in_messages.Given as goal

abbrev pub invariant-loop-part : goal.invariant-loop-part
invariant-loop-part l = flat_map uninterpreted_in_message l.messages ≡ flat_map uninterpreted_in_message (drop l.part-index l.messages)
