use Rattle.std.proofs.Common.{◌≡◌, drop}
use Rattle.std.specs.List.{flat_map}
use Rattle.pbx_link_rules_record.specs.RangeRules.{bad_message_ranges}
use Rattle.pbx_link_rules_record.proofs.range_rules.in_messages.Given as goal

abbrev pub invariant-loop-part : goal.invariant-loop-part
invariant-loop-part l = flat_map (bad_message_ranges l.proto3) l.messages ≡ flat_map (bad_message_ranges l.proto3) (drop l.part-index l.messages)
