use Rattle.std.proofs.Common.{◌≡◌, drop}
use Rattle.pbx_link_definitions.specs.Definitions.{at}
use Rattle.pbx_link_definitions.specs.Places.{places_where}
use Rattle.pbx_link_rules_record.specs.OptionRules.{is_message_set}
use Rattle.pbx_link_rules_record.proofs.options.message_sets.Given as goal

abbrev pub invariant-loop-part : goal.invariant-loop-part
invariant-loop-part l = places_where is_message_set (λ m. at m 7) l.part-items ≡ places_where is_message_set (λ m. at m 7) (drop l.part-index l.part-items)
