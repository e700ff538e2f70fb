use Rattle.std.proofs.Common.{◌≡◌, drop}
use Rattle.pbx_link_definitions.specs.Definitions.{Part}
use Rattle.pbx_link_definitions.specs.Places.{places_where}
use Rattle.pbx_desc_records.specs.declared.message.DescriptorProto.{DescriptorProto}
use Rattle.pbx_link_rules_record.specs.EntryRules.{is_bad_entry}
use Rattle.pbx_link_rules_record.proofs.entries.improper_entry.Given as goal

abbrev pub invariant-loop-part : goal.invariant-loop-part
invariant-loop-part l = places_where (λ (m : Part DescriptorProto). is_bad_entry m.item) (λ m. m.place) l.messages ≡ places_where (λ (m : Part DescriptorProto). is_bad_entry m.item) (λ m. m.place) (drop l.part-index l.messages)
