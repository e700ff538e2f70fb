use Rattle.std.proofs.Common.{◌≡◌, drop}
use Rattle.pbx_link_definitions.specs.Definitions.{name_place}
use Rattle.pbx_link_definitions.specs.Places.{places_where}
use Rattle.pbx_link_rules_record.specs.FileRules.{is_bad_name}
use Rattle.pbx_link_rules_record.proofs.file_rules.bad_name.Given as goal

abbrev pub invariant-loop-definition : goal.invariant-loop-definition
invariant-loop-definition l = places_where is_bad_name name_place l.definitions ≡ places_where is_bad_name name_place (drop l.definition-index l.definitions)
