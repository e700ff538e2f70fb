use Rattle.std.proofs.Common.{◌≡◌, ℕ, List, [], drop}
use Rattle.std.specs.List.{flat_map}
use Rattle.pbx_link_definitions.specs.Definitions.{parts}
use Rattle.pbx_link_rules_record.specs.OptionRules.{uninterpreted_in_service}
use Rattle.pbx_link_rules_record.proofs.uninterpreted.in_services.Given as goal

abbrev pub invariant-loop-index : goal.invariant-loop-index
invariant-loop-index l = (scope : List ℕ) → flat_map uninterpreted_in_service (parts scope [] 6 l.services) ≡ flat_map uninterpreted_in_service (drop l.index (parts scope [] 6 l.services))
