use Rattle.std.proofs.Common.{◌≡◌, drop}
use Rattle.std.specs.List.{flat_map}
use Rattle.pbx_link_rules_record.specs.OptionRules.{uninterpreted_in_enum}
use Rattle.pbx_link_rules_record.proofs.uninterpreted.in_enums.Given as goal

abbrev pub invariant-loop-part : goal.invariant-loop-part
invariant-loop-part l = flat_map uninterpreted_in_enum l.enums ≡ flat_map uninterpreted_in_enum (drop l.part-index l.enums)
