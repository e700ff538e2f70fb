use Rattle.std.proofs.Common.{◌≡◌, drop}
use Rattle.std.specs.List.{flat_map}
use Rattle.pbx_link_rules_record.specs.RangeRules.{bad_enum_ranges}
use Rattle.pbx_link_rules_record.proofs.range_rules.in_enums.Given as goal

abbrev pub invariant-loop-part : goal.invariant-loop-part
invariant-loop-part l = flat_map bad_enum_ranges l.enums ≡ flat_map bad_enum_ranges (drop l.part-index l.enums)
