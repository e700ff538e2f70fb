use Rattle.std.proofs.Common.{◌≡◌, drop}
use Rattle.std.specs.List.{flat_map}
use Rattle.pbx_link_rules_record.specs.EnumRules.{bad_enum}
use Rattle.pbx_link_rules_record.proofs.enums.bad_enums.Given as goal

abbrev pub invariant-loop-part : goal.invariant-loop-part
invariant-loop-part l = flat_map (bad_enum l.proto3) l.part-items ≡ flat_map (bad_enum l.proto3) (drop l.part-index l.part-items)
