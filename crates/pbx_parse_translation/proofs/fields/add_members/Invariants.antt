use Rattle.std.proofs.Common.{◌≡◌, ◌++◌, drop}
use Rattle.std.specs.List.{flat_map}
use Rattle.pbx_parse_tree.specs.View.{member_of}
use Rattle.pbx_parse_translation.specs.Fields.{member_records}
use Rattle.pbx_parse_translation.proofs.fields.add_members.Given as goal

abbrev pub invariant-each : goal.invariant-each
invariant-each l = l.records ++ flat_map (λ m. member_records l.oneof (member_of m)) (drop l.member-index l.members) ≡ l.fn.records ++ flat_map (λ m. member_records l.oneof (member_of m)) l.members
