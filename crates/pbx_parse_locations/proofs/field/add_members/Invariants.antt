use Rattle.std.proofs.Common.{map, take}
use Rattle.std.specs.List.{flat_map}
use Rattle.pbx_parse_tree.specs.View.{member_of}
use Rattle.pbx_parse_locations.specs.Locations.{field_at, member_parts, Adds}
use Rattle.pbx_parse_locations.proofs.field.add_members.Given as goal

abbrev pub invariant-each : goal.invariant-each
invariant-each l = Adds (field_at l.path 2) (flat_map member_parts (map member_of (take l.member-index l.members))) l.first l.index l.fn.out l.out
