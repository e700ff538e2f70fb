use Rattle.std.proofs.Common.{map, take}
use Rattle.std.specs.List.{flat_map}
use Rattle.pbx_parse_tree.specs.View.{enum_item_of}
use Rattle.pbx_parse_locations.specs.Locations.{value_at, item_values, Adds}
use Rattle.pbx_parse_locations.proofs.enumeration.add_values.Given as goal

abbrev pub invariant-each : goal.invariant-each
invariant-each l = Adds (value_at l.path) (flat_map item_values (map enum_item_of (take l.item-index l.items))) 0 l.index l.fn.out l.out
