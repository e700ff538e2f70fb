use Rattle.std.proofs.Common.{map, take}
use Rattle.std.specs.List.{flat_map}
use Rattle.pbx_parse_tree.specs.View.{service_item_of}
use Rattle.pbx_parse_locations.specs.Locations.{method_at, item_methods, Adds}
use Rattle.pbx_parse_locations.proofs.service.add_methods.Given as goal

abbrev pub invariant-each : goal.invariant-each
invariant-each l = Adds (method_at l.path) (flat_map item_methods (map service_item_of (take l.item-index l.items))) 0 l.index l.fn.out l.out
