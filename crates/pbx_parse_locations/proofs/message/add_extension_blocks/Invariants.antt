use Rattle.std.proofs.Common.{map, take}
use Rattle.std.specs.List.{flat_map}
use Rattle.pbx_parse_tree.specs.View.{item_of}
use Rattle.pbx_parse_locations.specs.Locations.{field_at, item_extensions, Adds}
use Rattle.pbx_parse_locations.specs.BodyItems.{of_body_item}
use Rattle.pbx_parse_locations.proofs.message.add_extension_blocks.Given as goal

abbrev pub invariant-each : goal.invariant-each
invariant-each l = Adds (field_at l.path 6) (flat_map (of_body_item item_extensions) (map item_of (take l.item-index l.items))) 0 l.index l.fn.out l.out
