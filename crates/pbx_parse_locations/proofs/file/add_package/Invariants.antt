use Rattle.std.proofs.Common.{◌≡◌, ◌++◌, map, take}
use Rattle.std.specs.List.{flat_map}
use Rattle.pbx_parse_tree.specs.View.{top_of}
use Rattle.pbx_parse_locations.specs.Locations.{package_location}
use Rattle.pbx_parse_locations.proofs.file.add_package.Given as goal

abbrev pub invariant-each : goal.invariant-each
invariant-each l = l.out ≡ l.fn.out ++ flat_map package_location (map top_of (take l.top-index l.tops))
