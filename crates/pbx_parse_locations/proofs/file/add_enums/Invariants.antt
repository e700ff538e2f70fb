use Rattle.std.proofs.Common.{[], map, take}
use Rattle.std.specs.List.{flat_map}
use Rattle.pbx_parse_tree.specs.View.{top_of}
use Rattle.pbx_parse_locations.specs.Locations.{enum_at, top_enums, Adds}
use Rattle.pbx_parse_locations.proofs.file.add_enums.Given as goal

abbrev pub invariant-each : goal.invariant-each
invariant-each l = Adds (enum_at [] 5) (flat_map top_enums (map top_of (take l.top-index l.tops))) 0 l.index l.fn.out l.out
