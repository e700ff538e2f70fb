use Rattle.std.proofs.Common.{[], map, take}
use Rattle.std.specs.List.{flat_map}
use Rattle.pbx_parse_tree.specs.View.{top_of}
use Rattle.pbx_parse_locations.specs.Locations.{field_at, top_extensions, Adds}
use Rattle.pbx_parse_locations.proofs.file.add_extension_blocks.Given as goal

abbrev pub invariant-each : goal.invariant-each
invariant-each l = Adds (field_at [] 7) (flat_map top_extensions (map top_of (take l.top-index l.tops))) 0 l.index l.fn.out l.out
