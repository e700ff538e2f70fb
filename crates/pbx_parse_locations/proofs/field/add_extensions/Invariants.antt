use Rattle.std.proofs.Common.{map, take}
use Rattle.std.specs.List.{flat_map}
use Rattle.pbx_parse_tree.specs.View.{extension_of}
use Rattle.pbx_parse_locations.specs.Locations.{field_at, extension_parts, Adds}
use Rattle.pbx_parse_locations.proofs.field.add_extensions.Given as goal

abbrev pub invariant-each : goal.invariant-each
invariant-each l = Adds (field_at l.path l.field) (flat_map extension_parts (map extension_of (take l.extension-index l.extensions))) l.first l.index l.fn.out l.out
