use Rattle.std.proofs.Common.{map, take}
use Rattle.std.specs.List.{flat_map}
use Rattle.pbx_parse_tree.specs.View.{top_of}
use Rattle.pbx_parse_locations.specs.Locations.{message_at, top_messages, Adds}
use Rattle.pbx_parse_locations.proofs.file.add_messages.Given as goal

abbrev pub invariant-each : goal.invariant-each
invariant-each l = Adds message_at (flat_map top_messages (map top_of (take l.top-index l.tops))) 0 l.index l.fn.out l.out
