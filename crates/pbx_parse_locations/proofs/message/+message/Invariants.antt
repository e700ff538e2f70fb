use Rattle.std.proofs.Common.{◌≡◌, ◌+◌, ◌*◌, ◌++◌, drop}
use Rattle.pbx_parse_tree.specs.View.{body_of}
use Rattle.pbx_parse_locations.specs.Locations.{nested_from}
use Rattle.pbx_parse_locations.proofs.Items.{size}
use Rattle.pbx_parse_locations.proofs.message.+message.Given as goal

abbrev pub invariant-add_nested-each : goal.invariant-add_nested-each
invariant-add_nested-each l = l.out ++ nested_from l.path l.index (body_of (drop l.item-index l.items)) ≡ l.fn.out ++ nested_from l.path 0 (body_of l.items)

abbrev pub decreases-add_message : goal.decreases-add_message
decreases-add_message l = 2 * size (body_of l.block.items.now) + 1

abbrev pub decreases-add_nested : goal.decreases-add_nested
decreases-add_nested l = 2 * size (body_of l.items.now)
