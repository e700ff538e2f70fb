use Rattle.std.proofs.Common.{◌≡◌, take}
use Rattle.pbx_link_pool.specs.Items.{new_items, definition_items}
use Rattle.pbx_link_pool.proofs.items.new_definition_items.Given as goal

abbrev pub invariant-loop-definition : goal.invariant-loop-definition
invariant-loop-definition l = l.items ≡ new_items l.map (definition_items l.index (take l.definition-index l.definitions))
