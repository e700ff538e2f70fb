use Rattle.std.proofs.Common.{◌≡◌, take}
use Rattle.pbx_link_definitions.specs.Names.{qualified, text_or_empty}
use Rattle.pbx_link_pool.specs.Items.{new_items, place_items}
use Rattle.pbx_link_pool.proofs.items.new_service_items.Given as goal

abbrev pub invariant-loop-i : goal.invariant-loop-i
invariant-loop-i l = l.items ≡ new_items l.map (place_items (λ s. qualified l.scope (text_or_empty s.name)) l.index (take l.i l.services))
