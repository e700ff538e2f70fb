use Rattle.std.proofs.Common.{◌≡◌, take}
use Rattle.pbx_link_definitions.specs.Names.{qualified, text_or_empty}
use Rattle.pbx_link_pool.specs.Items.{new_items, place_items}
use Rattle.pbx_link_pool.proofs.items.new_part_items.Given as goal

abbrev pub invariant-loop-i : goal.invariant-loop-i
invariant-loop-i g l = l.items ≡ new_items l.map (place_items (λ p. qualified p.scope (text_or_empty (g.T.Named.name p.item))) l.index (take l.i l.parts))
