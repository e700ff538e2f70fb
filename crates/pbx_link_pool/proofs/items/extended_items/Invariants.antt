use Rattle.std.proofs.Common.{◌≡◌, take}
use Rattle.std.specs.List.{flat_map}
use Rattle.pbx_link_pool.specs.Items.{extended_item}
use Rattle.pbx_link_pool.proofs.items.extended_items.Given as goal

abbrev pub invariant-loop-extension : goal.invariant-loop-extension
invariant-loop-extension l = l.items ≡ flat_map extended_item (take l.extension-index l.extensions)
