use Rattle.std.proofs.Common.{◌≡◌, ℕ, ℤ, List, take, ◌&&◌, not}
use Rattle.pbx_link_names.specs.Numbers.{is_there, is_noted}
use Rattle.pbx_link_names.proofs.numbered_names.NumberedNames.remove_all.Given as goal

abbrev pub invariant-loop-item : goal.invariant-loop-item
invariant-loop-item l = (q : List ℕ) (z : ℤ) → is_there q z l.self ≡ (is_there q z l.initial.self && not (is_noted q z (take l.item-index l.items)))
