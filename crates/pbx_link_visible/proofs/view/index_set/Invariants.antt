use Rattle.std.proofs.Common.{◌≡◌, ℕ, nat_cmp, take}
use Rattle.std.specs.BTreeSet.{contains}
use Rattle.pbx_link_visible.specs.Names.{is_among}
use Rattle.pbx_link_visible.proofs.view.index_set.Given as goal

abbrev pub invariant-loop-index : goal.invariant-loop-index
invariant-loop-index l = (i : ℕ) → contains nat_cmp l.set i ≡ is_among (take l.index-index l.indexes) i
