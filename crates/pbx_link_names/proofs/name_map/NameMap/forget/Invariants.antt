use Rattle.std.proofs.Common.{◌≡◌, ℕ, List, take}
use Rattle.pbx_link_names.specs.Names.{without_items, under}
use Rattle.pbx_link_names.proofs.name_map.NameMap.forget.Given as goal

abbrev pub invariant-loop-name : goal.invariant-loop-name
invariant-loop-name g l = (q : List ℕ) → under q l.self ≡ without_items q (take l.name-index l.items) (under q l.initial.self)
