use Rattle.std.proofs.Common.{◌≡◌, ℕ, List, take}
use Rattle.pbx_link_names.specs.Names.{without, under}
use Rattle.pbx_link_names.proofs.name_map.NameMap.remove_all.Given as goal

abbrev pub invariant-loop-name : goal.invariant-loop-name
invariant-loop-name g l = (q : List ℕ) → under q l.self ≡ without q (take l.name-index l.names) (under q l.initial.self)
