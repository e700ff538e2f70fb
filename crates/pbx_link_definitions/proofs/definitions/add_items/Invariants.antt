use Rattle.std.proofs.Common.{◌≡◌, ◌++◌, map, take}
use Rattle.pbx_link_definitions.specs.Definitions.{parts as parts_of, defined}
use Rattle.pbx_link_definitions.proofs.definitions.add_items.Given as goal

abbrev pub invariant-loop-index : goal.invariant-loop-index
invariant-loop-index g l = l.table ≡ l.initial.table ++ map (defined l.sort g.T.Named.name) (parts_of l.scope l.place l.number (take l.index l.items))
