use Rattle.std.proofs.Common.{◌≡◌, ◌++◌, take}
use Rattle.std.specs.List.{flat_map}
use Rattle.pbx_link_definitions.specs.Definitions.{parts as parts_of, enum_definitions}
use Rattle.pbx_link_definitions.proofs.definitions.add_enums.Given as goal

abbrev pub invariant-loop-index : goal.invariant-loop-index
invariant-loop-index l = l.table ≡ l.initial.table ++ flat_map enum_definitions (parts_of l.scope l.place l.number (take l.index l.items))
