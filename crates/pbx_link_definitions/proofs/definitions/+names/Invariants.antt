use Rattle.std.proofs.Common.{◌≡◌, ◌++◌, take}
use Rattle.std.specs.List.{flat_map}
use Rattle.pbx_link_definitions.specs.Definitions.{parts as parts_of, definitions_from}
use Rattle.pbx_link_definitions.proofs.definitions.+names.Given as goal

abbrev pub invariant-add_messages-loop-index : goal.invariant-add_messages-loop-index
invariant-add_messages-loop-index l = l.table ≡ l.initial.table ++ flat_map definitions_from (parts_of l.scope l.place l.number (take l.index l.message-items))
