use Rattle.std.proofs.Common.{◌≡◌, ◌++◌, take}
use Rattle.std.specs.List.{flat_map}
use Rattle.pbx_link_definitions.specs.Definitions.{enums_in}
use Rattle.pbx_link_definitions.proofs.file_parts.add_enums.Given as goal

abbrev pub invariant-loop-message : goal.invariant-loop-message
invariant-loop-message l = l.enums ≡ l.initial.enums ++ flat_map enums_in (take l.message-index l.messages)
