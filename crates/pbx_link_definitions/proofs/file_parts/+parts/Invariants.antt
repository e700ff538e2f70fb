use Rattle.std.proofs.Common.{◌≡◌, ◌++◌, take}
use Rattle.std.specs.List.{flat_map}
use Rattle.pbx_link_definitions.specs.Definitions.{parts as parts_of, messages_from, extensions_from}
use Rattle.pbx_link_definitions.proofs.file_parts.+parts.Given as goal

abbrev pub invariant-add_messages-loop-index : goal.invariant-add_messages-loop-index
invariant-add_messages-loop-index l =
    (l.parts ≡ l.initial.parts ++ flat_map messages_from (parts_of l.scope l.place l.number (take l.index l.message-items)))
    × (l.extensions ≡ l.initial.extensions ++ flat_map extensions_from (parts_of l.scope l.place l.number (take l.index l.message-items)))
