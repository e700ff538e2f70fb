use Rattle.std.proofs.Common.{◌≡◌, [], ◌++◌, take, map}
use Rattle.pbx_link_definitions.specs.Definitions.{parts}
use Rattle.pbx_link_tables.specs.Entries.{service_entry}
use Rattle.pbx_link_tables.proofs.entry.service_entries.Given as goal

abbrev pub invariant-loop-index : goal.invariant-loop-index
invariant-loop-index l = l.table ≡ [] ++ map service_entry (parts l.scope [] 6 (take l.index l.services))
