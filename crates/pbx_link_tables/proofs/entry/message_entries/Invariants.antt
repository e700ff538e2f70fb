use Rattle.std.proofs.Common.{◌≡◌, take, map}
use Rattle.pbx_link_tables.specs.Entries.{message_entry}
use Rattle.pbx_link_tables.proofs.entry.message_entries.Given as goal

abbrev pub invariant-loop-part : goal.invariant-loop-part
invariant-loop-part l = l.table ≡ map message_entry (take l.part-index l.parts)
