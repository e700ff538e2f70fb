use Rattle.std.proofs.Common.{◌≡◌, take, map}
use Rattle.pbx_link_tables.specs.Entries.{entry as entry_of}
use Rattle.pbx_link_tables.proofs.entry.part_entries.Given as goal

abbrev pub invariant-loop-part : goal.invariant-loop-part
invariant-loop-part g l = l.table ≡ map (entry_of g.T.Named.name) (take l.part-index l.parts)
