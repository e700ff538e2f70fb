use Rattle.std.proofs.Common.{◌≡◌, take, map}
use Rattle.pbx_link_tables.specs.Entries.{in_brackets}
use Rattle.pbx_link_tables.proofs.entry.bracketed_names.Given as goal

abbrev pub invariant-loop-entry : goal.invariant-loop-entry
invariant-loop-entry l = l.names ≡ map in_brackets (take l.entry-index l.entries)
