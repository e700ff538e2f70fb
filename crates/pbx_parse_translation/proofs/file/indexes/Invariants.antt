use Rattle.std.proofs.Common.{◌≡◌, ◌++◌, drop, map}
use Rattle.pbx_parse_tree.specs.View.{import_of}
use Rattle.pbx_parse_translation.specs.Translation.{indexes_from}
use Rattle.pbx_parse_translation.proofs.file.indexes.Given as goal

abbrev pub invariant-loop-i : goal.invariant-loop-i
invariant-loop-i l = l.indexes ++ indexes_from l.i l.modifier (map import_of (drop l.i l.imports)) ≡ indexes_from 0 l.modifier (map import_of l.imports)
