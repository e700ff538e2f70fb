use Rattle.std.proofs.Common.{◌≡◌, ◌++◌, drop, map}
use Rattle.pbx_parse_tree.specs.View.{import_of}
use Rattle.pbx_parse_translation.specs.Translation.{import_name}
use Rattle.pbx_parse_translation.proofs.file.import_names.Given as goal

abbrev pub invariant-each : goal.invariant-each
invariant-each l = l.names ++ map import_name (map import_of (drop l.import-index l.imports)) ≡ map import_name (map import_of l.imports)
