use Rattle.std.proofs.Common.{◌≡◌, ◌++◌, drop, map}
use Rattle.std.specs.List.{flat_map}
use Rattle.pbx_parse_tree.specs.View.{import_of, top_of}
use Rattle.pbx_parse_translation.specs.Translation.{imports_in}
use Rattle.pbx_parse_translation.proofs.file.imports.Given as goal

abbrev pub invariant-each : goal.invariant-each
invariant-each l = map import_of l.all.items ++ flat_map imports_in (map top_of (drop l.top-index l.tops)) ≡ flat_map imports_in (map top_of l.tops)
