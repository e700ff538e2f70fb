use Rattle.std.proofs.Common.{◌≡◌, drop, map}
use Rattle.pbx_parse_tree.specs.Conditions.{packages}
use Rattle.pbx_parse_tree.specs.View.{top_of}
use Rattle.pbx_parse_translation.specs.Translation.{package_name}
use Rattle.pbx_parse_translation.proofs.file.package_name.Given as goal

abbrev pub invariant-each : goal.invariant-each
invariant-each l = package_name (packages (map top_of (drop l.top-index l.tops))) ≡ package_name (packages (map top_of l.tops))
