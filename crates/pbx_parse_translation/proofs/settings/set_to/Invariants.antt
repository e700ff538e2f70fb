use Rattle.std.proofs.Common.{◌≡◌, drop, map}
use Rattle.pbx_parse_tree.specs.View.{setting_of}
use Rattle.pbx_parse_translation.specs.Settings.{set_to}
use Rattle.pbx_parse_translation.proofs.settings.set_to.Given as goal

abbrev pub invariant-each : goal.invariant-each
invariant-each l = set_to l.name (map setting_of (drop l.setting-index l.settings)) ≡ set_to l.name (map setting_of l.settings)
