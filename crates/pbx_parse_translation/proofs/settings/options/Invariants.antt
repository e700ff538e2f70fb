use Rattle.std.proofs.Common.{◌≡◌, ◌++◌, drop}
use Rattle.std.specs.List.{flat_map}
use Rattle.pbx_parse_tree.specs.View.{setting_of}
use Rattle.pbx_parse_translation.specs.Settings.{setting_records}
use Rattle.pbx_parse_translation.proofs.settings.options.Given as goal

abbrev pub invariant-each : goal.invariant-each
invariant-each l = l.recs ++ flat_map (λ s. setting_records l.place (setting_of s)) (drop l.setting-index l.settings) ≡ flat_map (λ s. setting_records l.place (setting_of s)) l.settings
