-- The options record of a place.
use Rattle.std.proofs.Common.{◌≡◌, ℕ, ◌≤◌, List, [], ◌∷◌, ◌++◌, length, map, drop, Some, refl, ap, ◌∙◌}
use Rattle.std.specs.List.{flat_map}
use Rattle.pbx_wire.specs.declared.rec.Rec.{Rec}
use Rattle.pbx_parse_tree.specs.declared.tree.Setting as code_setting
use Rattle.pbx_parse_tree.specs.declared.options.OptionPlace.{OptionPlace}
use Rattle.pbx_parse_tree.specs.View.{setting_of}
use Rattle.pbx_parse_translation.specs.Settings.{setting_records, options_with, options_of}
use Rattle.pbx_parse_translation.proofs.Lists.{flat_seen, none_left}

abbrev pub seen_records : OptionPlace → code_setting.Setting → List Rec
seen_records place s = setting_records place (setting_of s)

-- once each setting is passed
pub options_all : (place : OptionPlace) (settings : List code_setting.Setting) (i : ℕ) (recs : List Rec) → length settings ≤ i → recs ++ flat_map (seen_records place) (drop i settings) ≡ flat_map (seen_records place) settings
    → options_with recs ≡ options_of place (map setting_of settings)
unfolding options_of
options_all place settings i recs past so_far =
    ap options_with (none_left (seen_records place) settings i recs (flat_map (seen_records place) settings) past so_far ∙ flat_seen (setting_records place) setting_of settings)

pub options_some : (recs : List Rec) → (recs ≡ [] → ⊥) → Some (record { recs = recs }) ≡ options_with recs
options_some [] some = absurd (some refl)
options_some (r ∷ rs) some = refl
