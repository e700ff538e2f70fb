-- Options records.
use Rattle.std.specs.Prelude.{ℕ, List, [], ◌∷◌, Option, Some, None, option_map, if◌then◌else◌, codes}
use Rattle.std.specs.List.{flat_map, find}
use Rattle.std.specs.Str.{bytes_eq}
use Rattle.pbx_wire.specs.declared.rec.Rec.{Rec}
use Rattle.pbx_wire.specs.declared.rec.Rec.TheVariants as rec
use Rattle.pbx_desc_records.specs.declared.options.Options.{Options}
use Rattle.pbx_parse_token.specs.Escapes.{unescaped}
use Rattle.pbx_parse_tree.specs.declared.options.OptionPlace.{OptionPlace}
use Rattle.pbx_parse_tree.specs.declared.options.OptionKind.{OptionKind}
use Rattle.pbx_parse_tree.specs.declared.options.OptionKind.TheVariants as kinds
use Rattle.pbx_parse_tree.specs.declared.options.KnownOption.{KnownOption}
use Rattle.pbx_parse_tree.specs.Options.{known_option, optimize_mode}
use Rattle.pbx_parse_tree.specs.Tree.{Constant, constant_identifier, constant_string, Setting}

-- `true` is 1, and `false` is 0
abbrev pub truth : List ℕ → ℕ
truth word = if bytes_eq word (codes "true") then 1 else 0

abbrev mode_records : ℕ → Option ℕ → List Rec
mode_records n None = []
mode_records n (Some mode) = rec.Varint n mode ∷ []

-- the record that gives this value to the option of a number: a truth value and a value of `FileOptions.OptimizeMode` by
-- their numbers, a string by the bytes that it stands for
abbrev pub constant_records : OptionKind → ℕ → Constant → List Rec
constant_records kinds.Bool n (constant_identifier word) = rec.Varint n (truth word.text) ∷ []
constant_records kinds.OptimizeMode n (constant_identifier word) = mode_records n (optimize_mode word.text)
constant_records kinds.Text n (constant_string l) = rec.Bytes n (unescaped l.text) ∷ []
constant_records _ n _ = []

abbrev pub known_records : Option KnownOption → Constant → List Rec
known_records None value = []
known_records (Some k) value = constant_records k.kind k.number value

-- what a setting at the place puts into the options record; `default` and `json_name` of a field put nothing there
unfoldable pub setting_records : OptionPlace → Setting → List Rec
setting_records place s = known_records (known_option place s.name.text) s.value

abbrev pub options_with : List Rec → Option Options
options_with [] = None
options_with (r ∷ rs) = Some (record { recs = r ∷ rs })

-- the options record of the place, with its records in the order of the settings; absent where none is set
unfoldable pub options_of : OptionPlace → List Setting → Option Options
options_of place settings = options_with (flat_map (setting_records place) settings)

-- the value of the first setting of this name
unfoldable pub set_to : List ℕ → List Setting → Option Constant
set_to name settings = option_map (λ s. s.value) (find (λ s. bytes_eq s.name.text name) settings)
