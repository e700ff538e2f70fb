-- What the tests of a tree's parts answer.
use Rattle.std.specs.Prelude.{◌≡◌, List, Bool, true, false, ◌&&◌, Option, Some, None, Result, Ok, Err}
use Rattle.pbx_parse_tree.specs.declared.conditions.Expected.{Expected}
use Rattle.pbx_parse_tree.specs.declared.conditions.Allowed as code_allowed
use Rattle.pbx_parse_tree.specs.declared.conditions.Allowed.TheVariants as allowances
use Rattle.pbx_parse_tree.specs.declared.conditions.Wanted.{Wanted}
use Rattle.pbx_parse_tree.specs.declared.conditions.Wanted.TheVariants as wants
use Rattle.pbx_parse_tree.specs.Tree.{Constant, Setting}
use Rattle.pbx_parse_tree.specs.Conditions.{is_of_kind, default_fits, option_fits, map_setting_fits, field_setting_fits, lacks}
use Rattle.pbx_parse_tree.specs.View.{kind_of}

-- nothing exactly where the test holds, else what could stand there
abbrev pub Fits : Bool → Result Unit Expected → Type 0
Fits b (Ok u) = b ≡ true
Fits b (Err e) = b ≡ false

-- the setting is one of those that may stand there
abbrev pub allowed : code_allowed.Allowed → Setting → Bool
allowed (allowances.Field k) s = field_setting_fits (kind_of k.now) s
allowed allowances.Map s = map_setting_fits s
allowed (allowances.Option p) s = option_fits p s

-- the setting may stand behind these: it is one of those that may stand there, and its name is not set yet
abbrev pub may_follow : (Setting → Bool) → List Setting → Setting → Bool
may_follow fits before s = lacks s.name.text before && fits s

-- the value is one of those that are wanted
abbrev pub wanted_fits : Wanted → Constant → Bool
wanted_fits (wants.Option k) c = is_of_kind k c
wanted_fits (wants.Default k) c = default_fits (kind_of k.now) c

-- the same, where any are wanted
abbrev pub if_wanted : Option Wanted → Constant → Bool
if_wanted None c = false
if_wanted (Some w) c = wanted_fits w c

-- a name that fits leaves it to the value; where the name does not, no value does
abbrev pub named_fits : Result Wanted Expected → Constant → Bool
named_fits (Ok w) c = wanted_fits w c
named_fits (Err e) c = false
