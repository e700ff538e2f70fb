-- What the statements of a block set, and what may stand behind them.
use Rattle.std.specs.Prelude.{List, [], ◌∷◌, ◌++◌, map, Bool, true, false, not, ◌&&◌, Option, Some, None}
use Rattle.pbx_parse_tree.specs.declared.tree.Version.{Version}
use Rattle.pbx_parse_tree.specs.declared.options.OptionPlace.TheVariants as places
use Rattle.pbx_parse_tree.specs.Tree.{Setting, EnumItem, enum_option, MethodItem, empty_in_method, method_option, ServiceItem, service_option, Item, item_option, Package, Top, top_package, top_option}
use Rattle.pbx_parse_tree.specs.Conditions.{option_fits, enum_item_fits, enum_setting, method_setting, service_item_fits, service_setting, item_fits, top_fits, top_setting, top_package_of}
use Rattle.pbx_parse_tree.specs.Fits.{may_follow}
use Rattle.pbx_parse_tree.specs.View.{setting_of}
use Rattle.pbx_parse_reader.specs.declared.blocks.Seen as code_seen

-- what the statements before set, and whether one of them names a package
pub record Before : Type 0 where
  pub settings : List Setting
  pub named : Bool

abbrev pub nothing : Before
nothing = record { settings = []; named = false }

abbrev pub before_of : code_seen.Seen → Before
before_of s = record { settings = map setting_of s.settings.items; named = s.named }

-- and what one more sets
abbrev pub settings_after : List Setting → Option Setting → List Setting
settings_after ss None = ss
settings_after ss (Some s) = ss ++ s ∷ []

abbrev pub package_after : Bool → Option Package → Bool
package_after b None = b
package_after b (Some p) = true

-- each may stand behind those before it
unfoldable pub all_behind : {A : Type 0} → (Before → A → Bool) → (Before → A → Before) → Before → List A → Bool
all_behind behind after b [] = true
all_behind behind after b (x ∷ xs) = behind b x && all_behind behind after (after b x) xs

-- ---- one more of a block

abbrev pub enum_behind : Before → EnumItem → Bool
enum_behind b (enum_option s) = may_follow (option_fits places.Enum) b.settings s.setting
enum_behind b i = enum_item_fits i

abbrev pub enum_after : Before → EnumItem → Before
enum_after b i = record { settings = settings_after b.settings (enum_setting i); named = b.named }

abbrev pub method_behind : Before → MethodItem → Bool
method_behind b (method_option s) = may_follow (option_fits places.Method) b.settings s.setting
method_behind b (empty_in_method s) = true

abbrev pub method_after : Before → MethodItem → Before
method_after b i = record { settings = settings_after b.settings (method_setting i); named = b.named }

abbrev pub service_behind : Before → ServiceItem → Bool
service_behind b (service_option s) = may_follow (option_fits places.Service) b.settings s.setting
service_behind b i = service_item_fits i

abbrev pub service_after : Before → ServiceItem → Before
service_after b i = record { settings = settings_after b.settings (service_setting i); named = b.named }

abbrev pub item_behind : Version → List Setting → Item → Bool
item_behind v before (item_option s) = may_follow (option_fits places.Message) before s.setting
item_behind v before i = item_fits v i

-- a package, only where none is named yet
abbrev pub top_behind : Version → Before → Top → Bool
top_behind v b (top_option s) = may_follow (option_fits places.File) b.settings s.setting
top_behind v b (top_package p) = not b.named
top_behind v b t = top_fits v t

abbrev pub top_after : Before → Top → Before
top_after b t = record { settings = settings_after b.settings (top_setting t); named = package_after b.named (top_package_of t) }
