-- What the grammar does not say of a tree that is read.
use Rattle.std.specs.Prelude.{◌≡◌, ℕ, zero, suc, List, [], ◌∷◌, length, Bool, true, false, not, ◌&&◌, ◌||◌, nat_le, Option, Some, None, if◌then◌else◌, codes}
use Rattle.std.specs.List.{list_all, filter_map}
use Rattle.std.specs.Str.{bytes_eq, is_utf8}
use Rattle.pbx_parse_token.specs.declared.token.Span.{Span}
use Rattle.pbx_parse_token.specs.Escapes.{unescaped}
use Rattle.pbx_parse_tree.specs.declared.tree.Scalar.{Scalar}
use Rattle.pbx_parse_tree.specs.declared.tree.Scalar.TheVariants as scalars
use Rattle.pbx_parse_tree.specs.declared.tree.Label.{Label}
use Rattle.pbx_parse_tree.specs.declared.tree.Version.{Version}
use Rattle.pbx_parse_tree.specs.declared.tree.Version.TheVariants as versions
use Rattle.pbx_parse_tree.specs.declared.options.OptionPlace.{OptionPlace}
use Rattle.pbx_parse_tree.specs.declared.options.OptionPlace.TheVariants as places
use Rattle.pbx_parse_tree.specs.declared.options.OptionKind.{OptionKind}
use Rattle.pbx_parse_tree.specs.declared.options.OptionKind.TheVariants as kinds
use Rattle.pbx_parse_tree.specs.declared.options.KnownOption.{KnownOption}
use Rattle.pbx_parse_tree.specs.Words.{is_scalar_word, is_label_word, begins_item}
use Rattle.pbx_parse_tree.specs.Options.{known_option, optimize_mode}
use Rattle.pbx_parse_tree.specs.Tree.{Name, Literal, Count, Number, all_of, TypeName, Kind, scalar, named_type, Constant, constant_number, constant_identifier, constant_string, Setting, Settings, RangeEnd, range_number, range_max, Range, Extensions, Reserved, reserved_ranges, reserved_names, Tail, Field, MapField, Member, empty_member, member, Oneof, Extension, empty_extension, extension, Extend, Value, EnumItem, empty_in_enum, enum_value, enum_reserved, enum_option, Enum, MethodType, MethodItem, empty_in_method, method_option, MethodEnd, method_semicolon, method_block, Method, ServiceItem, empty_in_service, service_method, service_option, Service, Item, empty_item, item_field, item_map, item_oneof, item_enum, item_extend, item_extensions, item_reserved, item_option, Body, end, item, message, Syntax, Package, Import, Top, empty_top, top_package, top_import, top_message, top_enum, top_extend, top_service, top_option, File}

-- ---- numbers, types and strings

-- a field's number fits an `int32`
abbrev pub is_field_number : Count → Bool
is_field_number n = nat_le n.value 2147483647

-- a number in a range of a message is at most the greatest field number
abbrev pub is_range_number : Count → Bool
is_range_number n = nat_le n.value 536870911

abbrev int32_with : Option Span → ℕ → Bool
int32_with None v = nat_le v 2147483647
int32_with (Some s) v = nat_le v 2147483648

-- an enum's number is an `int32`
abbrev pub is_enum_number : Number → Bool
is_enum_number n = int32_with n.minus n.value

-- the word with which a type begins, where no dot stands before it
abbrev pub bare_word : TypeName → Option (List ℕ)
bare_word t = elim t.dot [ None ↦ Some t.full.first.text | (Some s) ↦ None ]

abbrev passes : (List ℕ → Bool) → Option (List ℕ) → Bool
passes p None = false
passes p (Some t) = p t

-- the name of a scalar type is no other type's, unless a dot stands before it
abbrev pub type_fits : TypeName → Bool
type_fits t = not (passes is_scalar_word (bare_word t))

abbrev pub kind_fits : Kind → Bool
kind_fits (scalar s span) = true
kind_fits (named_type t) = type_fits t

-- the type is no keyword of this sort that stands without a dot
abbrev pub kind_is_no : (List ℕ → Bool) → Kind → Bool
kind_is_no p (scalar s span) = true
kind_is_no p (named_type t) = not (passes p (bare_word t))

-- what a string stands for is a text
abbrev pub is_text : Literal → Bool
is_text l = is_utf8 (unescaped l.text)

-- ---- options

abbrev pub is_true_or_false : Name → Bool
is_true_or_false n = bytes_eq n.text (codes "true") || bytes_eq n.text (codes "false")

abbrev is_mode : Option ℕ → Bool
is_mode None = false
is_mode (Some n) = true

-- the value is one of the kind
abbrev pub is_of_kind : OptionKind → Constant → Bool
is_of_kind kinds.Bool (constant_identifier n) = is_true_or_false n
is_of_kind kinds.Text (constant_string l) = is_text l
is_of_kind kinds.OptimizeMode (constant_identifier n) = is_mode (optimize_mode n.text)
is_of_kind _ _ = false

abbrev known_fits : Option KnownOption → Constant → Bool
known_fits None c = false
known_fits (Some k) c = is_of_kind k.kind c

-- the place has the option, and the value is one of its kind
abbrev pub option_fits : OptionPlace → Setting → Bool
option_fits p s = known_fits (known_option p s.name.text) s.value

-- the default of a field: the explicit defaults of the proto2 language guide
abbrev pub default_fits : Kind → Constant → Bool
default_fits (scalar scalars.Double span) c = false
default_fits (scalar scalars.Float span) c = false
default_fits (scalar scalars.Bool span) (constant_identifier n) = is_true_or_false n
default_fits (scalar scalars.Bool span) _ = false
default_fits (scalar scalars.String span) (constant_string l) = is_text l
default_fits (scalar scalars.String span) _ = false
default_fits (scalar scalars.Bytes span) (constant_string l) = true
default_fits (scalar scalars.Bytes span) _ = false
default_fits (scalar s span) (constant_number n) = true
default_fits (scalar s span) _ = false
default_fits (named_type t) (constant_identifier n) = true
default_fits (named_type t) _ = false

abbrev pub is_default : Setting → Bool
is_default s = bytes_eq s.name.text (codes "default")

abbrev pub is_json_name : Setting → Bool
is_json_name s = bytes_eq s.name.text (codes "json_name")

-- a setting of a map field
abbrev pub map_setting_fits : Setting → Bool
map_setting_fits s = if is_json_name s then is_of_kind kinds.Text s.value else option_fits places.Field s

-- a setting of a field of the kind
abbrev pub field_setting_fits : Kind → Setting → Bool
field_setting_fits k s = if is_default s then default_fits k s.value else map_setting_fits s

-- no setting of the name stands here
unfoldable pub lacks : List ℕ → List Setting → Bool
lacks t [] = true
lacks t (s ∷ ss) = not (bytes_eq t s.name.text) && lacks t ss

-- each fits, and no name is set twice
unfoldable pub all_fit : (Setting → Bool) → List Setting → Bool
all_fit fits [] = true
all_fit fits (s ∷ ss) = fits s && lacks s.name.text ss && all_fit fits ss

abbrev pub settings_of : Option Settings → List Setting
settings_of None = []
settings_of (Some s) = all_of s.settings

-- ---- ranges

abbrev pub range_end_fits : {A : Type 0} → (A → Bool) → RangeEnd A → Bool
range_end_fits fits (range_number n) = fits n
range_end_fits fits (range_max s) = true

abbrev pub to_fits : {A : Type 0} → (A → Bool) → Option (Span × RangeEnd A) → Bool
to_fits fits None = true
to_fits fits (Some t) = range_end_fits fits t.1

abbrev pub range_fits : {A : Type 0} → (A → Bool) → Range A → Bool
range_fits fits r = fits r.from && to_fits fits r.to

abbrev pub reserved_fits : {A : Type 0} → (A → Bool) → Reserved A → Bool
reserved_fits fits (reserved_ranges keyword rs close) = list_all (range_fits fits) (all_of rs)
reserved_fits fits (reserved_names keyword ns close) = list_all is_text (all_of ns)

abbrev pub extensions_fit : Extensions → Bool
extensions_fit e = list_all (range_fits is_range_number) (all_of e.ranges)

-- ---- fields

abbrev has_label : Option (Label × Span) → Bool
has_label None = false
has_label (Some l) = true

-- in proto2 a field has a label
abbrev pub label_fits : Version → Option (Label × Span) → Bool
label_fits versions.Proto2 l = has_label l
label_fits versions.Proto3 l = true

-- what follows the kind of a field
abbrev pub tail_fits : (Setting → Bool) → Tail → Bool
tail_fits fits t = is_field_number t.number && all_fit fits (settings_of t.settings)

abbrev pub field_fits : Version → Field → Bool
field_fits v f = label_fits v f.label && kind_fits f.kind && tail_fits (field_setting_fits f.kind) f.tail

-- a field without a label does not begin with such a word
abbrev pub begins_with_no : (List ℕ → Bool) → Field → Bool
begins_with_no p f = has_label f.label || kind_is_no p f.kind

-- the key of a map is an integer, a truth value or a text
abbrev pub is_key : Scalar → Bool
is_key scalars.Double = false
is_key scalars.Float = false
is_key scalars.Bytes = false
is_key _ = true

abbrev pub map_fits : MapField → Bool
map_fits m = is_key m.key && kind_fits m.value && tail_fits map_setting_fits m.tail

-- a member of a oneof has no label
abbrev pub member_fits : Member → Bool
member_fits (empty_member s) = true
member_fits (member k t) = kind_fits k && tail_fits (field_setting_fits k) t

abbrev pub oneof_fits : Oneof → Bool
oneof_fits o = list_all member_fits o.members

-- a label is one, as the first word of a field
abbrev pub extension_fits : Version → Extension → Bool
extension_fits v (empty_extension s) = true
extension_fits v (extension f) = begins_with_no is_label_word f && field_fits v f

abbrev pub extend_fits : Version → Extend → Bool
extend_fits v e = type_fits e.extendee && list_all (extension_fits v) e.extensions

-- ---- enums

abbrev pub value_fits : Value → Bool
value_fits v = is_enum_number v.number && all_fit (option_fits places.EnumValue) (settings_of v.settings)

abbrev pub enum_item_fits : EnumItem → Bool
enum_item_fits (empty_in_enum s) = true
enum_item_fits (enum_value v) = value_fits v
enum_item_fits (enum_reserved r) = reserved_fits is_enum_number r
enum_item_fits (enum_option s) = true

abbrev pub enum_setting : EnumItem → Option Setting
enum_setting (empty_in_enum s) = None
enum_setting (enum_value v) = None
enum_setting (enum_reserved r) = None
enum_setting (enum_option s) = Some s.setting

abbrev pub enum_fits : Enum → Bool
enum_fits e = list_all enum_item_fits e.items && all_fit (option_fits places.Enum) (filter_map enum_setting e.items)

-- ---- services

abbrev is_stream : List ℕ → Bool
is_stream t = bytes_eq t (codes "stream")

abbrev pub stream_fits : Option Span → TypeName → Bool
stream_fits None t = not (passes is_stream (bare_word t))
stream_fits (Some s) t = true

-- `stream` is the keyword, where a type begins with it
abbrev pub method_type_fits : MethodType → Bool
method_type_fits t = type_fits t.name && stream_fits t.stream t.name

abbrev pub method_setting : MethodItem → Option Setting
method_setting (empty_in_method s) = None
method_setting (method_option s) = Some s.setting

abbrev pub method_end_fits : MethodEnd → Bool
method_end_fits (method_semicolon s) = true
method_end_fits (method_block «open» is close) = all_fit (option_fits places.Method) (filter_map method_setting is)

abbrev pub method_fits : Method → Bool
method_fits m = method_type_fits m.input && method_type_fits m.output && method_end_fits m.end

abbrev pub service_item_fits : ServiceItem → Bool
service_item_fits (empty_in_service s) = true
service_item_fits (service_method m) = method_fits m
service_item_fits (service_option s) = true

abbrev pub service_setting : ServiceItem → Option Setting
service_setting (empty_in_service s) = None
service_setting (service_method m) = None
service_setting (service_option s) = Some s.setting

abbrev pub service_fits : Service → Bool
service_fits s = list_all service_item_fits s.items && all_fit (option_fits places.Service) (filter_map service_setting s.items)

-- ---- messages

abbrev pub item_fits : Version → Item → Bool
item_fits v (empty_item s) = true
item_fits v (item_field f) = begins_with_no begins_item f && field_fits v f
item_fits v (item_map m) = map_fits m
item_fits v (item_oneof o) = oneof_fits o
item_fits v (item_enum e) = enum_fits e
item_fits v (item_extend e) = extend_fits v e
item_fits v (item_extensions e) = extensions_fit e
item_fits v (item_reserved r) = reserved_fits is_range_number r
item_fits v (item_option s) = true

abbrev pub item_setting : Item → Option Setting
item_setting (item_option s) = Some s.setting
item_setting (empty_item s) = None
item_setting (item_field f) = None
item_setting (item_map m) = None
item_setting (item_oneof o) = None
item_setting (item_enum e) = None
item_setting (item_extend e) = None
item_setting (item_extensions e) = None
item_setting (item_reserved r) = None

abbrev setting_before : Option Setting → List Setting → List Setting
setting_before None ss = ss
setting_before (Some s) ss = s ∷ ss

-- the option statements of a body, those of messages in it left out
unfoldable pub body_settings : Body → List Setting
body_settings end = []
body_settings (item i b) = setting_before (item_setting i) (body_settings b)
body_settings (message h inner close b) = body_settings b

-- the options of a message
abbrev pub message_options_fit : Body → Bool
message_options_fit b = all_fit (option_fits places.Message) (body_settings b)

-- the items fit, and messages in the body nest at most so many levels
unfoldable pub body_fits : Version → ℕ → Body → Bool
body_fits v levels end = true
body_fits v levels (item i b) = item_fits v i && body_fits v levels b
body_fits v zero (message h inner close b) = false
body_fits v (suc levels) (message h inner close b) = body_fits v levels inner && message_options_fit inner && body_fits v (suc levels) b

-- ---- files

abbrev pub import_fits : Import → Bool
import_fits i = is_text i.path

-- a message at the top is the first of 31 levels
abbrev pub top_fits : Version → Top → Bool
top_fits v (empty_top s) = true
top_fits v (top_package p) = true
top_fits v (top_import i) = import_fits i
top_fits v (top_message h b close) = body_fits v 30 b && message_options_fit b
top_fits v (top_enum e) = enum_fits e
top_fits v (top_extend e) = extend_fits v e
top_fits v (top_service s) = service_fits s
top_fits v (top_option s) = true

abbrev pub top_setting : Top → Option Setting
top_setting (top_option s) = Some s.setting
top_setting (empty_top s) = None
top_setting (top_package p) = None
top_setting (top_import i) = None
top_setting (top_message h b close) = None
top_setting (top_enum e) = None
top_setting (top_extend e) = None
top_setting (top_service s) = None

abbrev pub top_package_of : Top → Option Package
top_package_of (top_package p) = Some p
top_package_of (empty_top s) = None
top_package_of (top_import i) = None
top_package_of (top_message h b close) = None
top_package_of (top_enum e) = None
top_package_of (top_extend e) = None
top_package_of (top_service s) = None
top_package_of (top_option s) = None

-- the packages of a file
abbrev pub packages : List Top → List Package
packages ts = filter_map top_package_of ts

abbrev version_named : List ℕ → Option Version
version_named t = if bytes_eq t (codes "proto3") then Some versions.Proto3 else (if bytes_eq t (codes "proto2") then Some versions.Proto2 else None)

-- the version of the language that the statement names, if there is one of that name
abbrev pub syntax_version : Syntax → Option Version
syntax_version s = version_named (unescaped s.value.text)

-- a file without a syntax statement is of proto2
abbrev pub version_of : Option Syntax → Option Version
version_of None = Some versions.Proto2
version_of (Some s) = syntax_version s

abbrev pub tops_fit : Version → List Top → Bool
tops_fit v ts = list_all (top_fits v) ts && nat_le (length (packages ts)) 1 && all_fit (option_fits places.File) (filter_map top_setting ts)

abbrev pub fit_with : Option Version → List Top → Bool
fit_with None ts = false
fit_with (Some v) ts = tops_fit v ts

-- the file is of a version of the language, and its statements fit
abbrev pub file_fits : File → Bool
file_fits f = fit_with (version_of f.syntax) f.tops

abbrev pub Conditions : File → Type 0
Conditions f = file_fits f ≡ true
