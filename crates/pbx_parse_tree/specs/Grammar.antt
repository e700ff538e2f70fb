-- The tokens that a syntax tree spells: the grammar of the language specification. A function `x_then` gives the
-- tokens of an x, and then the rest.
use Rattle.std.specs.Prelude.{ℕ, List, [], ◌∷◌, Option, Some, None, codes}
use Rattle.pbx_parse_token.specs.Tokens.{Token, ident, int, str, mark}
use Rattle.pbx_parse_token.specs.declared.token.Span.{Span}
use Rattle.pbx_parse_tree.specs.declared.tree.Label.{Label}
use Rattle.pbx_parse_tree.specs.declared.tree.Modifier.{Modifier}
use Rattle.pbx_parse_tree.specs.Words.{scalar_word, label_word, modifier_word}
use Rattle.pbx_parse_tree.specs.Tree.{Name, Literal, Count, Number, Separated, TypeName, Kind, scalar, named_type, Constant, constant_number, constant_identifier, constant_string, Setting, Settings, Statement, RangeEnd, range_number, range_max, Range, Extensions, Reserved, reserved_ranges, reserved_names, Tail, Field, MapField, Member, empty_member, member, Oneof, Extension, empty_extension, extension, Extend, Value, EnumItem, empty_in_enum, enum_value, enum_reserved, enum_option, Enum, MethodType, MethodItem, empty_in_method, method_option, MethodEnd, method_semicolon, method_block, Method, ServiceItem, empty_in_service, service_method, service_option, Service, Item, empty_item, item_field, item_map, item_oneof, item_enum, item_extend, item_extensions, item_reserved, item_option, Head, Body, end, item, message, Syntax, Package, Import, Top, empty_top, top_package, top_import, top_message, top_enum, top_extend, top_service, top_option, File}

-- ---- one token

abbrev pub marked : ℕ → Span → Token
marked b s = record { word = mark b; span = s }

abbrev pub worded : List ℕ → Span → Token
worded t s = record { word = ident t; span = s }

abbrev pub named : Name → Token
named n = worded n.text n.span

abbrev pub quoted : Literal → Token
quoted l = record { word = str l.text; span = l.span }

abbrev pub counted : Count → Token
counted n = record { word = int n.value; span = n.span }

-- ---- what several productions share

-- a mark that may be left out
abbrev pub mark_then : ℕ → Option Span → List Token → List Token
mark_then b None rest = rest
mark_then b (Some s) rest = marked b s ∷ rest

-- a word that may be left out
abbrev pub word_then : List ℕ → Option Span → List Token → List Token
word_then t None rest = rest
word_then t (Some s) rest = worded t s ∷ rest

-- any number of them
unfoldable pub list_then : {A : Type 0} → (A → List Token → List Token) → List A → List Token → List Token
list_then one_then [] rest = rest
list_then one_then (x ∷ xs) rest = one_then x (list_then one_then xs rest)

-- a mark and one more
abbrev pub next_then : {A : Type 0} → ℕ → (A → List Token → List Token) → Span × A → List Token → List Token
next_then b one_then x rest = marked b x.0 ∷ one_then x.1 rest

-- one or more with marks between them
abbrev pub separated_then : {A : Type 0} → ℕ → (A → List Token → List Token) → Separated A → List Token → List Token
separated_then b one_then s rest = one_then s.first (list_then (next_then b one_then) s.more rest)

abbrev pub name_then : Name → List Token → List Token
name_then n rest = named n ∷ rest

abbrev pub literal_then : Literal → List Token → List Token
literal_then l rest = quoted l ∷ rest

abbrev pub count_then : Count → List Token → List Token
count_then n rest = counted n ∷ rest

-- [-] INTEGER
abbrev pub number_then : Number → List Token → List Token
number_then n rest = mark_then 45 n.minus (record { word = int n.value; span = n.span } ∷ rest)

-- NAME . NAME ..
abbrev pub full_then : Separated Name → List Token → List Token
full_then f rest = separated_then 46 name_then f rest

-- [.] NAME . NAME ..
abbrev pub type_then : TypeName → List Token → List Token
type_then t rest = mark_then 46 t.dot (full_then t.full rest)

abbrev pub kind_then : Kind → List Token → List Token
kind_then (scalar s span) rest = worded (scalar_word s) span ∷ rest
kind_then (named_type t) rest = type_then t rest

-- ---- options

abbrev pub constant_then : Constant → List Token → List Token
constant_then (constant_number n) rest = number_then n rest
constant_then (constant_identifier n) rest = named n ∷ rest
constant_then (constant_string l) rest = quoted l ∷ rest

-- NAME = CONSTANT
abbrev pub setting_then : Setting → List Token → List Token
setting_then s rest = named s.name ∷ marked 61 s.equals ∷ constant_then s.value rest

-- [ SETTING, .. ]
abbrev pub some_settings_then : Settings → List Token → List Token
some_settings_then s rest = marked 91 s.open ∷ separated_then 44 setting_then s.settings (marked 93 s.close ∷ rest)

-- the same, or nothing
abbrev pub settings_then : Option Settings → List Token → List Token
settings_then None rest = rest
settings_then (Some s) rest = some_settings_then s rest

-- option SETTING ;
abbrev pub statement_then : Statement → List Token → List Token
statement_then s rest = worded (codes "option") s.keyword ∷ setting_then s.setting (marked 59 s.end ∷ rest)

-- ---- ranges

abbrev pub range_end_then : {A : Type 0} → (A → List Token → List Token) → RangeEnd A → List Token → List Token
range_end_then one_then (range_number n) rest = one_then n rest
range_end_then one_then (range_max s) rest = worded (codes "max") s ∷ rest

abbrev pub to_then : {A : Type 0} → (A → List Token → List Token) → Option (Span × RangeEnd A) → List Token → List Token
to_then one_then None rest = rest
to_then one_then (Some t) rest = worded (codes "to") t.0 ∷ range_end_then one_then t.1 rest

-- NUMBER [to (NUMBER | max)]
abbrev pub range_then : {A : Type 0} → (A → List Token → List Token) → Range A → List Token → List Token
range_then one_then r rest = one_then r.from (to_then one_then r.to rest)

-- extensions RANGE, .. ;
abbrev pub extensions_then : Extensions → List Token → List Token
extensions_then e rest = worded (codes "extensions") e.keyword ∷ separated_then 44 (range_then count_then) e.ranges (marked 59 e.end ∷ rest)

-- reserved (RANGE, .. | STRING, ..) ;
abbrev pub reserved_then : {A : Type 0} → (A → List Token → List Token) → Reserved A → List Token → List Token
reserved_then one_then (reserved_ranges keyword rs close) rest =
    worded (codes "reserved") keyword ∷ separated_then 44 (range_then one_then) rs (marked 59 close ∷ rest)
reserved_then one_then (reserved_names keyword ns close) rest = worded (codes "reserved") keyword ∷ separated_then 44 literal_then ns (marked 59 close ∷ rest)

-- ---- fields

-- NAME = INTEGER [SETTINGS] ;
abbrev pub tail_then : Tail → List Token → List Token
tail_then t rest = named t.name ∷ marked 61 t.equals ∷ counted t.number ∷ settings_then t.settings (marked 59 t.end ∷ rest)

abbrev pub label_then : Option (Label × Span) → List Token → List Token
label_then None rest = rest
label_then (Some l) rest = worded (label_word l.0) l.1 ∷ rest

-- [LABEL] KIND NAME = INTEGER [SETTINGS] ;
abbrev pub field_then : Field → List Token → List Token
field_then f rest = label_then f.label (kind_then f.kind (tail_then f.tail rest))

-- map < SCALAR , KIND > NAME = INTEGER [SETTINGS] ;
abbrev pub map_then : MapField → List Token → List Token
map_then m rest =
    worded (codes "map") m.keyword ∷ marked 60 m.open ∷ worded (scalar_word m.key) m.key_span ∷ marked 44 m.comma ∷ kind_then m.value (marked 62 m.close ∷ tail_then m.tail rest)

-- ; or KIND NAME = INTEGER [SETTINGS] ;
abbrev pub member_then : Member → List Token → List Token
member_then (empty_member s) rest = marked 59 s ∷ rest
member_then (member k t) rest = kind_then k (tail_then t rest)

-- oneof NAME { MEMBER .. }
abbrev pub oneof_then : Oneof → List Token → List Token
oneof_then o rest = worded (codes "oneof") o.keyword ∷ named o.name ∷ marked 123 o.open ∷ list_then member_then o.members (marked 125 o.close ∷ rest)

-- ; or a field
abbrev pub extension_then : Extension → List Token → List Token
extension_then (empty_extension s) rest = marked 59 s ∷ rest
extension_then (extension f) rest = field_then f rest

-- extend TYPE { EXTENSION .. }
abbrev pub extend_then : Extend → List Token → List Token
extend_then e rest =
    worded (codes "extend") e.keyword ∷ type_then e.extendee (marked 123 e.open ∷ list_then extension_then e.extensions (marked 125 e.close ∷ rest))

-- ---- enums

-- NAME = NUMBER [SETTINGS] ;
abbrev pub value_then : Value → List Token → List Token
value_then v rest = named v.name ∷ marked 61 v.equals ∷ number_then v.number (settings_then v.settings (marked 59 v.end ∷ rest))

abbrev pub enum_item_then : EnumItem → List Token → List Token
enum_item_then (empty_in_enum s) rest = marked 59 s ∷ rest
enum_item_then (enum_value v) rest = value_then v rest
enum_item_then (enum_reserved r) rest = reserved_then number_then r rest
enum_item_then (enum_option s) rest = statement_then s rest

-- enum NAME { ITEM .. }
abbrev pub enum_then : Enum → List Token → List Token
enum_then e rest = worded (codes "enum") e.keyword ∷ named e.name ∷ marked 123 e.open ∷ list_then enum_item_then e.items (marked 125 e.close ∷ rest)

-- ---- services

-- ( [stream] TYPE )
abbrev pub method_type_then : MethodType → List Token → List Token
method_type_then t rest = marked 40 t.open ∷ word_then (codes "stream") t.stream (type_then t.name (marked 41 t.close ∷ rest))

abbrev pub method_item_then : MethodItem → List Token → List Token
method_item_then (empty_in_method s) rest = marked 59 s ∷ rest
method_item_then (method_option s) rest = statement_then s rest

-- ; or { ITEM .. }
abbrev pub method_end_then : MethodEnd → List Token → List Token
method_end_then (method_semicolon s) rest = marked 59 s ∷ rest
method_end_then (method_block «open» is close) rest = marked 123 «open» ∷ list_then method_item_then is (marked 125 close ∷ rest)

-- rpc NAME TYPE returns TYPE END
abbrev pub method_then : Method → List Token → List Token
method_then m rest =
    worded (codes "rpc") m.keyword ∷ named m.name ∷ method_type_then m.input (worded (codes "returns") m.returns ∷ method_type_then m.output (method_end_then m.end rest))

abbrev pub service_item_then : ServiceItem → List Token → List Token
service_item_then (empty_in_service s) rest = marked 59 s ∷ rest
service_item_then (service_method m) rest = method_then m rest
service_item_then (service_option s) rest = statement_then s rest

-- service NAME { ITEM .. }
abbrev pub service_then : Service → List Token → List Token
service_then s rest = worded (codes "service") s.keyword ∷ named s.name ∷ marked 123 s.open ∷ list_then service_item_then s.items (marked 125 s.close ∷ rest)

-- ---- messages

abbrev pub item_then : Item → List Token → List Token
item_then (empty_item s) rest = marked 59 s ∷ rest
item_then (item_field f) rest = field_then f rest
item_then (item_map m) rest = map_then m rest
item_then (item_oneof o) rest = oneof_then o rest
item_then (item_enum e) rest = enum_then e rest
item_then (item_extend e) rest = extend_then e rest
item_then (item_extensions e) rest = extensions_then e rest
item_then (item_reserved r) rest = reserved_then count_then r rest
item_then (item_option s) rest = statement_then s rest

-- message NAME {
abbrev pub head_then : Head → List Token → List Token
head_then h rest = worded (codes "message") h.keyword ∷ named h.name ∷ marked 123 h.open ∷ rest

unfoldable pub body_then : Body → List Token → List Token
body_then end rest = rest
body_then (item i b) rest = item_then i (body_then b rest)
body_then (message h inner close b) rest = head_then h (body_then inner (marked 125 close ∷ body_then b rest))

-- ---- files

-- syntax = STRING ;
abbrev pub syntax_then : Syntax → List Token → List Token
syntax_then s rest = worded (codes "syntax") s.keyword ∷ marked 61 s.equals ∷ quoted s.value ∷ marked 59 s.end ∷ rest

-- package FULL ;
abbrev pub package_then : Package → List Token → List Token
package_then p rest = worded (codes "package") p.keyword ∷ full_then p.full (marked 59 p.end ∷ rest)

abbrev pub modifier_then : Option (Modifier × Span) → List Token → List Token
modifier_then None rest = rest
modifier_then (Some m) rest = worded (modifier_word m.0) m.1 ∷ rest

-- import [MODIFIER] STRING ;
abbrev pub import_then : Import → List Token → List Token
import_then i rest = worded (codes "import") i.keyword ∷ modifier_then i.modifier (quoted i.path ∷ marked 59 i.end ∷ rest)

abbrev pub top_then : Top → List Token → List Token
top_then (empty_top s) rest = marked 59 s ∷ rest
top_then (top_package p) rest = package_then p rest
top_then (top_import i) rest = import_then i rest
top_then (top_message h b close) rest = head_then h (body_then b (marked 125 close ∷ rest))
top_then (top_enum e) rest = enum_then e rest
top_then (top_extend e) rest = extend_then e rest
top_then (top_service s) rest = service_then s rest
top_then (top_option s) rest = statement_then s rest

abbrev pub first_then : Option Syntax → List Token → List Token
first_then None rest = rest
first_then (Some s) rest = syntax_then s rest

abbrev pub file_then : File → List Token → List Token
file_then f rest = first_then f.syntax (list_then top_then f.tops rest)
