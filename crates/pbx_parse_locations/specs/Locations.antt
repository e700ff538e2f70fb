-- Where the parts of a file stand in its source: `SourceCodeInfo` of descriptor.proto, without comments. Option
-- statements, single options, ranges, reserved names, `extend` blocks, what they extend, the entries of map fields and
-- synthetic oneofs have no location.
use Rattle.std.specs.Prelude.{◌≡◌, ℕ, ◌+◌, ℤ, pos, List, [], ◌∷◌, ◌++◌, length, map, true, false, Option, Some, None, option_map, unwrap_or, ◌==◌, if◌then◌else◌}
use Rattle.std.specs.List.{flat_map}
use Rattle.pbx_desc_records.specs.declared.source.Location.{Location}
use Rattle.pbx_parse_token.specs.declared.token.Span.{Span}
use Rattle.pbx_parse_token.specs.Tokens.{Token}
use Rattle.pbx_parse_tree.specs.Tree.{Number, TypeName, Kind, scalar, named_type, Settings, Tail, Field, MapField, Member, empty_member, member, Oneof, Extension, empty_extension, extension, Extend, Value, EnumItem, enum_value, Enum, MethodEnd, method_semicolon, method_block, Method, ServiceItem, service_method, Service, Item, item_field, item_map, item_oneof, item_enum, item_extend, Head, Body, end, item, message, Syntax, Import, Top, top_package, top_import, top_message, top_enum, top_extend, top_service, File}
use Rattle.pbx_parse_locations.specs.declared.field.Typed.{Typed}
use Rattle.pbx_parse_locations.specs.declared.file.Extent.{Extent}

-- ---- one location

-- From the first token to the last: its line and its column, the line of the last where that is another one, and
-- the column behind it.
abbrev pub span_of : Span → Span → List ℤ
span_of a b = if a.line == b.line then pos a.line ∷ pos a.from ∷ pos b.to ∷ [] else pos a.line ∷ pos a.from ∷ pos b.line ∷ pos b.to ∷ []

-- what has this path stands from one token to the other
abbrev pub place : List ℤ → Span → Span → Location
place path a b = record { path = path; span = span_of a b; leading_comments = None; trailing_comments = None; leading_detached_comments = []; unknown = [] }

-- the field of this number of what has this path
abbrev pub part : List ℤ → ℕ → Span → Span → Location
part path n a b = place (path ++ pos n ∷ []) a b

-- the path of an element of a repeated field
abbrev pub element : List ℤ → ℕ → ℕ → List ℤ
element path n i = path ++ pos n ∷ pos i ∷ []

-- The locations of each in the list, which has its place in the list as its index, counted from here.
abbrev pub numbered : {A : Type 0} → (ℕ → A → List Location) → ℕ → List A → List Location
numbered one i [] = []
numbered one i (x ∷ xs) = one i x ++ numbered one (i + 1) xs

-- These locations are added, and the index behind the last is k.
pub record Adds {A : Type 0} (one : ℕ → A → List Location) (xs : List A) (i k : ℕ) (old new : List Location) : Type 0 where
  pub all : new ≡ old ++ numbered one i xs
  pub count : k ≡ i + length xs

abbrev pub last_of : {A : Type 0} → A → List A → A
last_of x [] = x
last_of x (y ∷ ys) = last_of y ys

-- what has a keyword, a name and a block up to its `}`, and its name
abbrev pub block : List ℤ → Span → Span → Span → List Location
block path keyword name close = place path keyword close ∷ part path 1 name name ∷ []

-- ---- names of types, and options

abbrev pub first_of_type : TypeName → Span
first_of_type t = unwrap_or t.dot t.full.first.span

abbrev pub last_of_type : TypeName → Span
last_of_type t = (last_of t.full.first (map (λ x. x.1) t.full.more)).span

-- the name of a type, with its dots
abbrev pub type_part : List ℤ → ℕ → TypeName → Location
type_part path n t = part path n (first_of_type t) (last_of_type t)

-- options from `[` to `]`
abbrev pub settings_part : List ℤ → ℕ → Option Settings → List Location
settings_part path n None = []
settings_part path n (Some s) = part path n s.open s.close ∷ []

-- ---- fields

-- the type of a field
abbrev pub type_of_kind : Kind → Typed
type_of_kind (scalar s span) = record { is_named = false; first = span; last = span }
type_of_kind (named_type t) = record { is_named = true; first = first_of_type t; last = last_of_type t }

-- a scalar type is the field `type`, which is 5, and the name of a type or `map<..>` is `type_name`, which is 6
abbrev pub type_field : Typed → ℕ
type_field t = if t.is_named then 6 else 5

-- the parts of fields, extensions, members of oneofs and map fields
pub record Parts : Type 0 where
  pub label : Option Span
  pub typed : Typed
  pub tail : Tail

abbrev pub parts_of_field : Field → Parts
parts_of_field f = record { label = option_map (λ l. l.1) f.label; typed = type_of_kind f.kind; tail = f.tail }

-- its type is from `map` to `>`
abbrev pub parts_of_map : MapField → Parts
parts_of_map m = record { label = None; typed = record { is_named = true; first = m.keyword; last = m.close }; tail = m.tail }

abbrev pub member_parts : Member → List Parts
member_parts (empty_member s) = []
member_parts (member k t) = record { label = None; typed = type_of_kind k; tail = t } ∷ []

abbrev pub extension_parts : Extension → List Parts
extension_parts (empty_extension s) = []
extension_parts (extension f) = parts_of_field f ∷ []

abbrev pub extend_parts : Extend → List Parts
extend_parts e = flat_map extension_parts e.extensions

abbrev pub label_part : List ℤ → Option Span → List Location
label_part path None = []
label_part path (Some s) = part path 4 s s ∷ []

-- a field, its name, number, label, type and options
abbrev pub field_locations : List ℤ → Parts → List Location
field_locations path p =
    place path (unwrap_or p.label p.typed.first) p.tail.end ∷ part path 1 p.tail.name.span p.tail.name.span
    ∷ part path 3 p.tail.number.span p.tail.number.span ∷ []
    ++ label_part path p.label
    ++ part path (type_field p.typed) p.typed.first p.typed.last ∷ []
    ++ settings_part path 8 p.tail.settings

abbrev pub field_at : List ℤ → ℕ → ℕ → Parts → List Location
field_at path n i p = field_locations (element path n i) p

-- ---- enums

abbrev pub first_of_number : Number → Span
first_of_number n = unwrap_or n.minus n.span

-- a value, its name, number and options
abbrev pub value_locations : List ℤ → Value → List Location
value_locations path v =
    place path v.name.span v.end ∷ part path 1 v.name.span v.name.span ∷ part path 2 (first_of_number v.number) v.number.span ∷ []
    ++ settings_part path 3 v.settings

abbrev pub value_at : List ℤ → ℕ → Value → List Location
value_at path i v = value_locations (element path 2 i) v

abbrev pub item_values : EnumItem → List Value
item_values (enum_value v) = v ∷ []
item_values _ = []

-- an enum, its name and its values
abbrev pub enum_locations : List ℤ → Enum → List Location
enum_locations path e = block path e.keyword e.name.span e.close ++ numbered (value_at path) 0 (flat_map item_values e.items)

abbrev pub enum_at : List ℤ → ℕ → ℕ → Enum → List Location
enum_at path n i e = enum_locations (element path n i) e

-- ---- services

abbrev pub last_of_method : MethodEnd → Span
last_of_method (method_semicolon s) = s
last_of_method (method_block «open» is close) = close

-- a method, its name, and the names of its input and its output
abbrev pub method_locations : List ℤ → Method → List Location
method_locations path m =
    place path m.keyword (last_of_method m.end) ∷ part path 1 m.name.span m.name.span
    ∷ type_part path 2 m.input.name ∷ type_part path 3 m.output.name ∷ []

abbrev pub method_at : List ℤ → ℕ → Method → List Location
method_at path i m = method_locations (element path 2 i) m

abbrev pub item_methods : ServiceItem → List Method
item_methods (service_method m) = m ∷ []
item_methods _ = []

-- a service, its name and its methods
abbrev pub service_locations : List ℤ → Service → List Location
service_locations path s = block path s.keyword s.name.span s.close ++ numbered (method_at path) 0 (flat_map item_methods s.items)

-- ---- messages

-- the fields: those of the message itself, map fields, and the members of its oneofs
abbrev pub item_fields : Item → List Parts
item_fields (item_field f) = parts_of_field f ∷ []
item_fields (item_map m) = parts_of_map m ∷ []
item_fields (item_oneof o) = flat_map member_parts o.members
item_fields _ = []

abbrev pub item_enums : Item → List Enum
item_enums (item_enum e) = e ∷ []
item_enums _ = []

abbrev pub item_extensions : Item → List Parts
item_extensions (item_extend e) = extend_parts e
item_extensions _ = []

abbrev pub item_oneofs : Item → List Oneof
item_oneofs (item_oneof o) = o ∷ []
item_oneofs _ = []

-- how many nested messages are made of an item: a map field has one, its entry
abbrev pub entries : Item → ℕ
entries (item_map m) = 1
entries _ = 0

-- what the items of a body have, without those of messages in it
abbrev pub of_items : {A : Type 0} → (Item → List A) → Body → List A
of_items one end = []
of_items one (item i b) = one i ++ of_items one b
of_items one (message h inner close b) = of_items one b

abbrev pub oneof_at : List ℤ → ℕ → Oneof → List Location
oneof_at path i o = block (element path 8 i) o.keyword o.name.span o.close

-- a message, its name and what it holds, with these as the locations of its nested messages
abbrev pub message_with : List Location → List ℤ → Span → Span → Body → Span → List Location
message_with nested path keyword name b close =
    block path keyword name close
    ++ numbered (field_at path 2) 0 (of_items item_fields b)
    ++ nested
    ++ numbered (enum_at path 4) 0 (of_items item_enums b)
    ++ numbered (field_at path 6) 0 (of_items item_extensions b)
    ++ numbered (oneof_at path) 0 (of_items item_oneofs b)

-- The messages of a body, each with what it holds; i counts the nested messages before them, and entries are some.
unfoldable pub nested_from : List ℤ → ℕ → Body → List Location
nested_from path i end = []
nested_from path i (item x b) = nested_from path (i + entries x) b
nested_from path i (message h inner close b) =
    message_with (nested_from (element path 3 i) 0 inner) (element path 3 i) h.keyword h.name.span inner close
    ++ nested_from path (i + 1) b

abbrev pub message_locations : List ℤ → Span → Span → Body → Span → List Location
message_locations path keyword name b close = message_with (nested_from path 0 b) path keyword name b close

-- ---- files

abbrev pub package_location : Top → List Location
package_location (top_package p) = part [] 2 p.keyword p.end ∷ []
package_location _ = []

abbrev pub top_imports : Top → List Import
top_imports (top_import i) = i ∷ []
top_imports _ = []

abbrev pub top_messages : Top → List (Head × Body × Span)
top_messages (top_message h b close) = (h, b, close) ∷ []
top_messages _ = []

abbrev pub top_enums : Top → List Enum
top_enums (top_enum e) = e ∷ []
top_enums _ = []

abbrev pub top_services : Top → List Service
top_services (top_service s) = s ∷ []
top_services _ = []

abbrev pub top_extensions : Top → List Parts
top_extensions (top_extend e) = extend_parts e
top_extensions _ = []

abbrev pub import_at : ℕ → Import → List Location
import_at i x = place (element [] 3 i) x.keyword x.end ∷ []

abbrev pub message_at : ℕ → Head × Body × Span → List Location
message_at i m = message_locations (element [] 4 i) m.0.keyword m.0.name.span m.1 m.2

abbrev pub service_at : ℕ → Service → List Location
service_at i s = service_locations (element [] 6 i) s

abbrev pub syntax_location : Option Syntax → List Location
syntax_location None = []
syntax_location (Some s) = part [] 12 s.keyword s.end ∷ []

-- from the first token to the last, or the first column where there is none
abbrev pub extent_of : List Token → Extent
extent_of [] = let start : Span = record { line = 0; from = 0; to = 0 } in record { from = start; to = start }
extent_of (t ∷ ts) = record { from = t.span; to = (last_of t ts).span }

-- The locations of a file of this extent, by their paths.
abbrev pub locations_in : Extent → File → List Location
locations_in whole f =
    place [] whole.from whole.to ∷ []
    ++ flat_map package_location f.tops
    ++ numbered import_at 0 (flat_map top_imports f.tops)
    ++ numbered message_at 0 (flat_map top_messages f.tops)
    ++ numbered (enum_at [] 5) 0 (flat_map top_enums f.tops)
    ++ numbered service_at 0 (flat_map top_services f.tops)
    ++ numbered (field_at [] 7) 0 (flat_map top_extensions f.tops)
    ++ syntax_location f.syntax

-- the same of a file of these tokens
abbrev pub locations_of : List Token → File → List Location
locations_of tokens f = locations_in (extent_of tokens) f
