-- What the code's values stand for.
use Rattle.std.specs.Prelude.{List, [], ◌∷◌, Option, None, map, option_map}
use Rattle.pbx_parse_token.specs.declared.token.Span.{Span}
use Rattle.pbx_parse_tree.specs.declared.tree.Name as code_name
use Rattle.pbx_parse_tree.specs.declared.tree.Literal as code_literal
use Rattle.pbx_parse_tree.specs.declared.tree.FieldNumber as code_field_number
use Rattle.pbx_parse_tree.specs.declared.tree.RangeNumber as code_range_number
use Rattle.pbx_parse_tree.specs.declared.tree.EnumNumber as code_enum_number
use Rattle.pbx_parse_tree.specs.declared.tree.Number as code_number
use Rattle.pbx_parse_tree.specs.declared.tree.Separated as code_separated
use Rattle.pbx_parse_tree.specs.declared.tree.TypeName as code_type
use Rattle.pbx_parse_tree.specs.declared.tree.Kind as code_kind
use Rattle.pbx_parse_tree.specs.declared.tree.Kind.TheVariants as kinds
use Rattle.pbx_parse_tree.specs.declared.tree.Constant as code_constant
use Rattle.pbx_parse_tree.specs.declared.tree.Constant.TheVariants as constants
use Rattle.pbx_parse_tree.specs.declared.tree.Setting as code_setting
use Rattle.pbx_parse_tree.specs.declared.tree.Settings as code_settings
use Rattle.pbx_parse_tree.specs.declared.tree.Statement as code_statement
use Rattle.pbx_parse_tree.specs.declared.tree.RangeEnd as code_range_end
use Rattle.pbx_parse_tree.specs.declared.tree.RangeEnd.TheVariants as range_ends
use Rattle.pbx_parse_tree.specs.declared.tree.Range as code_range
use Rattle.pbx_parse_tree.specs.declared.tree.Extensions as code_extensions
use Rattle.pbx_parse_tree.specs.declared.tree.Reserved as code_reserved
use Rattle.pbx_parse_tree.specs.declared.tree.Reserved.TheVariants as reserved
use Rattle.pbx_parse_tree.specs.declared.tree.Tail as code_tail
use Rattle.pbx_parse_tree.specs.declared.tree.Field as code_field
use Rattle.pbx_parse_tree.specs.declared.tree.MapField as code_map
use Rattle.pbx_parse_tree.specs.declared.tree.Member as code_member
use Rattle.pbx_parse_tree.specs.declared.tree.Member.TheVariants as members
use Rattle.pbx_parse_tree.specs.declared.tree.Oneof as code_oneof
use Rattle.pbx_parse_tree.specs.declared.tree.Extension as code_extension
use Rattle.pbx_parse_tree.specs.declared.tree.Extension.TheVariants as extensions
use Rattle.pbx_parse_tree.specs.declared.tree.Extend as code_extend
use Rattle.pbx_parse_tree.specs.declared.tree.Value as code_value
use Rattle.pbx_parse_tree.specs.declared.tree.EnumItem as code_enum_item
use Rattle.pbx_parse_tree.specs.declared.tree.EnumItem.TheVariants as enum_items
use Rattle.pbx_parse_tree.specs.declared.tree.Enum as code_enum
use Rattle.pbx_parse_tree.specs.declared.tree.MethodType as code_method_type
use Rattle.pbx_parse_tree.specs.declared.tree.MethodItem as code_method_item
use Rattle.pbx_parse_tree.specs.declared.tree.MethodItem.TheVariants as method_items
use Rattle.pbx_parse_tree.specs.declared.tree.MethodEnd as code_method_end
use Rattle.pbx_parse_tree.specs.declared.tree.MethodEnd.TheVariants as method_ends
use Rattle.pbx_parse_tree.specs.declared.tree.Method as code_method
use Rattle.pbx_parse_tree.specs.declared.tree.ServiceItem as code_service_item
use Rattle.pbx_parse_tree.specs.declared.tree.ServiceItem.TheVariants as service_items
use Rattle.pbx_parse_tree.specs.declared.tree.Service as code_service
use Rattle.pbx_parse_tree.specs.declared.tree.Head as code_head
use Rattle.pbx_parse_tree.specs.declared.tree.Item as code_item
use Rattle.pbx_parse_tree.specs.declared.tree.Item.TheOpen as layers
use Rattle.pbx_parse_tree.specs.declared.tree.Item.TheFolds.{fold-Item}
use Rattle.pbx_parse_tree.specs.declared.tree.Message as code_message
use Rattle.pbx_parse_tree.specs.declared.tree.Syntax as code_syntax
use Rattle.pbx_parse_tree.specs.declared.tree.Package as code_package
use Rattle.pbx_parse_tree.specs.declared.tree.Import as code_import
use Rattle.pbx_parse_tree.specs.declared.tree.Top as code_top
use Rattle.pbx_parse_tree.specs.declared.tree.Top.TheVariants as tops
use Rattle.pbx_parse_tree.specs.declared.tree.File as code_file
use Rattle.pbx_parse_tree.specs.Conditions.{item_setting}
use Rattle.pbx_parse_tree.specs.Tree.{Name, Literal, Count, Number, Separated, TypeName, Kind, scalar, named_type, Constant, constant_number, constant_identifier, constant_string, Setting, Settings, Statement, RangeEnd, range_number, range_max, Range, Extensions, Reserved, reserved_ranges, reserved_names, Tail, Field, MapField, Member, empty_member, member, Oneof, Extension, empty_extension, extension, Extend, Value, EnumItem, empty_in_enum, enum_value, enum_reserved, enum_option, Enum, MethodType, MethodItem, empty_in_method, method_option, MethodEnd, method_semicolon, method_block, Method, ServiceItem, empty_in_service, service_method, service_option, Service, Item, empty_item, item_field, item_map, item_oneof, item_enum, item_extend, item_extensions, item_reserved, item_option, Head, Body, end, item, message, Syntax, Package, Import, Top, empty_top, top_package, top_import, top_message, top_enum, top_extend, top_service, top_option, File}

abbrev pub name_of : code_name.Name → Name
name_of n = record { text = n.text.now; span = n.span }

abbrev pub literal_of : code_literal.Literal → Literal
literal_of l = record { text = l.text.now; span = l.span }

abbrev pub field_number_of : code_field_number.FieldNumber → Count
field_number_of n = record { value = n.value; span = n.span }

abbrev pub range_number_of : code_range_number.RangeNumber → Count
range_number_of n = record { value = n.value; span = n.span }

abbrev pub enum_number_of : code_enum_number.EnumNumber → Number
enum_number_of n = record { minus = n.minus; value = n.value; span = n.span }

abbrev pub number_of : code_number.Number → Number
number_of n = record { minus = n.minus; value = n.value; span = n.span }

-- one with the mark before it
abbrev pub next_of : {A B : Type 0} → (A → B) → Span × A → Span × B
next_of view x = (x.0, view x.1)

abbrev pub separated_of : {A B : Type 0} → (A → B) → code_separated.Separated A → Separated B
separated_of view s = record { first = view s.first; more = map (next_of view) s.more.items }

abbrev pub type_of : code_type.TypeName → TypeName
type_of t = record { dot = t.dot; full = separated_of name_of t.full }

abbrev pub kind_of : code_kind.Kind → Kind
kind_of (kinds.Scalar s span) = scalar s span
kind_of (kinds.Named t) = named_type (type_of t)

abbrev pub constant_of : code_constant.Constant → Constant
constant_of (constants.Number n) = constant_number (number_of n)
constant_of (constants.Identifier n) = constant_identifier (name_of n)
constant_of (constants.String l) = constant_string (literal_of l)

abbrev pub setting_of : code_setting.Setting → Setting
setting_of s = record { name = name_of s.name; equals = s.equals; value = constant_of s.value }

abbrev pub settings_of : code_settings.Settings → Settings
settings_of s = record { «open» = s.open; settings = separated_of setting_of s.settings.value; close = s.close }

abbrev pub statement_of : code_statement.Statement → Statement
statement_of s = record { keyword = s.keyword; setting = setting_of s.setting; end = s.end }

abbrev pub range_end_of : {A B : Type 0} → (A → B) → code_range_end.RangeEnd A → RangeEnd B
range_end_of view (range_ends.Number n) = range_number (view n)
range_end_of view (range_ends.Max s) = range_max s

abbrev pub range_of : {A B : Type 0} → (A → B) → code_range.Range A → Range B
range_of view r = record { from = view r.from; to = option_map (next_of (range_end_of view)) r.to }

abbrev pub extensions_of : code_extensions.Extensions → Extensions
extensions_of e = record { keyword = e.keyword; ranges = separated_of (range_of range_number_of) e.ranges; end = e.end }

abbrev pub reserved_of : {A B : Type 0} → (A → B) → code_reserved.Reserved A → Reserved B
reserved_of view (reserved.Ranges keyword rs close) = reserved_ranges keyword (separated_of (range_of view) rs) close
reserved_of view (reserved.Names keyword ns close) = reserved_names keyword (separated_of literal_of ns) close

abbrev pub tail_of : code_tail.Tail → Tail
tail_of t = record { name = name_of t.name; equals = t.equals; number = field_number_of t.number; settings = option_map settings_of t.settings; end = t.end }

abbrev pub field_of : code_field.Field → Field
field_of f = record { label = f.label; kind = kind_of f.kind; tail = tail_of f.tail }

abbrev pub map_of : code_map.MapField → MapField
map_of m = record {
  keyword = m.keyword;
  «open» = m.open;
  key = m.key;
  key_span = m.key_span;
  comma = m.comma;
  value = kind_of m.value;
  close = m.close;
  tail = tail_of m.tail;
}

abbrev pub member_of : code_member.Member → Member
member_of (members.Empty s) = empty_member s
member_of (members.Field k t) = member (kind_of k) (tail_of t)

abbrev pub oneof_of : code_oneof.Oneof → Oneof
oneof_of o = record { keyword = o.keyword; name = name_of o.name; «open» = o.open; members = map member_of o.members.items; close = o.close }

abbrev pub extension_of : code_extension.Extension → Extension
extension_of (extensions.Empty s) = empty_extension s
extension_of (extensions.Field f) = extension (field_of f)

abbrev pub extend_of : code_extend.Extend → Extend
extend_of e = record { keyword = e.keyword; extendee = type_of e.extendee; «open» = e.open; extensions = map extension_of e.extensions.items; close = e.close }

abbrev pub value_of : code_value.Value → Value
value_of v = record { name = name_of v.name; equals = v.equals; number = enum_number_of v.number; settings = option_map settings_of v.settings; end = v.end }

abbrev pub enum_item_of : code_enum_item.EnumItem → EnumItem
enum_item_of (enum_items.Empty s) = empty_in_enum s
enum_item_of (enum_items.Value v) = enum_value (value_of v)
enum_item_of (enum_items.Reserved r) = enum_reserved (reserved_of enum_number_of r)
enum_item_of (enum_items.Option s) = enum_option (statement_of s)

abbrev pub enum_of : code_enum.Enum → Enum
enum_of e = record { keyword = e.keyword; name = name_of e.name; «open» = e.open; items = map enum_item_of e.items.items; close = e.close }

abbrev pub method_type_of : code_method_type.MethodType → MethodType
method_type_of t = record { «open» = t.open; stream = t.stream; name = type_of t.name; close = t.close }

abbrev pub method_item_of : code_method_item.MethodItem → MethodItem
method_item_of (method_items.Empty s) = empty_in_method s
method_item_of (method_items.Option s) = method_option (statement_of s)

abbrev pub method_end_of : code_method_end.MethodEnd → MethodEnd
method_end_of (method_ends.Semicolon s) = method_semicolon s
method_end_of (method_ends.Block «open» is close) = method_block «open» (map method_item_of is.items) close

abbrev pub method_of : code_method.Method → Method
method_of m = record {
  keyword = m.keyword;
  name = name_of m.name;
  input = method_type_of m.input;
  returns = m.returns;
  output = method_type_of m.output;
  end = method_end_of m.end;
}

abbrev pub service_item_of : code_service_item.ServiceItem → ServiceItem
service_item_of (service_items.Empty s) = empty_in_service s
service_item_of (service_items.Method m) = service_method (method_of m)
service_item_of (service_items.Option s) = service_option (statement_of s)

abbrev pub service_of : code_service.Service → Service
service_of s = record { keyword = s.keyword; name = name_of s.name; «open» = s.open; items = map service_item_of s.items.items; close = s.close }

abbrev pub head_of : code_head.Head → Head
head_of h = record { keyword = h.keyword; name = name_of h.name; «open» = h.open }

-- one item of a body: a message, or what holds none
pub data BodyItem : Type 0 where
  plain : Item → BodyItem
  nested : Head → Body → Span → BodyItem

-- the body with this first
abbrev pub add : BodyItem → Body → Body
add (plain i) b = item i b
add (nested h inner close) b = message h inner close b

abbrev pub all_before : List BodyItem → Body → Body
all_before [] b = b
all_before (p ∷ ps) b = add p (all_before ps b)

abbrev pub item_step : layers.Item-F BodyItem → BodyItem
item_step (layers.Empty s) = plain (empty_item s)
item_step (layers.Field f) = plain (item_field (field_of f))
item_step (layers.Map m) = plain (item_map (map_of m))
item_step (layers.Oneof o) = plain (item_oneof (oneof_of o))
item_step (layers.Message h is close) = nested (head_of h) (all_before is.items end) close
item_step (layers.Enum e) = plain (item_enum (enum_of e))
item_step (layers.Extend e) = plain (item_extend (extend_of e))
item_step (layers.Extensions e) = plain (item_extensions (extensions_of e))
item_step (layers.Reserved r) = plain (item_reserved (reserved_of range_number_of r))
item_step (layers.Option s) = plain (item_option (statement_of s))

abbrev pub item_of : code_item.Item → BodyItem
item_of = fold-Item BodyItem item_step

-- the body of these items
abbrev pub body_of : List code_item.Item → Body
body_of is = all_before (map item_of is) end

-- what an option statement among the items sets
abbrev pub body_item_setting : BodyItem → Option Setting
body_item_setting (plain i) = item_setting i
body_item_setting (nested h inner close) = None

abbrev pub message_of : code_message.Message → Top
message_of m = top_message (head_of m.head) (body_of m.items.items) m.close

abbrev pub syntax_of : code_syntax.Syntax → Syntax
syntax_of s = record { keyword = s.keyword; equals = s.equals; value = literal_of s.value; end = s.end }

abbrev pub package_of : code_package.Package → Package
package_of p = record { keyword = p.keyword; full = separated_of name_of p.full; end = p.end }

abbrev pub import_of : code_import.Import → Import
import_of i = record { keyword = i.keyword; modifier = i.modifier; path = literal_of i.path; end = i.end }

abbrev pub top_of : code_top.Top → Top
top_of (tops.Empty s) = empty_top s
top_of (tops.Package p) = top_package (package_of p)
top_of (tops.Import i) = top_import (import_of i)
top_of (tops.Message m) = message_of m
top_of (tops.Enum e) = top_enum (enum_of e)
top_of (tops.Extend e) = top_extend (extend_of e)
top_of (tops.Service s) = top_service (service_of s)
top_of (tops.Option s) = top_option (statement_of s)

abbrev pub file_of : code_file.File → File
file_of f = record { syntax = option_map syntax_of f.syntax; tops = map top_of f.tops.items }
