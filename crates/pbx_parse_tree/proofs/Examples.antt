-- Some whole trees, the tokens that they spell, and whether they fit.
use Rattle.std.proofs.Common.{◌≡◌, ℕ, ◌+◌, List, [], ◌∷◌, true, false, Option, Some, None, map, codes, refl}
use Rattle.pbx_parse_token.specs.declared.token.Span.{Span}
use Rattle.pbx_parse_token.specs.Tokens.{Token, ident, int, str, mark}
use Rattle.pbx_parse_tree.specs.declared.tree.Scalar.TheVariants as scalars
use Rattle.pbx_parse_tree.specs.declared.tree.Label.TheVariants as labels
use Rattle.pbx_parse_tree.specs.declared.tree.Modifier.TheVariants as modifiers
use Rattle.pbx_parse_tree.specs.declared.tree.Version.TheVariants as versions
use Rattle.pbx_parse_tree.specs.Tree.{Name, Literal, Count, Number, TypeName, Kind, scalar, named_type, Constant, constant_number, constant_identifier, constant_string, Setting, RangeEnd, range_number, range_max, Range, Reserved, reserved_ranges, reserved_names, Tail, Field, MapField, empty_member, member, Oneof, method_option, method_block, Method, item_field, Body, end, item, message, empty_top, top_package, top_import, top_message, File}
use Rattle.pbx_parse_tree.specs.Grammar.{list_then, field_then, map_then, oneof_then, method_then, reserved_then, count_then, number_then, body_then, file_then}
use Rattle.pbx_parse_tree.specs.Conditions.{lacks, all_fit, field_fits, map_fits, oneof_fits, method_fits, reserved_fits, is_range_number, is_enum_number, body_settings, body_fits}

-- ---- the token of each place

abbrev place : ℕ → Span
place n = record { line = 0; from = n; to = n + 1 }

abbrev word : List ℕ → ℕ → Token
word t n = record { word = ident t; span = place n }

abbrev integer : ℕ → ℕ → Token
integer v n = record { word = int v; span = place n }

abbrev quote : List ℕ → ℕ → Token
quote t n = record { word = str t; span = place n }

abbrev sign : List ℕ → ℕ → Token
sign [] n = record { word = mark 0; span = place n }
sign (b ∷ bs) n = record { word = mark b; span = place n }

-- ---- small trees

abbrev name : List ℕ → ℕ → Name
name t n = record { text = t; span = place n }

abbrev string : List ℕ → ℕ → Literal
string t n = record { text = t; span = place n }

abbrev count : ℕ → ℕ → Count
count v n = record { value = v; span = place n }

abbrev plain_type : List ℕ → ℕ → TypeName
plain_type t n = record { dot = None; full = record { first = name t n; more = [] } }

-- NAME = CONSTANT, from a place on
abbrev setting : List ℕ → ℕ → Constant → Setting
setting t n c = record { name = name t n; equals = place (n + 1); value = c }

-- NAME = INTEGER ; from a place on
abbrev tail : List ℕ → ℕ → ℕ → Tail
tail t v n = record { name = name t n; equals = place (n + 1); number = count v (n + 2); settings = None; end = place (n + 3) }

-- ---- optional bytes b = 7 [default = "\377", deprecated = true];

abbrev a_default : ℕ → Setting
a_default n = setting (codes "default") n (constant_string (string (codes "\\377") (n + 2)))

abbrev field : Field
field = record {
  label = Some (labels.Optional, place 0);
  kind = scalar scalars.Bytes (place 1);
  tail = record {
    name = name (codes "b") 2;
    equals = place 3;
    number = count 7 4;
    settings = Some (record {
      «open» = place 5;
      settings = record {
        first = a_default 6;
        more = (place 9, setting (codes "deprecated") 10 (constant_identifier (name (codes "true") 12))) ∷ [];
      };
      close = place 13;
    });
    end = place 14;
  };
}

field_spelled : field_then field []
    ≡ word (codes "optional") 0 ∷ word (codes "bytes") 1 ∷ word (codes "b") 2 ∷ sign (codes "=") 3 ∷ integer 7 4 ∷ sign (codes "[") 5
    ∷ word (codes "default") 6 ∷ sign (codes "=") 7 ∷ quote (codes "\\377") 8 ∷ sign (codes ",") 9
    ∷ word (codes "deprecated") 10 ∷ sign (codes "=") 11 ∷ word (codes "true") 12 ∷ sign (codes "]") 13 ∷ sign (codes ";") 14 ∷ []
unfolding list_then
field_spelled = refl

field_is_right : field_fits versions.Proto2 field ≡ true
unfolding all_fit lacks
field_is_right = refl

no_label_is_wrong : field_fits versions.Proto2 (record field { label = None }) ≡ false
unfolding all_fit lacks
no_label_is_wrong = refl

no_label_in_proto3 : field_fits versions.Proto3 (record field { label = None }) ≡ true
unfolding all_fit lacks
no_label_in_proto3 = refl

-- the default of a field of a named type is a word
other_kind_is_wrong : field_fits versions.Proto2 (record field { kind = named_type (plain_type (codes "B") 1) }) ≡ false
unfolding all_fit lacks
other_kind_is_wrong = refl

abbrev with : List Setting → Field
with [] = field
with (s ∷ ss) = record field { tail = record field.tail { settings = Some (record { «open» = place 5; settings = record { first = s; more = map (λ t. (place 9, t)) ss }; close = place 13 }) } }

abbrev number_default : Setting
number_default = setting (codes "default") 6 (constant_number (record { minus = None; value = 0; span = place 8 }))

number_is_right : field_fits versions.Proto2 (record (with (number_default ∷ [])) { kind = scalar scalars.Fixed32 (place 1) }) ≡ true
unfolding all_fit lacks
number_is_right = refl

float_is_wrong : field_fits versions.Proto2 (record (with (number_default ∷ [])) { kind = scalar scalars.Float (place 1) }) ≡ false
unfolding all_fit lacks
float_is_wrong = refl

twice_is_wrong : field_fits versions.Proto2 (with (a_default 6 ∷ a_default 10 ∷ [])) ≡ false
unfolding all_fit lacks
twice_is_wrong = refl

unknown_is_wrong : field_fits versions.Proto2 (with (setting (codes "allow_alias") 6 (constant_identifier (name (codes "true") 8)) ∷ [])) ≡ false
unfolding all_fit lacks
unknown_is_wrong = refl

-- ---- map<sint64, .a.B> m = 1;

abbrev map_field : MapField
map_field = record {
  keyword = place 0;
  «open» = place 1;
  key = scalars.Sint64;
  key_span = place 2;
  comma = place 3;
  value = named_type (record { dot = Some (place 4); full = record { first = name (codes "a") 5; more = (place 6, name (codes "B") 7) ∷ [] } });
  close = place 8;
  tail = tail (codes "m") 1 9;
}

map_spelled : map_then map_field []
    ≡ word (codes "map") 0 ∷ sign (codes "<") 1 ∷ word (codes "sint64") 2 ∷ sign (codes ",") 3 ∷ sign (codes ".") 4 ∷ word (codes "a") 5
    ∷ sign (codes ".") 6 ∷ word (codes "B") 7 ∷ sign (codes ">") 8 ∷ word (codes "m") 9 ∷ sign (codes "=") 10 ∷ integer 1 11 ∷ sign (codes ";") 12 ∷ []
unfolding list_then
map_spelled = refl

map_is_right : map_fits map_field ≡ true
unfolding all_fit
map_is_right = refl

bytes_key_is_wrong : map_fits (record map_field { key = scalars.Bytes }) ≡ false
unfolding all_fit
bytes_key_is_wrong = refl

-- ---- oneof o { ; int32 a = 1; B b = 2147483647; }

abbrev oneof : Oneof
oneof = record {
  keyword = place 0;
  name = name (codes "o") 1;
  «open» = place 2;
  members = empty_member (place 3) ∷ member (scalar scalars.Int32 (place 4)) (tail (codes "a") 1 5) ∷ member (named_type (plain_type (codes "B") 9)) (tail (codes "b") 2147483647 10) ∷ [];
  close = place 14;
}

oneof_spelled : oneof_then oneof []
    ≡ word (codes "oneof") 0 ∷ word (codes "o") 1 ∷ sign (codes "{") 2 ∷ sign (codes ";") 3
    ∷ word (codes "int32") 4 ∷ word (codes "a") 5 ∷ sign (codes "=") 6 ∷ integer 1 7 ∷ sign (codes ";") 8
    ∷ word (codes "B") 9 ∷ word (codes "b") 10 ∷ sign (codes "=") 11 ∷ integer 2147483647 12 ∷ sign (codes ";") 13 ∷ sign (codes "}") 14 ∷ []
unfolding list_then
oneof_spelled = refl

oneof_is_right : oneof_fits oneof ≡ true
unfolding all_fit
oneof_is_right = refl

great_number_is_wrong : oneof_fits (record oneof { members = member (scalar scalars.Int32 (place 4)) (tail (codes "a") 2147483648 5) ∷ [] }) ≡ false
unfolding all_fit
great_number_is_wrong = refl

-- ---- rpc Get(stream A) returns (.B) { option deprecated = false; }

abbrev method : Method
method = record {
  keyword = place 0;
  name = name (codes "Get") 1;
  input = record { «open» = place 2; stream = Some (place 3); name = plain_type (codes "A") 4; close = place 5 };
  returns = place 6;
  output = record { «open» = place 7; stream = None; name = record { dot = Some (place 8); full = record { first = name (codes "B") 9; more = [] } }; close = place 10 };
  end = method_block (place 11) (method_option (record { keyword = place 12; setting = setting (codes "deprecated") 13 (constant_identifier (name (codes "false") 15)); end = place 16 }) ∷ []) (place 17);
}

method_spelled : method_then method []
    ≡ word (codes "rpc") 0 ∷ word (codes "Get") 1 ∷ sign (codes "(") 2 ∷ word (codes "stream") 3 ∷ word (codes "A") 4 ∷ sign (codes ")") 5
    ∷ word (codes "returns") 6 ∷ sign (codes "(") 7 ∷ sign (codes ".") 8 ∷ word (codes "B") 9 ∷ sign (codes ")") 10 ∷ sign (codes "{") 11
    ∷ word (codes "option") 12 ∷ word (codes "deprecated") 13 ∷ sign (codes "=") 14 ∷ word (codes "false") 15 ∷ sign (codes ";") 16 ∷ sign (codes "}") 17 ∷ []
unfolding list_then
method_spelled = refl

method_is_right : method_fits method ≡ true
unfolding all_fit lacks
method_is_right = refl

-- `stream` is no type here, and a type there
stream_alone_is_wrong : method_fits (record method { input = record { «open» = place 2; stream = None; name = plain_type (codes "stream") 4; close = place 5 } }) ≡ false
unfolding all_fit lacks
stream_alone_is_wrong = refl

stream_of_stream : method_fits (record method { input = record { «open» = place 2; stream = Some (place 3); name = plain_type (codes "stream") 4; close = place 5 } }) ≡ true
unfolding all_fit lacks
stream_of_stream = refl

-- ---- reserved 2, 9 to max; and reserved -3 to 0; and reserved "a";

abbrev range : {A : Type 0} → A → Option (Span × RangeEnd A) → Range A
range a o = record { from = a; to = o }

abbrev in_message : Reserved Count
in_message = reserved_ranges (place 0) (record { first = range (count 2 1) None; more = (place 2, range (count 9 3) (Some (place 4, range_max (place 5)))) ∷ [] }) (place 6)

message_ranges_spelled : reserved_then count_then in_message []
    ≡ word (codes "reserved") 0 ∷ integer 2 1 ∷ sign (codes ",") 2 ∷ integer 9 3 ∷ word (codes "to") 4 ∷ word (codes "max") 5 ∷ sign (codes ";") 6 ∷ []
unfolding list_then
message_ranges_spelled = refl

message_ranges_are_right : reserved_fits is_range_number in_message ≡ true
message_ranges_are_right = refl

abbrev number : Option Span → ℕ → ℕ → Number
number o v n = record { minus = o; value = v; span = place n }

abbrev in_enum : Number → Reserved Number
in_enum n = reserved_ranges (place 0) (record { first = range n (Some (place 3, range_number (number None 0 4))); more = [] }) (place 5)

enum_range_spelled : reserved_then number_then (in_enum (number (Some (place 1)) 3 2)) []
    ≡ word (codes "reserved") 0 ∷ sign (codes "-") 1 ∷ integer 3 2 ∷ word (codes "to") 3 ∷ integer 0 4 ∷ sign (codes ";") 5 ∷ []
unfolding list_then
enum_range_spelled = refl

least_number_is_right : reserved_fits is_enum_number (in_enum (number (Some (place 1)) 2147483648 2)) ≡ true
least_number_is_right = refl

great_number_in_enum_is_wrong : reserved_fits is_enum_number (in_enum (number None 2147483648 2)) ≡ false
great_number_in_enum_is_wrong = refl

names_spelled : reserved_then count_then (reserved_names (place 0) (record { first = string (codes "a") 1; more = [] }) (place 2)) [] ≡ word (codes "reserved") 0 ∷ quote (codes "a") 1 ∷ sign (codes ";") 2 ∷ []
unfolding list_then
names_spelled = refl

-- ---- package a.b; import public "c"; ; message M { message N { bool x = 1; } }

abbrev in_two : Kind → Body
in_two k = message (record { keyword = place 12; name = name (codes "N") 13; «open» = place 14 }) (item (item_field (record { label = None; kind = k; tail = tail (codes "x") 1 16 })) end) (place 20) end

abbrev file : File
file = record {
  syntax = None;
  tops =
      top_package (record { keyword = place 0; full = record { first = name (codes "a") 1; more = (place 2, name (codes "b") 3) ∷ [] }; end = place 4 })
      ∷ top_import (record { keyword = place 5; modifier = Some (modifiers.Public, place 6); path = string (codes "c") 7; end = place 8 })
      ∷ top_message (record { keyword = place 9; name = name (codes "M") 10; «open» = place 11 }) (in_two (scalar scalars.Bool (place 15))) (place 21)
      ∷ empty_top (place 22) ∷ [];
}

file_spelled : file_then file []
    ≡ word (codes "package") 0 ∷ word (codes "a") 1 ∷ sign (codes ".") 2 ∷ word (codes "b") 3 ∷ sign (codes ";") 4
    ∷ word (codes "import") 5 ∷ word (codes "public") 6 ∷ quote (codes "c") 7 ∷ sign (codes ";") 8
    ∷ word (codes "message") 9 ∷ word (codes "M") 10 ∷ sign (codes "{") 11 ∷ word (codes "message") 12 ∷ word (codes "N") 13 ∷ sign (codes "{") 14
    ∷ word (codes "bool") 15 ∷ word (codes "x") 16 ∷ sign (codes "=") 17 ∷ integer 1 18 ∷ sign (codes ";") 19 ∷ sign (codes "}") 20 ∷ sign (codes "}") 21 ∷ sign (codes ";") 22 ∷ []
unfolding list_then body_then
file_spelled = refl

two_levels_are_right : body_fits versions.Proto3 1 (in_two (scalar scalars.Bool (place 15))) ≡ true
unfolding body_fits body_settings all_fit
two_levels_are_right = refl

one_level_is_wrong : body_fits versions.Proto3 0 (in_two (scalar scalars.Bool (place 15))) ≡ false
unfolding body_fits
one_level_is_wrong = refl

-- a field of a type named `message` does not begin a field
keyword_is_wrong : body_fits versions.Proto3 1 (in_two (named_type (plain_type (codes "message") 15))) ≡ false
unfolding body_fits body_settings all_fit
keyword_is_wrong = refl

-- a type named `map` does
map_is_a_type : body_fits versions.Proto3 1 (in_two (named_type (plain_type (codes "map") 15))) ≡ true
unfolding body_fits body_settings all_fit
map_is_a_type = refl
