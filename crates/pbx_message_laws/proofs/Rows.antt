-- Worked rows: the definitions at closed values.
use Rattle.std.proofs.Common.{◌≡◌, ℕ, true, false, List, [], ◌∷◌, Some, None, refl, arith}
use Rattle.std.specs.Prelude.{pos, negsuc, codes}
use Rattle.std.specs.Str.{is_utf8, chars}
use lib.Utf8.{encode}
use Rattle.pbx_parse_token.specs.Escapes.{escape_at, unescaped_after}
use Rattle.pbx_content.specs.declared.shape.Kind.{Kind}
use Rattle.pbx_content.specs.declared.shape.Kind.TheVariants as kind
use Rattle.pbx_content.specs.declared.shape.Cardinality.TheVariants.{Singular, Repeated, Map}
use Rattle.pbx_content.specs.declared.shape.FieldShape.{FieldShape}
use Rattle.pbx_content.specs.declared.shape.Shape.{Shape}
use Rattle.pbx_content.specs.Content.{content, no_fields, field, number, truth, text, octets, message, empty, many, keyed, no_vals, val, no_pairs, pair}
use Rattle.pbx_content.specs.Content.{number_key}
use Rattle.pbx_message_laws.specs.Defaults.{default_of, value_or_default}
use Rattle.pbx_message_laws.specs.Fields.{set_value}
use Rattle.pbx_message_laws.specs.Settable.{IsSettable}

abbrev single : ℕ → Kind → FieldShape
single n k = record {
  number = n;
  name = [];
  json_name = [];
  is_extension = false;
  kind = k;
  cardinality = Singular;
  presence = false;
  oneof = None;
  packed = false;
  default = None;
  entry = None;
}

abbrev member : ℕ → FieldShape
member n = record (single n kind.Int32) { presence = true; oneof = Some 0 }

abbrev list : FieldShape
list = record (single 4 kind.Int32) { cardinality = Repeated; presence = true }

abbrev mapping : FieldShape
mapping = record (single 5 kind.Bool) { cardinality = Map kind.Sint32 }

abbrev types : List FieldShape
types = single 1 kind.Int32 ∷ member 2 ∷ member 3 ∷ list ∷ mapping ∷ []

-- an enum whose first value is B, with the number 3
abbrev shape : Shape
shape = record {
  messages = [];
  enums =
      record { full_name = []; values = record { name = codes "B"; number = pos 3 } ∷ record { name = codes "A"; number = pos 0 } ∷ [] } ∷ [];
}

-- ---- setting

-- a member has its default as a value, and the other member has none
member_set : set_value shape types (member 3) (number (pos 0)) (content (field 1 (number (pos 5)) (field 2 (number (pos 6)) no_fields)) [])
    ≡ content (field 1 (number (pos 5)) (field 3 (number (pos 0)) no_fields)) []
member_set = refl

-- a field that is set goes to its place by number, and members of oneofs stay
other_set : set_value shape types (single 1 kind.Int32) (number (pos 7)) (content (field 2 (number (pos 6)) no_fields) [])
    ≡ content (field 1 (number (pos 7)) (field 2 (number (pos 6)) no_fields)) []
other_set = refl

-- without presence the default is no value
default_set : set_value shape types (single 1 kind.Int32) (number (pos 0)) (content (field 1 (number (pos 5)) no_fields) []) ≡ empty
default_set = refl

-- a list that is empty is no value, whatever the field says of presence
empty_list_set : set_value shape types list (many no_vals) (content (field 4 (many (val (number (pos 5)) no_vals)) no_fields) []) ≡ empty
empty_list_set = refl

-- so is a map
empty_map_set : set_value shape types mapping (keyed no_pairs) (content (field 5 (keyed (pair (number_key (pos 1)) (truth true) no_pairs)) no_fields) [])
    ≡ empty
empty_map_set = refl

-- a message is never a default
message_set : set_value shape types (single 6 (kind.Message 0)) (message empty) empty ≡ content (field 6 (message empty) no_fields) []
message_set = refl

-- ---- values that may be set

empty_list_settable : IsSettable shape list (many no_vals)
empty_list_settable = tt

keys_ascend : IsSettable shape mapping (keyed (pair (number_key (negsuc 0)) (truth true) (pair (number_key (pos 2)) (truth false) no_pairs)))
keys_ascend = (record { sfits = omega arith }, refl, refl, (record { sfits = omega arith }, refl, tt, tt))

-- no number is a list, and no text a number
number_is_no_list : IsSettable shape list (number (pos 1)) → ⊥
number_is_no_list h = h

text_is_no_number : IsSettable shape (single 1 kind.Int32) (text (codes "1")) → ⊥
text_is_no_number h = Prim.cc h.0

-- a byte that begins no character
bad_text : IsSettable shape (single 1 kind.String) (text (255 ∷ [])) → ⊥
unfolding is_utf8 chars encode
bad_text h = Prim.cc h.1

-- an unsigned kind has no negative number
no_negative : IsSettable shape (single 1 kind.Uint32) (number (negsuc 0)) → ⊥
no_negative h = h

-- ---- defaults

-- the first number of the enum
enum_default : default_of shape (single 1 (kind.Enum 0)) ≡ number (pos 3)
enum_default = refl

named_default : default_of shape (record (single 1 (kind.Enum 0)) { default = Some (codes "A") }) ≡ number (pos 0)
named_default = refl

number_default : default_of shape (record (single 1 kind.Sint64) { default = Some (codes "-12") }) ≡ number (negsuc 11)
number_default = refl

truth_default : default_of shape (record (single 1 kind.Bool) { default = Some (codes "true") }) ≡ truth true
truth_default = refl

-- the bytes that the escapes stand for
bytes_default : default_of shape (record (single 1 kind.Bytes) { default = Some (codes "a\\001") }) ≡ octets (97 ∷ 1 ∷ [])
unfolding unescaped_after escape_at
bytes_default = refl

list_default : default_of shape list ≡ many no_vals
list_default = refl

map_default : default_of shape mapping ≡ keyed no_pairs
map_default = refl

-- a message field that is absent has the empty message
message_default : default_of shape (single 6 (kind.Message 0)) ≡ message empty
message_default = refl

declared_text : value_or_default shape (record (single 1 kind.String) { default = Some (codes "hi") }) None ≡ text (codes "hi")
declared_text = refl

own_value : value_or_default shape (single 1 kind.Int32) (Some (number (pos 4))) ≡ number (pos 4)
own_value = refl
