-- What a tree is as one value of a kind that is no message, and the tree that is written for such a value (ProtoJSON Format: the table of types).
use Rattle.std.specs.Prelude.{ℕ, ◌-◌, ◌^◌, ◌&&◌, ℤ, pos, negsuc, neg_ℤ, int_le, List, Bool, true, false, if◌then◌else◌, Option, Some, None}
use Rattle.std.specs.Prelude.{option_map, find, codes, Result, Ok, Err}
use Rattle.std.specs.Str.{bytes_eq}
use Rattle.serde_json.specs.Data.{Num, Data, null, boolean, number, string}
use Rattle.serde_json.specs.Find.{as_integer}
use Rattle.pbx_content.specs.Content as content
use Rattle.pbx_content.specs.Content.{Val, Key, truth_key, number_key, text_key}
use Rattle.pbx_content.specs.Shape.{enum_values_of, first_number}
use Rattle.pbx_wkt_types.specs.Types.{enum_name}
use Rattle.std.specs.Ordering.{int_eq}
use Rattle.pbx_content.specs.declared.shape.Kind.{Kind}
use Rattle.pbx_content.specs.declared.shape.Kind.TheVariants as kind
use Rattle.pbx_content.specs.declared.shape.Shape.{Shape}
use Rattle.pbx_content.specs.declared.shape.EnumValueShape.{EnumValueShape}
use Rattle.pbx_text.specs.Decimal.{signed_of, unsigned_of}
use Rattle.pbx_text.specs.Base64.{base64_of}
use Rattle.pbx_json_meaning.specs.declared.kind.JsonKind.{JsonKind}
use Rattle.pbx_json_meaning.specs.declared.kind.JsonKind.TheVariants as fault

-- What JSON tells apart among kinds: integers by their least and greatest number, truth values, texts, bytes, floats, messages and enums.
pub data Family : Type 0 where
  integers : ℤ → ℤ → Family
  truths : Family
  texts : Family
  bytes_texts : Family
  floats : Family
  messages : ℕ → Family
  enums : ℕ → Family

-- from -2^(n-1) to 2^(n-1) - 1
abbrev pub signed_integers : ℕ → Family
signed_integers n = integers (neg_ℤ (pos (2 ^ (n - 1)))) (pos (2 ^ (n - 1) - 1))

-- from 0 to 2^n - 1
abbrev pub unsigned_integers : ℕ → Family
unsigned_integers n = integers (pos 0) (pos (2 ^ n - 1))

-- the family of a kind
abbrev pub family : Kind → Family
family kind.Double = floats
family kind.Float = floats
family kind.Int32 = signed_integers 32
family kind.Int64 = signed_integers 64
family kind.Uint32 = unsigned_integers 32
family kind.Uint64 = unsigned_integers 64
family kind.Sint32 = signed_integers 32
family kind.Sint64 = signed_integers 64
family kind.Fixed32 = unsigned_integers 32
family kind.Fixed64 = unsigned_integers 64
family kind.Sfixed32 = signed_integers 32
family kind.Sfixed64 = signed_integers 64
family kind.Bool = truths
family kind.String = texts
family kind.Bytes = bytes_texts
family (kind.Message t) = messages t
family (kind.Enum e) = enums e

-- A value, or the rule that is broken. `Ok None`: an unknown name of an enum, which is dropped where unknown fields are allowed.
abbrev pub Judged : Type 0
Judged = Result (Option Val) JsonKind

-- a value, or the rule that is broken where there is none
abbrev pub or_fault : {X : Type 0} → JsonKind → Option X → Result X JsonKind
or_fault k None = Err k
or_fault k (Some x) = Ok x

-- the result that follows from a value
abbrev pub if_ok : {X Y : Type 0} → Result X JsonKind → (X → Result Y JsonKind) → Result Y JsonKind
if_ok (Ok x) f = f x
if_ok (Err k) f = Err k

-- a number from min to max
abbrev pub in_range : ℤ → ℤ → ℤ → Result ℤ JsonKind
in_range min max z = if int_le min z && int_le z max then Ok z else Err fault.Range

-- a whole number that is written without a fraction and without an exponent, in 64 bits
abbrev pub whole : Num → Result ℤ JsonKind
whole n = or_fault fault.Float (as_integer n)

-- the number of a decimal text: a `-` only where the kind has numbers below 0
abbrev pub decimal_of : ℤ → List ℕ → Option ℤ
decimal_of (pos m) s = option_map pos (unsigned_of s)
decimal_of (negsuc m) s = signed_of s

-- an integer from min to max, as a number or as a decimal text
abbrev pub integer_read : ℤ → ℤ → Data → Result ℤ JsonKind
integer_read min max (number n) = if_ok (whole n) (in_range min max)
integer_read min max (string s) = if_ok (or_fault fault.NotDecimal (decimal_of min s)) (in_range min max)
integer_read min max _ = Err fault.WrongKind

-- `true` or `false`
abbrev pub truth_read : Data → Result Bool JsonKind
truth_read (boolean b) = Ok b
truth_read _ = Err fault.WrongKind

-- a text
abbrev pub text_read : Data → Result (List ℕ) JsonKind
text_read (string s) = Ok s
text_read _ = Err fault.WrongKind

-- a base64 text
abbrev pub bytes_read : Data → Result (List ℕ) JsonKind
bytes_read (string s) = or_fault fault.Base64 (base64_of s)
bytes_read _ = Err fault.WrongKind

-- the enum `google.protobuf.NullValue`, where its first number is 0
abbrev pub is_null_value : Shape → ℕ → Bool
is_null_value shape e = bytes_eq (enum_name shape e) (codes "google.protobuf.NullValue") && int_eq (first_number shape e) (pos 0)

-- the value of a name
abbrev pub value_named : List ℕ → List EnumValueShape → Option EnumValueShape
value_named name vs = find (λ v. bytes_eq v.name name) vs

-- a text that names no value is refused, or dropped where unknown fields are allowed
abbrev pub unknown_name : Bool → Judged
unknown_name allow = if allow then Ok None else Err fault.UnknownEnum

-- the number of the value of a name
abbrev pub number_named : Bool → Option EnumValueShape → Judged
number_named allow None = unknown_name allow
number_named allow (Some v) = Ok (Some (content.number v.number))

-- an integer as a value
abbrev pub as_number : Result ℤ JsonKind → Judged
as_number r = if_ok r (λ z. Ok (Some (content.number z)))

-- the name of a value, or a number in 32 bits, also one that no value has
abbrev pub enum_read : Bool → List EnumValueShape → Data → Judged
enum_read allow vs (string s) = number_named allow (value_named s vs)
enum_read allow vs (number n) = as_number (if_ok (whole n) (in_range (negsuc 2147483647) (pos 2147483647)))
enum_read allow vs _ = Err fault.WrongKind

-- null, or the text `NULL_VALUE`
abbrev pub null_value_read : Bool → Data → Judged
null_value_read allow null = Ok (Some (content.number (pos 0)))
null_value_read allow (string s) = if bytes_eq s (codes "NULL_VALUE") then Ok (Some (content.number (pos 0))) else unknown_name allow
null_value_read allow _ = Err fault.WrongKind

-- What a tree is as one value of a kind that is no message. No tree is a float.
abbrev pub scalar_of : Shape → Bool → Family → Data → Judged
scalar_of shape allow (integers min max) d = as_number (integer_read min max d)
scalar_of shape allow truths d = if_ok (truth_read d) (λ b. Ok (Some (content.truth b)))
scalar_of shape allow texts d = if_ok (text_read d) (λ s. Ok (Some (content.text s)))
scalar_of shape allow bytes_texts d = if_ok (bytes_read d) (λ s. Ok (Some (content.octets s)))
scalar_of shape allow floats d = Err fault.Float
scalar_of shape allow (enums e) d = if is_null_value shape e then null_value_read allow d else enum_read allow (enum_values_of shape e) d
scalar_of shape allow (messages t) d = Err fault.WrongKind

-- what a tree is as one value of a kind that is no message, or the rule that it breaks
abbrev pub scalar_read : Shape → Bool → Kind → Data → Judged
scalar_read shape allow k d = scalar_of shape allow (family k) d

-- the key of a bool map is one of two words
abbrev pub word_read : List ℕ → Result Bool JsonKind
word_read s = if bytes_eq s (codes "true") then Ok true else if bytes_eq s (codes "false") then Ok false else Err fault.WrongKind

-- a key by the family of its kind
abbrev pub key_of : Family → List ℕ → Result Key JsonKind
key_of (integers min max) s = if_ok (integer_read min max (string s)) (λ z. Ok (number_key z))
key_of truths s = if_ok (word_read s) (λ b. Ok (truth_key b))
key_of _ s = Ok (text_key s)

-- what a key of an object is as the key of a map
abbrev pub key_read : Kind → List ℕ → Result Key JsonKind
key_read k s = key_of (family k) s
