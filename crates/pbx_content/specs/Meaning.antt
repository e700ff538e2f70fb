-- What records of the wire mean as a message of a type, by filters of their list. None is the answer for records that are not of their fields' forms.
use Rattle.std.specs.Prelude.{ℕ, zero, suc, ◌%◌, ◌/◌, ◌^◌, ℤ, pos, negsuc, List, [], ◌∷◌, map, filter, length, Bool, true, false, not, ◌==◌, Option, Some}
use Rattle.std.specs.Prelude.{None, option_map, option_and_then, if◌then◌else◌}
use Rattle.std.specs.Ordering.{int_eq}
use Rattle.std.specs.Int.{w32, w64, cast_signed}
use Rattle.std.specs.Str.{is_utf8}
use Rattle.pbx_wire.specs.declared.rec.Rec.{Rec}
use Rattle.pbx_content.specs.declared.shape.Kind.{Kind}
use Rattle.pbx_content.specs.declared.shape.Kind.TheVariants as kind
use Rattle.pbx_content.specs.declared.shape.Cardinality.{Cardinality}
use Rattle.pbx_content.specs.declared.shape.Cardinality.TheVariants.{Singular, Repeated, Map}
use Rattle.pbx_content.specs.declared.shape.Shape.{Shape}
use Rattle.pbx_content.specs.declared.shape.FieldShape.{FieldShape}
use Rattle.pbx_content.specs.Content.{Key, truth_key, number_key, text_key, Content, content, fields, empty, get, Fields, no_fields, field, Val, number}
use Rattle.pbx_content.specs.Content.{truth, text, octets, message, many, keyed, no_vals, val, no_pairs, pair, vals_of, by_key}
use Rattle.pbx_content.specs.Records.{varint_of, fixed64_of, fixed32_of, bytes_of, those_of, last_of, each, flat, after_last, records_in, varints_in, fixed_in}
use Rattle.pbx_content.specs.Shape.{fields_of, first_number, entry_fields, Form, as_varint, as_four, as_eight, as_payload, form_of, is_float, is_packable}
use Rattle.pbx_content.specs.Shape.{is_kept, is_rival}

-- ---- numbers

-- Protocol Buffers "Encoding": Signed Integers
abbrev pub unzigzag : ℕ → ℤ
unzigzag n = if n % 2 == 0 then pos (n / 2) else negsuc (n / 2)

-- The value that the number on the wire is: 32-bit kinds keep the low 32 bits of a varint, and of a bool any number but 0 is true, all 64 bits looked at
-- (Protocol Buffers "Language Guide (proto 3)": Updating A Message Type).
abbrev pub numeric : Kind → ℕ → Val
numeric kind.Int32 v = number (cast_signed w32 (v % 2 ^ 32))
numeric kind.Int64 v = number (cast_signed w64 v)
numeric kind.Uint32 v = number (pos (v % 2 ^ 32))
numeric kind.Sint32 v = number (unzigzag (v % 2 ^ 32))
numeric kind.Sint64 v = number (unzigzag v)
numeric kind.Sfixed32 v = number (cast_signed w32 v)
numeric kind.Sfixed64 v = number (cast_signed w64 v)
numeric kind.Bool v = truth (not (v == 0))
numeric (kind.Enum e) v = number (cast_signed w32 (v % 2 ^ 32))
numeric _ v = number (pos v)

-- the number of a record of this form
abbrev pub number_in : Form → Rec → Option ℕ
number_in as_varint r = varint_of r
number_in as_four r = fixed32_of r
number_in as_eight r = fixed64_of r
number_in as_payload r = None

-- the numbers of this form that a payload holds (Protocol Buffers "Encoding": Packed Repeated Fields)
abbrev pub numbers_in : Form → List ℕ → Option (List ℕ)
numbers_in as_varint b = varints_in (length b) b
numbers_in as_four b = fixed_in w32 4 (length b) b
numbers_in as_eight b = fixed_in w64 8 (length b) b
numbers_in as_payload b = None

-- ---- one record

-- What payloads mean together as a message with these fields.
abbrev pub Inner : Type 0
Inner = List FieldShape → List (List ℕ) → Option Content

-- no payload means a message
abbrev pub no_inner : Inner
no_inner fs bs = None

-- a text is UTF-8 (Protocol Buffers "Language Guide (proto 3)": Scalar Value Types)
abbrev pub as_text : List ℕ → Option Val
as_text b = if is_utf8 b then Some (text b) else None

-- one payload as a message (Protocol Buffers "Encoding": Submessages)
abbrev pub as_message : Inner → List FieldShape → List ℕ → Option Val
as_message inner fs b = option_map message (inner fs (b ∷ []))

-- the value of a record, if it has the wire type and form of the kind
abbrev pub alone : Shape → Inner → Kind → Rec → Option Val
alone shape inner kind.Double r = None
alone shape inner kind.Float r = None
alone shape inner kind.String r = option_and_then as_text (bytes_of r)
alone shape inner kind.Bytes r = option_map octets (bytes_of r)
alone shape inner (kind.Message t) r = option_and_then (as_message inner (fields_of shape t)) (bytes_of r)
alone shape inner k r = option_map (numeric k) (number_in (form_of k) r)

-- the values of a payload of numbers (Protocol Buffers "Encoding": Packed Repeated Fields)
abbrev pub packed : Kind → List ℕ → Option (List Val)
packed k b = option_map (map (numeric k)) (numbers_in (form_of k) b)

-- one value as a list
abbrev pub one : Option Val → Option (List Val)
one v = option_map (λ w. w ∷ []) v

-- the values of a payload, if there is one
abbrev pub or_packed : Kind → Option (List Val) → Option (List ℕ) → Option (List Val)
or_packed k alone None = alone
or_packed k alone (Some b) = packed k b

-- the values of a record of a repeated field, which may be packed whatever the field declares (Protocol Buffers "Encoding": Packed Repeated Fields)
abbrev pub spread : Shape → Inner → Kind → Rec → Option (List Val)
spread shape inner k r = if is_packable k then or_packed k (one (alone shape inner k r)) (bytes_of r) else one (alone shape inner k r)

-- ---- defaults

-- the default of a kind: an enum's is its first value's number; a message's, where an entry of a map lacks it, is the empty one
-- (Protocol Buffers "Language Guide (proto 3)": Default Field Values)
abbrev pub zero_of : Shape → Kind → Val
zero_of shape kind.Bool = truth false
zero_of shape kind.String = text []
zero_of shape kind.Bytes = octets []
zero_of shape (kind.Message t) = message empty
zero_of shape (kind.Enum e) = number (first_number shape e)
zero_of shape _ = number (pos 0)

-- the number of the default of a kind
abbrev pub zero_number : Shape → Kind → ℤ
zero_number shape (kind.Enum e) = first_number shape e
zero_number shape _ = pos 0

-- the kind's default, an empty list or an empty map; a message is never a default
abbrev pub is_default : Shape → Kind → Val → Bool
is_default shape k (number z) = int_eq z (zero_number shape k)
is_default shape k (truth b) = not b
is_default shape k (text t) = length t == 0
is_default shape k (octets b) = length b == 0
is_default shape k (message c) = false
is_default shape k (many no_vals) = true
is_default shape k (many (val v vs)) = false
is_default shape k (keyed no_pairs) = true
is_default shape k (keyed (pair l v ps)) = false

-- without presence a default is no value (Protocol Buffers "Application Note: Field Presence")
abbrev pub shown : Shape → Bool → Kind → Option Val → Option Val
shown shape presence k None = None
shown shape presence k (Some v) = if presence then Some v else (if is_default shape k v then None else Some v)

-- the value, or this one where there is none
abbrev pub or_else : Option Val → Val → Val
or_else None v = v
or_else (Some w) v = w

-- ---- maps

-- a value as a key; one that no key may be counts as false
abbrev pub key_in : Val → Key
key_in (number z) = number_key z
key_in (truth b) = truth_key b
key_in (text s) = text_key s
key_in _ = truth_key false

-- the key and the value of an entry, each the default of its kind where it is not there (Protocol Buffers "Encoding": Maps)
abbrev pub pair_in : Shape → Kind → Kind → Content → Key × Val
pair_in shape key value c = (key_in (or_else (get 1 (fields c)) (zero_of shape key)), or_else (get 2 (fields c)) (zero_of shape value))

-- the entry of a record; what its payload holds beside key and value is read and dropped
abbrev pub entry_in : Inner → Kind → Kind → Rec → Option Content
entry_in inner key value r = option_and_then (λ b. inner (entry_fields key value) (b ∷ [])) (bytes_of r)

-- ---- all records of a field

-- all values of all records, in their order (Protocol Buffers "Encoding": Repeated Elements)
abbrev pub repeated : Shape → Inner → Kind → List Rec → Option (Option Val)
repeated shape inner k rs = option_map (λ vs. shown shape false k (Some (many (vals_of (flat vs))))) (each (spread shape inner k) rs)

-- the pairs of all entries, of each key the last (Protocol Buffers "Language Guide (proto 3)": Maps)
abbrev pub mapped : Shape → Inner → Kind → Kind → List Rec → Option (Option Val)
mapped shape inner key value rs =
    option_map (λ cs. shown shape false value (Some (keyed (by_key (map (pair_in shape key value) cs))))) (each (entry_in inner key value) rs)

-- the payloads of a singular message mean one message together (Protocol Buffers "Encoding": Last One Wins)
abbrev pub joined : Inner → List FieldShape → List (List ℕ) → Option (Option Val)
joined inner fs [] = Some None
joined inner fs (b ∷ bs) = option_map (λ c. Some (message c)) (inner fs (b ∷ bs))

-- the last record of a singular scalar counts (Protocol Buffers "Encoding": Last One Wins)
abbrev pub scalar : Shape → Bool → Kind → List Rec → Option (Option Val)
scalar shape presence k rs = option_map (λ vs. shown shape presence k (last_of vs)) (each (alone shape no_inner k) rs)

-- the value of a field of at most one
abbrev pub singular : Shape → Inner → Bool → Kind → List Rec → Option (Option Val)
singular shape inner presence (kind.Message t) rs = option_and_then (joined inner (fields_of shape t)) (each bytes_of rs)
singular shape inner presence k rs = scalar shape presence k rs

-- a single value, all values, or the pairs
abbrev pub by_cardinality : Shape → Inner → FieldShape → Cardinality → List Rec → Option (Option Val)
by_cardinality shape inner f Singular rs = singular shape inner f.presence f.kind rs
by_cardinality shape inner f Repeated rs = repeated shape inner f.kind rs
by_cardinality shape inner f (Map key) rs = mapped shape inner key f.kind rs

-- The value of a field that its records give, if each has the field's form: the outer None is "not of the form", the inner "absent".
abbrev pub value : Shape → Inner → FieldShape → List Rec → Option (Option Val)
value shape inner f rs = if is_float f.kind then Some None else by_cardinality shape inner f f.cardinality rs

-- Each record of the field has its form, and those after the last of another member of its oneof count
-- (Protocol Buffers "Language Guide (proto 3)": Oneof Features).
abbrev pub value_among : Shape → Inner → List FieldShape → FieldShape → List Rec → Option (Option Val)
value_among shape inner fs f rs =
    option_and_then (λ all. value shape inner f (those_of f.number (after_last (is_rival fs f) rs))) (value shape inner f (those_of f.number rs))

-- ---- all fields

-- the fields with this value first, if there is one
abbrev pub with_field : ℕ → Option Val → Fields → Fields
with_field n None fs = fs
with_field n (Some v) fs = field n v fs

-- the values of these fields, where `all` are those of the type
abbrev pub values : Shape → Inner → List FieldShape → List FieldShape → List Rec → Option Fields
values shape inner all [] rs = Some no_fields
values shape inner all (f ∷ fs) rs =
    option_and_then (λ v. option_map (with_field f.number v) (values shape inner all fs rs)) (value_among shape inner all f rs)

-- the values of the fields and the kept records, with payloads given their meaning
abbrev pub layer : Shape → Inner → List FieldShape → List Rec → Option Content
layer shape inner fs rs = option_map (λ vs. content vs (filter (is_kept fs) rs)) (values shape inner fs fs rs)

-- the records of all payloads, one payload after another
abbrev pub records_of : ℕ → List (List ℕ) → Option (List Rec)
records_of levels bs = option_map flat (each (records_in levels) bs)

-- what the records mean as a message with these fields, with at most so many levels of messages and map entries below
unfoldable pub meaning : Shape → ℕ → List FieldShape → List Rec → Option Content
meaning shape zero fs rs = layer shape no_inner fs rs
meaning shape (suc levels) fs rs = layer shape (λ gs bs. option_and_then (meaning shape levels gs) (records_of levels bs)) fs rs

-- ---- bytes

-- what bytes mean as a message with these fields, with at most so many levels of messages, map entries and groups together below the top
abbrev pub meaning_within : Shape → ℕ → List FieldShape → List ℕ → Option Content
meaning_within shape levels fs bytes = option_and_then (meaning shape levels fs) (records_in levels bytes)

-- what bytes mean as a message of a type, with at most 100 levels below the top
abbrev pub meaning_of : Shape → ℕ → List ℕ → Option Content
meaning_of shape t bytes = meaning_within shape 100 (fields_of shape t) bytes

-- What bytes mean as a message whose parts are read one by one, as a set of files is: each message in a field of the top has 100 levels below its own top.
abbrev pub parts_meaning_of : Shape → ℕ → List ℕ → Option Content
parts_meaning_of shape t bytes = option_and_then (meaning shape 101 (fields_of shape t)) (records_in 100 bytes)
