-- The one tree that is written for a content (ProtoJSON Format). None: a rule of writing is broken somewhere, or a value is not of its field's kind.
use Rattle.std.specs.Prelude.{ℕ, zero, suc, ◌==◌, ℤ, List, [], ◌∷◌, ◌++◌, length, map as map_list, filter, find, codes, Bool, true, false, not, ◌&&◌, ◌||◌}
use Rattle.std.specs.Prelude.{if◌then◌else◌, Option, Some, None, option_map, option_and_then}
use Rattle.std.specs.List.{list_any}
use Rattle.std.specs.Str.{bytes_eq}
use Rattle.std.specs.Fmt.{signed_decimal}
use Rattle.pbx_wire.specs.declared.rec.Rec.{Rec}
use Rattle.serde_json.specs.Data.{Data, null, boolean, number, string, array, object, Items, no_items, item, Members, no_members, member, put}
use Rattle.serde_json.specs.Find.{of_integer}
use Rattle.pbx_content.specs.Content as content
use Rattle.pbx_content.specs.Content.{Content, Fields, no_fields, field as field_of_number, Val, Vals, no_vals, val, Pairs, no_pairs, pair, get, Key}
use Rattle.pbx_content.specs.Content.{truth_key, number_key, text_key}
use Rattle.pbx_content.specs.declared.shape.Kind.{Kind}
use Rattle.pbx_content.specs.declared.shape.Kind.TheVariants as kind
use Rattle.pbx_content.specs.declared.shape.Cardinality.{Cardinality}
use Rattle.pbx_content.specs.declared.shape.Cardinality.TheVariants.{Singular, Repeated, Map}
use Rattle.pbx_content.specs.declared.shape.Shape.{Shape}
use Rattle.pbx_content.specs.declared.shape.FieldShape.{FieldShape}
use Rattle.pbx_content.specs.declared.shape.EnumValueShape.{EnumValueShape}
use Rattle.std.specs.Ordering.{int_eq}
use Rattle.pbx_content.specs.Records.{number_of}
use Rattle.pbx_content.specs.Shape.{declared_of, field_of, is_float, enum_values_of}
use Rattle.pbx_content.specs.Encoding.{type_of}
use Rattle.pbx_content.specs.Meaning.{zero_of, meaning_of}
use Rattle.pbx_text.specs.Base64.{base64_text}
use Rattle.pbx_wkt_types.specs.Shapes.{form_of}
use Rattle.pbx_wkt_types.specs.declared.form.Form.{Form}
use Rattle.pbx_wkt_types.specs.declared.form.Form.TheVariants as forms
use Rattle.pbx_json_meaning.specs.Scalars.{Family, integers, truths, texts, bytes_texts, enums, family, is_null_value}
use Rattle.pbx_json_meaning.specs.Asked.{Asked, field, one, has_presence}
use Rattle.pbx_json_meaning.specs.Urls.{type_of_url, stands_beside}
use Rattle.pbx_json_meaning.specs.Forms.{is_object_type, kind_at, timestamp_tree, duration_tree, mask_tree, text_at, bytes_at}
use Rattle.pbx_json_meaning.specs.Stands.{is_there, all_read, ok_of}
use Rattle.pbx_json_meaning.specs.declared.options.SerializeOptions.{SerializeOptions}

-- What writing goes by: the options, and the tree of the payload of a type that is these bytes, if there is one.
pub record Writing : Type 0 where
  pub options : SerializeOptions
  pub payloads : ℕ → List ℕ → Option Data

-- ---- scalars

-- the kinds whose integers have 64 bits
abbrev pub is_wide : Kind → Bool
is_wide kind.Int64 = true
is_wide kind.Uint64 = true
is_wide kind.Sint64 = true
is_wide kind.Fixed64 = true
is_wide kind.Sfixed64 = true
is_wide _ = false

-- a whole number
abbrev pub integer : ℤ → Data
integer z = number (of_integer z)

-- an integer: of 64 bits as a decimal text, unless the option is off
abbrev pub integer_tree : Writing → Kind → ℤ → Data
integer_tree o k z = if is_wide k && o.options.stringify_64_bit_integers then string (signed_decimal z) else integer z

-- the first declared value of a number
abbrev pub value_of_number : ℤ → List EnumValueShape → Option EnumValueShape
value_of_number z vs = find (λ v. int_eq v.number z) vs

-- the name of a value, or the number where there is none
abbrev pub name_or_number : ℤ → Option EnumValueShape → Data
name_or_number z None = integer z
name_or_number z (Some v) = string v.name

-- an enum: the first declared name of the number, else the number, or always the number; null for `NullValue`
abbrev pub enum_tree : Shape → Writing → ℕ → ℤ → Data
enum_tree shape o e z =
    if is_null_value shape e then null
    else if o.options.use_enum_numbers then integer z
    else name_or_number z (value_of_number z (enum_values_of shape e))

-- a number of an integer kind or of an enum
abbrev pub number_by : Shape → Writing → Kind → Family → ℤ → Option Data
number_by shape o k (integers min max) z = Some (integer_tree o k z)
number_by shape o k (enums e) z = Some (enum_tree shape o e z)
number_by shape o k _ z = None

-- the tree of a number
abbrev pub number_tree : Shape → Writing → Kind → ℤ → Option Data
number_tree shape o k z = number_by shape o k (family k) z

-- `true` or `false`
abbrev pub truth_by : Family → Bool → Option Data
truth_by truths b = Some (boolean b)
truth_by _ b = None

-- a text
abbrev pub text_by : Family → List ℕ → Option Data
text_by texts s = Some (string s)
text_by _ s = None

-- bytes: base64 in the standard alphabet, with padding
abbrev pub bytes_by : Family → List ℕ → Option Data
bytes_by bytes_texts s = Some (string (base64_text s))
bytes_by _ s = None

-- the key of an entry as a text
abbrev pub key_text : Key → List ℕ
key_text (number_key z) = signed_decimal z
key_text (truth_key b) = if b then codes "true" else codes "false"
key_text (text_key s) = s

-- ---- objects

-- a key and its tree
abbrev pub Line : Type 0
Line = List ℕ × Option Data

-- the key is there
abbrev pub has_key : List ℕ → Members → Bool
has_key k no_members = false
has_key k (member l d ms) = bytes_eq l k || has_key k ms

-- the members with one more; None: the key is there already
abbrev pub with_member : List ℕ → Data → Members → Option Members
with_member k d ms = if has_key k ms then None else Some (put k d ms)

-- the members with a line more
abbrev pub with_line : List ℕ → Option Data → Option Members → Option Members
with_line k (Some d) (Some ms) = with_member k d ms
with_line k _ _ = None

-- the members of these lines, in byte order of their keys; None: a line has no tree, or two have one key
abbrev pub members_of_lines : List Line → Option Members
members_of_lines [] = Some no_members
members_of_lines (l ∷ ls) = with_line l.0 l.1 (members_of_lines ls)

-- ---- messages

-- what a value is written as, where something is asked of it
abbrev pub Tells : Type 0
Tells = Asked → Option Data

-- a number, and what its value is written as
pub record Told : Type 0 where
  pub number : ℕ
  pub tells : Tells

-- the key that a field is written under: its JSON name, or by option its own name; an extension keeps its JSON name
abbrev pub key_of_field : Writing → FieldShape → List ℕ
key_of_field o f = if o.options.use_proto_field_name && not f.is_extension then f.name else f.json_name

-- a kept record of the field
abbrev pub is_kept_of : List Rec → FieldShape → Bool
is_kept_of kept f = list_any (λ r. number_of r == f.number) kept

-- a kept record of a float field, a list of floats or a map with float values, which have no JSON; other kept records are skipped
abbrev pub keeps_float : List FieldShape → List Rec → Bool
keeps_float gs kept = list_any (λ f. is_float f.kind && is_kept_of kept f) gs

-- the tree of a kind's default
abbrev pub default_by : Shape → Writing → Kind → Val → Option Data
default_by shape o k (content.number z) = number_tree shape o k z
default_by shape o k (content.truth b) = Some (boolean b)
default_by shape o k (content.text s) = Some (string s)
default_by shape o k (content.octets s) = Some (string (base64_text s))
default_by shape o k _ = None

-- the tree of a field that has no value: its default, an empty array or an empty object
abbrev pub default_tree : Shape → Writing → FieldShape → Cardinality → Option Data
default_tree shape o f Singular = default_by shape o f.kind (zero_of shape f.kind)
default_tree shape o f Repeated = Some (array no_items)
default_tree shape o f (Map k) = Some (object no_members)

-- where defaults are not skipped: fields without a value and without presence are written too, except floats and extensions
abbrev pub is_written_default : Writing → Fields → FieldShape → Bool
is_written_default o fs f =
    not o.options.skip_default_fields && not (has_presence f) && not (is_float f.kind) && not f.is_extension && not (is_there (get f.number fs))

-- the line of a field that has no value
abbrev pub default_line : Shape → Writing → FieldShape → Line
default_line shape o f = (key_of_field o f, default_tree shape o f f.cardinality)

-- the line of a field that has a value
abbrev pub told_line : Writing → Tells → Option FieldShape → Line
told_line o tells None = ([], None)
told_line o tells (Some f) = (key_of_field o f, tells (field f))

-- a line for each field that is written
abbrev pub lines : Shape → Writing → List FieldShape → Fields → List Told → List Line
lines shape o gs fs told =
    map_list (λ t. told_line o t.tells (field_of t.number gs)) told ++ map_list (default_line shape o) (filter (is_written_default o fs) gs)

-- a message of fields
abbrev pub object_tree : Shape → Writing → List FieldShape → Fields → List Rec → List Told → Option Data
object_tree shape o gs fs kept told = if keeps_float gs kept then None else option_map object (members_of_lines (lines shape o gs fs told))

-- ---- well-known types

-- a value of a kind that is no message, or its default
abbrev pub scalar_tree : Shape → Writing → Kind → Option Val → Option Data
scalar_tree shape o k None = default_by shape o k (zero_of shape k)
scalar_tree shape o k (Some (content.number z)) = number_tree shape o k z
scalar_tree shape o k (Some (content.truth b)) = truth_by (family k) b
scalar_tree shape o k (Some (content.text s)) = text_by (family k) s
scalar_tree shape o k (Some (content.octets s)) = bytes_by (family k) s
scalar_tree shape o k (Some v) = None

-- the tree of the first value of a number, or another where there is none
abbrev pub told_tree : ℕ → Kind → Option Data → List Told → Option Data
told_tree n k otherwise [] = otherwise
told_tree n k otherwise (t ∷ ts) = if t.number == n then t.tells (one k) else told_tree n k otherwise ts

-- the tree of the field of a number, or another where it has no value
abbrev pub field_tree : Shape → ℕ → ℕ → Option Data → List Told → Option Data
field_tree shape t n otherwise told = told_tree n (kind_at shape t n) otherwise told

-- the number of the first field that has a value
abbrev pub first_field : Fields → ℕ
first_field no_fields = 0
first_field (field_of_number n v fs) = n

-- a `Value`: null where nothing else is there
abbrev pub value_tree : Shape → ℕ → Fields → List Rec → List Told → Option Data
value_tree shape t fs kept told =
    if keeps_float (declared_of shape t) kept then None
    else if first_field fs == 1 then Some null else field_tree shape t (first_field fs) (Some null) told

-- an object with the type's URL among its members; None: that key is there already
abbrev pub with_type : List ℕ → Data → Option Data
with_type url (object ms) = option_map object (with_member (codes "@type") (string url) ms)
with_type url _ = None

-- the type's URL, and a payload under `value`
abbrev pub type_and_value : List ℕ → Data → Data
type_and_value url d = object (put (codes "@type") (string url) (put (codes "value") d no_members))

-- the object of an `Any` with its payload's tree
abbrev pub any_with : Shape → List ℕ → ℕ → Data → Option Data
any_with shape url u d = if stands_beside shape u then with_type url d else Some (type_and_value url d)

-- the tree of a payload of the type that the URL names
abbrev pub payload_in : Shape → Writing → List ℕ → List ℕ → Option ℕ → Option Data
payload_in shape o url bytes None = None
payload_in shape o url bytes (Some u) = option_and_then (any_with shape url u) (o.payloads u bytes)

-- an `Any`: the type's URL, and the payload's tree under `value` or its members beside
abbrev pub any_tree : Shape → Writing → List ℕ → List ℕ → Option Data
any_tree shape o url bytes = payload_in shape o url bytes (type_of_url shape url)

-- what a message of a type of this form, which is no object of fields, is written as
abbrev pub form_tree : Shape → Writing → ℕ → Form → Fields → List Rec → List Told → Option Data
form_tree shape o t forms.Timestamp fs kept told = ok_of (timestamp_tree fs)
form_tree shape o t forms.Duration fs kept told = ok_of (duration_tree fs)
form_tree shape o t forms.FieldMask fs kept told = ok_of (mask_tree fs)
form_tree shape o t forms.Wrapper fs kept told = scalar_tree shape o (kind_at shape t 1) (get 1 fs)
form_tree shape o t forms.Struct fs kept told = field_tree shape t 1 (Some (object no_members)) told
form_tree shape o t forms.ListValue fs kept told = field_tree shape t 1 (Some (array no_items)) told
form_tree shape o t forms.Value fs kept told = value_tree shape t fs kept told
form_tree shape o t forms.Any fs kept told = any_tree shape o (text_at (get 1 fs)) (bytes_at (get 2 fs))
form_tree shape o t _ fs kept told = None

-- the same by the type's own form
abbrev pub own_tree : Shape → Writing → ℕ → Fields → List Rec → List Told → Option Data
own_tree shape o t fs kept told = form_tree shape o t (form_of shape t) fs kept told

-- the tree of a message: an object of fields, or what the type's own form writes
abbrev pub message_tree : Shape → Writing → ℕ → Fields → List Rec → List Told → Option Data
message_tree shape o t fs kept told =
    if is_object_type shape t then object_tree shape o (declared_of shape t) fs kept told else own_tree shape o t fs kept told

-- ---- all contents

-- the kind of what is asked for
abbrev pub kind_asked : Asked → Kind
kind_asked (field f) = f.kind
kind_asked (one k) = k

-- the elements of an array
abbrev pub items_of : List Data → Items
items_of [] = no_items
items_of (d ∷ ds) = item d (items_of ds)

-- an array of the elements' trees
abbrev pub array_tree : Kind → List Tells → Option Data
array_tree k all = option_map (λ ds. array (items_of ds)) (all_read (λ tells. tells (one k)) all)

-- the line of an entry
abbrev pub entry_line : Kind → Key × Tells → Line
entry_line k e = (key_text e.0, e.1 (one k))

-- an object of the entries' trees
abbrev pub entries_tree : Kind → List (Key × Tells) → Option Data
entries_tree k all = option_map object (members_of_lines (map_list (entry_line k) all))

abbrev mutual
  -- the tree of a value, where something is asked of it
  pub tells : Shape → Writing → Val → Tells
  tells shape o (content.number z) a = number_tree shape o (kind_asked a) z
  tells shape o (content.truth b) a = truth_by (family (kind_asked a)) b
  tells shape o (content.text s) a = text_by (family (kind_asked a)) s
  tells shape o (content.octets s) a = bytes_by (family (kind_asked a)) s
  tells shape o (content.message c) a = content_tree shape o c (type_of (kind_asked a))
  tells shape o (content.many vs) a = array_tree (kind_asked a) (vals_tell shape o vs)
  tells shape o (content.keyed ps) a = entries_tree (kind_asked a) (pairs_tell shape o ps)

  -- the tree of a content as a message of a type
  pub content_tree : Shape → Writing → Content → ℕ → Option Data
  content_tree shape o (content.content fs kept) t = message_tree shape o t fs kept (fields_tell shape o fs)

  -- each field with the tree of its value
  pub fields_tell : Shape → Writing → Fields → List Told
  fields_tell shape o no_fields = []
  fields_tell shape o (field_of_number n v fs) = record { number = n; tells = tells shape o v } ∷ fields_tell shape o fs

  -- each element with its tree
  pub vals_tell : Shape → Writing → Vals → List Tells
  vals_tell shape o no_vals = []
  vals_tell shape o (val v vs) = tells shape o v ∷ vals_tell shape o vs

  -- each key with the tree of its value
  pub pairs_tell : Shape → Writing → Pairs → List (Key × Tells)
  pairs_tell shape o no_pairs = []
  pairs_tell shape o (pair k v ps) = (k, tells shape o v) ∷ pairs_tell shape o ps

-- ---- payloads

-- The tree of a payload as a message of a type. Bytes inside a payload are shorter than it, so payloads inside payloads end: `turns` bounds how deep
-- they stand, and one more than the payload's length is enough.
unfoldable pub payload_tree : Shape → SerializeOptions → ℕ → ℕ → List ℕ → Option Data
payload_tree shape o zero u bytes = None
payload_tree shape o (suc turns) u bytes =
    option_and_then (λ c. content_tree shape (record { options = o; payloads = payload_tree shape o turns }) c u) (meaning_of shape u bytes)

-- the tree of a payload, with the payloads inside it
abbrev pub tree_of_payload : Shape → SerializeOptions → ℕ → List ℕ → Option Data
tree_of_payload shape o u bytes = payload_tree shape o (suc (length bytes)) u bytes

-- writing under the options
abbrev pub writing : Shape → SerializeOptions → Writing
writing shape o = record { options = o; payloads = tree_of_payload shape o }

-- the canonical tree of a content as a message of the type at a place of the shape, under the options
abbrev pub canonical : Shape → ℕ → Content → SerializeOptions → Option Data
canonical shape t c o = content_tree shape (writing shape o) c t
