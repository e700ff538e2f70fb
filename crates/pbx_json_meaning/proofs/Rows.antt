-- Worked rows: what trees say, which faults they have and where, and the trees that are written, as closed equations.
use Rattle.std.proofs.Common.{◌≡◌, ℕ, ℤ, pos, negsuc, Bool, List, [], ◌∷◌, true, false, Option, Some, None, codes, refl, inl, inr, Float}
use Rattle.std.specs.Prelude.{option_and_then}
use Rattle.std.specs.Fmt.{digits}
use Rattle.std.specs.declared.cmp.Ordering.TheVariants.{Less}
use Rattle.pbx_wire.specs.declared.rec.Rec.TheVariants.{Fixed32}
use Rattle.serde_json.specs.Data.{Data, unsigned, negative, float, number, string, null, boolean, array, object, no_members, member, no_items, item}
use Rattle.pbx_content.specs.Content as content
use Rattle.pbx_content.specs.Content.{Content, Fields}
use Rattle.pbx_content.specs.declared.shape.Kind.{Kind}
use Rattle.pbx_content.specs.declared.shape.Kind.TheVariants as kind
use Rattle.pbx_content.specs.declared.shape.Cardinality.{Cardinality}
use Rattle.pbx_content.specs.declared.shape.Cardinality.TheVariants.{Singular, Repeated, Map}
use Rattle.pbx_content.specs.declared.shape.FieldShape.{FieldShape}
use Rattle.pbx_content.specs.declared.shape.MessageShape.{MessageShape}
use Rattle.pbx_content.specs.declared.shape.EnumShape.{EnumShape}
use Rattle.pbx_content.specs.declared.shape.EnumValueShape.{EnumValueShape}
use Rattle.pbx_content.specs.declared.shape.Shape.{Shape}
use Rattle.pbx_wkt_types.specs.Known.{known_of}
use Rattle.pbx_wkt_types.specs.Shapes.{form_of, is_as_declared}
use Rattle.pbx_text.specs.Base64.{base64_of}
use Rattle.pbx_text.specs.Timestamp.{timestamp_of, timestamp_text}
use Rattle.pbx_text.specs.Mask.{mask_of, mask_text}
use Rattle.pbx_json_meaning.specs.Place.{place_cmp}
use Rattle.pbx_json_meaning.specs.Options.{default_writing}
use Rattle.pbx_json_meaning.specs.Stands.{content_for}
use Rattle.pbx_json_meaning.specs.Faults.{JsonFault}
use Rattle.pbx_json_meaning.specs.Canonical.{canonical}
use Rattle.pbx_json_meaning.specs.WriteFaults.{WriteFault}
use Rattle.pbx_json_meaning.specs.Clash.{ByJsonName, ByAnyName, name_fault, first_clash}
use Rattle.pbx_json_meaning.specs.declared.kind.JsonKind.TheVariants as fault
use Rattle.pbx_json_meaning.specs.declared.names_fault.NameFault.TheVariants.{JsonNames, WellKnownShape}
use Rattle.pbx_json_meaning.specs.declared.place.Step.TheVariants.{Key, Index}

-- ---- a pool

abbrev a_field : ℕ → List ℕ → List ℕ → Kind → Cardinality → Bool → Option ℕ → FieldShape
a_field n name json k c presence oneof = record {
  number = n;
  name = name;
  json_name = json;
  is_extension = false;
  kind = k;
  cardinality = c;
  presence = presence;
  oneof = oneof;
  packed = false;
  default = None;
  entry = None;
}

-- a singular proto3 field whose JSON name is its name
abbrev plain : ℕ → List ℕ → Kind → FieldShape
plain n name k = a_field n name name k Singular false None

-- a list or a map
abbrev several : ℕ → List ℕ → Kind → Cardinality → FieldShape
several n name k c = a_field n name name k c false None

-- a member of the first oneof
abbrev member_of : ℕ → List ℕ → Kind → FieldShape
member_of n name k = a_field n name name k Singular true (Some 0)

abbrev of_message : ℕ → List ℕ → ℕ → FieldShape
of_message n name t = a_field n name name (kind.Message t) Singular true None

abbrev a_message : List ℕ → List FieldShape → MessageShape
a_message name fs = record { full_name = name; fields = fs; keeps_order = false; proto3 = true }

abbrev a_value : List ℕ → ℤ → EnumValueShape
a_value name z = record { name = name; number = z }

abbrev an_enum : List ℕ → List EnumValueShape → EnumShape
an_enum name vs = record { full_name = name; values = vs }

abbrev ext : FieldShape
ext = record (a_field 10 (codes "p.e") (codes "[p.e]") kind.Int32 Singular true None) { is_extension = true }

-- by their places: M, N, P, O, T, the entry of T, p.X, two of well-known names without their shapes, U, six well-known types
abbrev pub pool : Shape
pool = record {
  messages =
      a_message (codes "M") (plain 1 (codes "foo") kind.Int32 ∷ [])
      ∷ a_message (codes "N") (of_message 1 (codes "c") 1 ∷ [])
      ∷ a_message (codes "P") (a_field 1 (codes "big_id") (codes "bigId") kind.Int64 Singular false None ∷ plain 2 (codes "e") (kind.Enum 0) ∷ [])
      ∷ a_message (codes "O") (member_of 1 (codes "a") kind.Int32 ∷ member_of 2 (codes "b") kind.String ∷ member_of 3 (codes "n") (kind.Enum 1) ∷ [])
      ∷ a_message (codes "T") (
      several 1 (codes "tags") kind.String (Map kind.Int32)
      ∷ several 2 (codes "es") (kind.Enum 0) Repeated
      ∷ several 3 (codes "fs") kind.Float Repeated
      ∷ of_message 4 (codes "v") 7
      ∷ plain 5 (codes "y") kind.Bytes
      ∷ of_message 6 (codes "d") 8
      ∷ [])
      ∷ a_message (codes "T.TagsEntry") (plain 1 (codes "key") kind.Int32 ∷ plain 2 (codes "value") kind.String ∷ [])
      ∷ a_message (codes "p.X") (ext ∷ [])
      ∷ a_message (codes "google.protobuf.Value") []
      ∷ a_message (codes "google.protobuf.Duration") []
      ∷ a_message (codes "U") (plain 1 (codes "u") kind.Uint32 ∷ plain 2 (codes "w") kind.Uint64 ∷ plain 3 (codes "t") kind.Bool ∷ [])
      ∷ a_message (codes "google.protobuf.Timestamp") (plain 1 (codes "seconds") kind.Int64 ∷ plain 2 (codes "nanos") kind.Int32 ∷ [])
      ∷ a_message (codes "google.protobuf.FieldMask") (several 1 (codes "paths") kind.String Repeated ∷ [])
      ∷ a_message (codes "google.protobuf.Int64Value") (plain 1 (codes "value") kind.Int64 ∷ [])
      ∷ a_message (codes "google.protobuf.FloatValue") (plain 1 (codes "value") kind.Float ∷ [])
      ∷ a_message (codes "google.protobuf.Empty") []
      ∷ a_message (codes "google.protobuf.Any") (a_field 1 (codes "type_url") (codes "typeUrl") kind.String Singular false None ∷ plain 2 (codes "value") kind.Bytes ∷ [])
      ∷ [];
  enums =
      an_enum (codes "E") (a_value (codes "A") (pos 0) ∷ a_value (codes "B") (pos 1) ∷ a_value (codes "C") (pos 1) ∷ [])
      ∷ an_enum (codes "google.protobuf.NullValue") (a_value (codes "NULL_VALUE") (pos 0) ∷ [])
      ∷ [];
}

-- no key has two meanings
row_names : first_clash ByAnyName pool.messages ≡ None
row_names = refl

-- the first of a well-known name without its shape
row_shapes : name_fault ByAnyName pool ≡ Some (WellKnownShape (codes "google.protobuf.Value"))
unfolding form_of known_of is_as_declared
row_shapes = refl

abbrev pub int : ℕ → Data
int n = number (unsigned n)

abbrev pub one_key : List ℕ → Data → Data
one_key k d = object (member k d no_members)

abbrev pub two_keys : List ℕ → Data → List ℕ → Data → Data
two_keys k d l e = object (member k d (member l e no_members))

abbrev fields_with : Fields → Option Content
fields_with fs = Some (content.content fs [])

abbrev nothing : Option Content
nothing = fields_with content.no_fields

-- ---- integers

row_number : content_for pool 0 false (one_key (codes "foo") (int 150)) ≡ fields_with (content.field 1 (content.number (pos 150)) content.no_fields)
unfolding form_of known_of is_as_declared
row_number = refl

row_text : content_for pool 0 false (one_key (codes "foo") (string (codes "+5"))) ≡ fields_with (content.field 1 (content.number (pos 5)) content.no_fields)
unfolding form_of known_of is_as_declared
row_text = refl

row_zero : content_for pool 0 false (one_key (codes "foo") (int 0)) ≡ nothing
unfolding form_of known_of is_as_declared
row_zero = refl

row_null : content_for pool 0 false (one_key (codes "foo") null) ≡ nothing
unfolding form_of known_of is_as_declared
row_null = refl

row_empty : content_for pool 0 false (object no_members) ≡ nothing
unfolding form_of known_of is_as_declared
row_empty = refl

-- a fault of the tree at a key, and a fault of the key itself
row_range : JsonFault pool 0 false (one_key (codes "foo") (int 2147483648)) (Key (codes "foo") ∷ []) fault.Range
unfolding form_of known_of is_as_declared
row_range = inr refl

row_range_none : content_for pool 0 false (one_key (codes "foo") (int 2147483648)) ≡ None
unfolding form_of known_of is_as_declared
row_range_none = refl

row_least : content_for pool 0 false (one_key (codes "foo") (number (negative (negsuc 2147483647))))
    ≡ fields_with (content.field 1 (content.number (negsuc 2147483647)) content.no_fields)
unfolding form_of known_of is_as_declared
row_least = refl

row_float : (x : Float) → JsonFault pool 0 false (one_key (codes "foo") (number (float x))) (Key (codes "foo") ∷ []) fault.Float
unfolding form_of known_of is_as_declared
row_float x = inr refl

row_not_decimal : JsonFault pool 0 false (one_key (codes "foo") (string (codes "1.0"))) (Key (codes "foo") ∷ []) fault.NotDecimal
unfolding form_of known_of is_as_declared
row_not_decimal = inr refl

row_wrong_kind : JsonFault pool 0 false (one_key (codes "foo") (array no_items)) (Key (codes "foo") ∷ []) fault.WrongKind
unfolding form_of known_of is_as_declared
row_wrong_kind = inr refl

row_unknown : JsonFault pool 0 false (one_key (codes "bar") (int 1)) (Key (codes "bar") ∷ []) fault.UnknownField
unfolding form_of known_of is_as_declared
row_unknown = inl (refl, refl, (refl, refl))

row_allowed : content_for pool 0 true (two_keys (codes "foo") (int 150) (codes "unknown") (boolean true))
    ≡ fields_with (content.field 1 (content.number (pos 150)) content.no_fields)
unfolding form_of known_of is_as_declared
row_allowed = refl

row_no_object : JsonFault pool 0 false null [] fault.WrongKind
unfolding form_of known_of is_as_declared
row_no_object = refl

-- ---- keys, enums, oneofs

row_enum : content_for pool 2 false (two_keys (codes "bigId") (string (codes "5")) (codes "e") (string (codes "B")))
    ≡ fields_with (content.field 1 (content.number (pos 5)) (content.field 2 (content.number (pos 1)) content.no_fields))
unfolding form_of known_of is_as_declared
row_enum = refl

-- both spellings, the second null: the greater key is at fault
row_twice : JsonFault pool 2 false (two_keys (codes "bigId") (int 1) (codes "big_id") null) (Key (codes "big_id") ∷ []) fault.DuplicateField
unfolding form_of known_of is_as_declared
row_twice = inl (refl, refl, refl)

row_twice_none : content_for pool 2 true (two_keys (codes "bigId") (int 1) (codes "big_id") null) ≡ None
unfolding form_of known_of is_as_declared
row_twice_none = refl

row_enum_name : JsonFault pool 2 false (one_key (codes "e") (string (codes "1"))) (Key (codes "e") ∷ []) fault.UnknownEnum
unfolding form_of known_of is_as_declared
row_enum_name = inr refl

row_enum_dropped : content_for pool 2 true (one_key (codes "e") (string (codes "1"))) ≡ nothing
unfolding form_of known_of is_as_declared
row_enum_dropped = refl

abbrev one_and_seven : Fields
one_and_seven = content.field 2 (content.many (content.val (content.number (pos 1)) (content.val (content.number (pos 7)) content.no_vals))) content.no_fields

row_enum_elements : content_for pool 4 true (one_key (codes "es") (array (item (string (codes "Z")) (item (string (codes "C")) (item (int 7) no_items)))))
    ≡ fields_with one_and_seven
unfolding form_of known_of is_as_declared
row_enum_elements = refl

row_null_element : JsonFault pool 4 false (one_key (codes "es") (array (item (int 1) (item null no_items)))) (Key (codes "es") ∷ Index 1 ∷ []) fault.WrongKind
unfolding form_of known_of is_as_declared
row_null_element = inr (inr refl)

row_oneof : JsonFault pool 3 false (two_keys (codes "a") (int 0) (codes "b") (string [])) (Key (codes "b") ∷ []) fault.OneofTwice
unfolding form_of known_of is_as_declared
row_oneof = inl (refl, refl, refl)

row_oneof_none : content_for pool 3 false (two_keys (codes "a") (int 0) (codes "b") (string [])) ≡ None
unfolding form_of known_of is_as_declared
row_oneof_none = refl

-- null is no value of an ordinary member, and is one of `NullValue`
row_oneof_null : content_for pool 3 false (two_keys (codes "a") (int 0) (codes "b") null)
    ≡ fields_with (content.field 1 (content.number (pos 0)) content.no_fields)
unfolding form_of known_of is_as_declared
row_oneof_null = refl

row_oneof_null_value : JsonFault pool 3 false (two_keys (codes "a") (int 0) (codes "n") null) (Key (codes "n") ∷ []) fault.OneofTwice
unfolding form_of known_of is_as_declared
row_oneof_null_value = inl (refl, refl, refl)

-- `NullValue` reads null and its word, and not 0
row_null_value_zero : JsonFault pool 3 false (one_key (codes "n") (int 0)) (Key (codes "n") ∷ []) fault.WrongKind
unfolding form_of known_of is_as_declared
row_null_value_zero = inr refl

row_extension : content_for pool 6 false (one_key (codes "[p.e]") (int 5)) ≡ fields_with (content.field 10 (content.number (pos 5)) content.no_fields)
unfolding form_of known_of is_as_declared
row_extension = refl

row_extension_name : content_for pool 6 false (one_key (codes "e") (int 5)) ≡ None
unfolding form_of known_of is_as_declared
row_extension_name = refl

-- ---- maps

-- keys are read as numbers and stand by number
row_map : content_for pool 4 false (one_key (codes "tags") (object (member (codes "10") (string (codes "x")) (member (codes "2") (string []) no_members))))
    ≡ fields_with (content.field 1 (content.keyed (content.pair (content.number_key (pos 2)) (content.text [])
    (content.pair (content.number_key (pos 10)) (content.text (codes "x")) content.no_pairs))) content.no_fields)
unfolding form_of known_of is_as_declared
row_map = refl

row_map_twice : JsonFault pool 4 false (one_key (codes "tags") (two_keys (codes "+1") (string []) (codes "1") (string [])))
    (Key (codes "tags") ∷ Key (codes "1") ∷ []) fault.DuplicateKey
unfolding form_of known_of is_as_declared
row_map_twice = inr (inl (refl, refl, refl))

row_map_key : JsonFault pool 4 false (one_key (codes "tags") (one_key (codes "x") (string []))) (Key (codes "tags") ∷ Key (codes "x") ∷ []) fault.NotDecimal
unfolding form_of known_of is_as_declared
row_map_key = inr (inl (refl, refl, refl))

row_map_value_null : JsonFault pool 4 false (one_key (codes "tags") (one_key (codes "1") null)) (Key (codes "tags") ∷ Key (codes "1") ∷ []) fault.WrongKind
unfolding form_of known_of is_as_declared
row_map_value_null = inr (inr refl)

-- a list of floats reads null and the empty array alone, and is at fault as a whole
row_floats : JsonFault pool 4 false (one_key (codes "fs") (array (item (int 1) no_items))) (Key (codes "fs") ∷ []) fault.Float
unfolding form_of known_of is_as_declared
row_floats = inr refl

row_floats_empty : content_for pool 4 false (one_key (codes "fs") (array no_items)) ≡ nothing
unfolding form_of known_of is_as_declared
row_floats_empty = refl

row_base64 : JsonFault pool 4 false (one_key (codes "y") (string (codes "A"))) (Key (codes "y") ∷ []) fault.Base64
unfolding form_of known_of is_as_declared base64_of
row_base64 = inr refl

-- ---- writing

row_written : canonical pool 2
    (content.content (content.field 1 (content.number (pos 5)) (content.field 2 (content.number (pos 1)) content.no_fields)) []) default_writing
    ≡ Some (two_keys (codes "bigId") (string (codes "5")) (codes "e") (string (codes "B")))
unfolding form_of known_of is_as_declared digits
row_written = refl

row_written_turned : canonical pool 2
    (content.content (content.field 1 (content.number (pos 5)) (content.field 2 (content.number (pos 1)) content.no_fields)) [])
    (record { stringify_64_bit_integers = false; use_enum_numbers = true; use_proto_field_name = true; skip_default_fields = true })
    ≡ Some (two_keys (codes "big_id") (int 5) (codes "e") (int 1))
unfolding form_of known_of is_as_declared
row_written_turned = refl

row_defaults : canonical pool 2 (content.content content.no_fields []) (record default_writing { skip_default_fields = false })
    ≡ Some (two_keys (codes "bigId") (string (codes "0")) (codes "e") (string (codes "A")))
unfolding form_of known_of is_as_declared digits
row_defaults = refl

row_float_kept : WriteFault pool 4 (content.content content.no_fields (Fixed32 3 0 ∷ [])) default_writing (Key (codes "fs") ∷ []) fault.Float
unfolding form_of known_of is_as_declared
row_float_kept = inl (refl, refl)

row_float_kept_none : canonical pool 4 (content.content content.no_fields (Fixed32 3 0 ∷ [])) default_writing ≡ None
unfolding form_of known_of is_as_declared
row_float_kept_none = refl

-- ---- names

abbrev in_file : List MessageShape → Shape
in_file ms = record { messages = ms; enums = [] }

-- two fields of one JSON name
abbrev sharing : Shape
sharing = in_file (a_message (codes "J") (plain 1 (codes "a") kind.Int32 ∷ a_field 2 (codes "b") (codes "a") kind.Int32 Singular false None ∷ []) ∷ [])

row_clash : name_fault ByJsonName sharing ≡ Some (JsonNames (codes "J") (codes "a"))
unfolding form_of known_of is_as_declared
row_clash = refl

abbrev crossed : Shape
crossed = in_file (a_message (codes "S") (
    a_field 1 (codes "a") (codes "b") kind.Int32 Singular false None
    ∷ a_field 2 (codes "b") (codes "c") kind.Int32 Singular false None
    ∷ []) ∷ [])

-- a field's JSON name is the name of another field: no clash, unless fields may be written under any name
row_crossed : name_fault ByJsonName crossed ≡ None
unfolding form_of known_of is_as_declared
row_crossed = refl

row_crossed_by_name : name_fault ByAnyName crossed ≡ Some (JsonNames (codes "S") (codes "b"))
unfolding form_of known_of is_as_declared
row_crossed_by_name = refl

row_twice_written : canonical sharing 0
    (content.content (content.field 1 (content.number (pos 1)) (content.field 2 (content.number (pos 1)) content.no_fields)) []) default_writing ≡ None
unfolding form_of known_of is_as_declared
row_twice_written = refl

row_twice_at : WriteFault sharing 0
    (content.content (content.field 1 (content.number (pos 1)) (content.field 2 (content.number (pos 1)) content.no_fields)) []) default_writing
    (Key (codes "a") ∷ []) fault.DuplicateField
unfolding form_of known_of is_as_declared
row_twice_at = inl (refl, refl)

-- ---- the order of places

row_above : place_cmp (Key (codes "a") ∷ []) (Key (codes "a") ∷ Index 0 ∷ []) ≡ Less
row_above = refl

row_lesser : place_cmp (Key (codes "a") ∷ Index 9 ∷ []) (Key (codes "b") ∷ []) ≡ Less
row_lesser = refl

row_later : place_cmp (Index 2 ∷ []) (Index 10 ∷ []) ≡ Less
row_later = refl

-- ---- more that is written

-- an extension keeps its JSON name, `NullValue` its null, and a number without a name is written as the number
row_extension_written : canonical pool 6 (content.content (content.field 10 (content.number (pos 5)) content.no_fields) []) (record
    default_writing { use_proto_field_name = true })
    ≡ Some (one_key (codes "[p.e]") (int 5))
unfolding form_of known_of is_as_declared
row_extension_written = refl

row_null_written : canonical pool 3 (content.content (content.field 3 (content.number (pos 0)) content.no_fields) []) (record
    default_writing { use_enum_numbers = true }) ≡ Some (one_key (codes "n") null)
unfolding form_of known_of is_as_declared
row_null_written = refl

row_unnamed_written : canonical pool 4
    (content.content one_and_seven []) default_writing
    ≡ Some (one_key (codes "es") (array (item (string (codes "B")) (item (int 7) no_items))))
unfolding form_of known_of is_as_declared
row_unnamed_written = refl

-- keys of maps stand by their bytes where they are written
row_map_written : canonical pool 4
    (content.content (content.field 1 (content.keyed (content.pair (content.number_key (pos 2)) (content.text [])
    (content.pair (content.number_key (pos 10)) (content.text (codes "x")) content.no_pairs))) content.no_fields) []) default_writing
    ≡ Some (one_key (codes "tags") (object (member (codes "10") (string (codes "x")) (member (codes "2") (string []) no_members))))
unfolding form_of known_of is_as_declared digits
row_map_written = refl

-- ---- more borders

-- `NullValue` whose first number is not 0, lists and maps that are said to have presence, and floats of all sorts
abbrev bordering : Shape
bordering = record {
  messages =
      a_message (codes "A") []
      ∷ a_message (codes "google.protobuf.Int64Value") []
      ∷ a_message (codes "google.protobuf.FloatValue") []
      ∷ a_message (codes "C") (member_of 1 (codes "x") (kind.Enum 1) ∷ member_of 2 (codes "y") kind.Int32 ∷ [])
      ∷ a_message (codes "D") []
      ∷ a_message (codes "B") (
      plain 1 (codes "n") (kind.Enum 0)
      ∷ several 2 (codes "ns") (kind.Enum 0) Repeated
      ∷ a_field 3 (codes "m") (codes "m") (kind.Enum 1) (Map kind.Int32) true None
      ∷ a_field 4 (codes "es") (codes "es") (kind.Enum 1) Repeated true None
      ∷ of_message 5 (codes "w") 1
      ∷ several 6 (codes "fw") (kind.Message 2) Repeated
      ∷ several 7 (codes "fm") kind.Double (Map kind.String)
      ∷ several 8 (codes "b") kind.Bool (Map kind.Bool)
      ∷ a_field 9 (codes "msg") (codes "msg") (kind.Message 5) Singular false None
      ∷ a_field 10 (codes "d_d") (codes "dD") kind.Double Singular false None
      ∷ several 11 (codes "l") (kind.Message 5) Repeated
      ∷ [])
      ∷ [];
  enums =
      an_enum (codes "google.protobuf.NullValue") (a_value (codes "X") (pos 1) ∷ a_value (codes "NULL_VALUE") (pos 0) ∷ [])
      ∷ an_enum (codes "E") (a_value (codes "P") (pos 3) ∷ a_value (codes "Q") (pos 0) ∷ [])
      ∷ [];
}

row_wrapper_element : JsonFault bordering 5 false (one_key (codes "fw") (array (item null no_items))) (Key (codes "fw") ∷ Index 0 ∷ []) fault.Shape
unfolding form_of known_of is_as_declared
row_wrapper_element = inr (inr refl)

-- an empty list reads nothing, also of a well-known type
row_wrappers_empty : content_for bordering 5 false (one_key (codes "fw") (array no_items)) ≡ nothing
unfolding form_of known_of is_as_declared
row_wrappers_empty = refl

row_other_null_absent : content_for bordering 5 false (one_key (codes "n") null) ≡ nothing
unfolding form_of known_of is_as_declared
row_other_null_absent = refl

row_other_null_number : content_for bordering 5 false (one_key (codes "n") (int 0)) ≡ fields_with (content.field 1 (content.number (pos 0)) content.no_fields)
unfolding form_of known_of is_as_declared
row_other_null_number = refl

row_other_null_element : JsonFault bordering 5 false (one_key (codes "ns") (array (item null no_items))) (Key (codes "ns") ∷ Index 0 ∷ []) fault.WrongKind
unfolding form_of known_of is_as_declared
row_other_null_element = inr (inr refl)

row_other_null_written : canonical bordering 5 (content.content (content.field 1 (content.number (pos 0)) content.no_fields) []) default_writing
    ≡ Some (one_key (codes "n") (string (codes "NULL_VALUE")))
unfolding form_of known_of is_as_declared
row_other_null_written = refl

row_dropped_twice : JsonFault bordering 5 true (one_key (codes "m") (two_keys (codes "+1") (string (codes "Z")) (codes "1") (string (codes "Z"))))
    (Key (codes "m") ∷ Key (codes "1") ∷ []) fault.DuplicateKey
unfolding form_of known_of is_as_declared
row_dropped_twice = inr (inl (refl, refl, refl))

row_dropped_twice_none : content_for bordering 5 true
    (one_key (codes "m") (two_keys (codes "+1") (string (codes "Z")) (codes "1") (string (codes "Z")))) ≡ None
unfolding form_of known_of is_as_declared
row_dropped_twice_none = refl

-- where all is dropped, a list and a map are absent, whatever the shape says of presence
row_all_dropped : content_for bordering 5 true (two_keys (codes "es") (array (item (string (codes "Z")) no_items)) (codes "m")
    (one_key (codes "1") (string (codes "Z")))) ≡ nothing
unfolding form_of known_of is_as_declared
row_all_dropped = refl

row_float_map : JsonFault bordering 5 false (one_key (codes "fm") (string [])) (Key (codes "fm") ∷ []) fault.Float
unfolding form_of known_of is_as_declared
row_float_map = inr refl

row_floats_absent : content_for bordering 5 false (two_keys (codes "dD") null (codes "fm") (object no_members)) ≡ nothing
unfolding form_of known_of is_as_declared
row_floats_absent = refl

row_bool_key : JsonFault bordering 5 false (one_key (codes "b") (one_key (codes "True") (boolean true)))
    (Key (codes "b") ∷ Key (codes "True") ∷ []) fault.WrongKind
unfolding form_of known_of is_as_declared
row_bool_key = inr (inl (refl, refl, refl))

-- no float and no message is written as a default
row_all_defaults : canonical bordering 5 content.empty (record default_writing { skip_default_fields = false })
    ≡ Some (object (member (codes "b") (object no_members) (member (codes "es") (array no_items) (member (codes "fw") (array no_items)
    (member (codes "l") (array no_items) (member (codes "m") (object no_members)
    (member (codes "n") (string (codes "X")) (member (codes "ns") (array no_items) no_members))))))))
unfolding form_of known_of is_as_declared
row_all_defaults = refl

row_oneof_dropped : content_for bordering 3 true (two_keys (codes "x") (string (codes "Z")) (codes "y") (int 0))
    ≡ fields_with (content.field 2 (content.number (pos 0)) content.no_fields)
unfolding form_of known_of is_as_declared
row_oneof_dropped = refl

row_float_below : WriteFault bordering 5
    (content.content (content.field 11 (content.many (content.val (content.message content.empty) (content.val (content.message
    (content.content content.no_fields (Fixed32 10 0 ∷ []))) content.no_vals))) content.no_fields) [])
    (record default_writing { use_proto_field_name = true }) (Key (codes "l") ∷ Index 1 ∷ Key (codes "d_d") ∷ []) fault.Float
unfolding form_of known_of is_as_declared
row_float_below = inr (inr (inl (refl, refl)))

-- ---- what is written of what was read

row_text_written : option_and_then (λ c. canonical pool 0 c default_writing) (content_for pool 0 false (one_key (codes "foo") (string (codes "+5"))))
    ≡ Some (one_key (codes "foo") (int 5))
unfolding form_of known_of is_as_declared
row_text_written = refl

row_zero_written : option_and_then (λ c. canonical pool 0 c default_writing) (content_for pool 0 false (one_key (codes "foo") (int 0)))
    ≡ Some (object no_members)
unfolding form_of known_of is_as_declared
row_zero_written = refl

row_least_written : option_and_then (λ c. canonical pool 0 c
    default_writing) (content_for pool 0 false (one_key (codes "foo") (number (negative (negsuc 2147483647)))))
    ≡ Some (one_key (codes "foo") (number (negative (negsuc 2147483647))))
unfolding form_of known_of is_as_declared
row_least_written = refl

-- ---- unsigned and wide integers, truth values, messages inside messages

row_minus : JsonFault pool 9 false (one_key (codes "u") (string (codes "-0"))) (Key (codes "u") ∷ []) fault.NotDecimal
unfolding form_of known_of is_as_declared
row_minus = inr refl

row_no_digits : JsonFault pool 0 false (one_key (codes "foo") (string (codes "-"))) (Key (codes "foo") ∷ []) fault.NotDecimal
unfolding form_of known_of is_as_declared
row_no_digits = inr refl

row_minus_zero : content_for pool 0 false (one_key (codes "foo") (string (codes "-0"))) ≡ nothing
unfolding form_of known_of is_as_declared
row_minus_zero = refl

row_greatest : content_for pool 9 false (one_key (codes "w") (int 18446744073709551615))
    ≡ fields_with (content.field 2 (content.number (pos 18446744073709551615)) content.no_fields)
unfolding form_of known_of is_as_declared
row_greatest = refl

row_past_greatest : JsonFault pool 9 false (one_key (codes "w") (string (codes "18446744073709551616"))) (Key (codes "w") ∷ []) fault.Range
unfolding form_of known_of is_as_declared
row_past_greatest = inr refl

row_below_zero : JsonFault pool 9 false (one_key (codes "w") (number (negative (negsuc 0)))) (Key (codes "w") ∷ []) fault.Range
unfolding form_of known_of is_as_declared
row_below_zero = inr refl

row_truth : content_for pool 9 false (one_key (codes "t") (boolean true)) ≡ fields_with (content.field 3 (content.truth true) content.no_fields)
unfolding form_of known_of is_as_declared
row_truth = refl

row_truth_text : JsonFault pool 9 false (one_key (codes "t") (string (codes "true"))) (Key (codes "t") ∷ []) fault.WrongKind
unfolding form_of known_of is_as_declared
row_truth_text = inr refl

row_message : content_for pool 1 false (one_key (codes "c") (object no_members))
    ≡ fields_with (content.field 1 (content.message content.empty) content.no_fields)
unfolding form_of known_of is_as_declared
row_message = refl

row_message_below : JsonFault pool 1 false (one_key (codes "c") (one_key (codes "d") null)) (Key (codes "c") ∷ Key (codes "d") ∷ []) fault.UnknownField
unfolding form_of known_of is_as_declared
row_message_below = inr (inl (refl, refl, (refl, refl)))

row_bytes : content_for pool 4 false (one_key (codes "y") (string (codes "-_8")))
    ≡ fields_with (content.field 5 (content.octets (251 ∷ 255 ∷ [])) content.no_fields)
unfolding form_of known_of is_as_declared base64_of
row_bytes = refl

row_enum_range : JsonFault pool 2 false (one_key (codes "e") (int 2147483648)) (Key (codes "e") ∷ []) fault.Range
unfolding form_of known_of is_as_declared
row_enum_range = inr refl

row_enum_unnamed : content_for pool 2 false (one_key (codes "e") (int 7)) ≡ fields_with (content.field 2 (content.number (pos 7)) content.no_fields)
unfolding form_of known_of is_as_declared
row_enum_unnamed = refl

-- two kinds at one place: the greater key names a field again, and its tree is at fault too
row_two_kinds : JsonFault pool 2 false (two_keys (codes "bigId") (int 1) (codes "big_id") (boolean true)) (Key (codes "big_id") ∷ []) fault.WrongKind
unfolding form_of known_of is_as_declared
row_two_kinds = inr refl

-- ---- well-known types

row_misshapen : JsonFault pool 7 false (object no_members) [] fault.Shape
unfolding form_of known_of is_as_declared
row_misshapen = refl

row_misshapen_below : JsonFault pool 4 false (one_key (codes "d") (string (codes "1s"))) (Key (codes "d") ∷ []) fault.Shape
unfolding form_of known_of is_as_declared
row_misshapen_below = inr refl

row_misshapen_none : content_for pool 4 true (one_key (codes "d") (string (codes "1s"))) ≡ None
unfolding form_of known_of is_as_declared
row_misshapen_none = refl

-- null leaves a field absent, but is a value of `google.protobuf.Value`
row_duration_null : content_for pool 4 false (one_key (codes "d") null) ≡ nothing
unfolding form_of known_of is_as_declared
row_duration_null = refl

row_value_null : JsonFault pool 4 false (one_key (codes "v") null) (Key (codes "v") ∷ []) fault.Shape
unfolding form_of known_of is_as_declared
row_value_null = inr refl

row_misshapen_written : WriteFault pool 4 (content.content (content.field 6 (content.message content.empty) content.no_fields) []) default_writing
    (Key (codes "d") ∷ []) fault.Shape
unfolding form_of known_of is_as_declared
row_misshapen_written = inr refl

row_misshapen_written_none : canonical pool 4 (content.content (content.field 6 (content.message content.empty) content.no_fields) []) default_writing ≡ None
unfolding form_of known_of is_as_declared
row_misshapen_written_none = refl

row_no_timestamp : JsonFault pool 10 false (string (codes "1970-01-01")) [] fault.Timestamp
unfolding form_of known_of is_as_declared timestamp_of
row_no_timestamp = refl

row_timestamp_number : JsonFault pool 10 false (int 1) [] fault.WrongKind
unfolding form_of known_of is_as_declared
row_timestamp_number = refl

row_no_nanos : WriteFault pool 10 (content.content (content.field 2 (content.number (negsuc 0)) content.no_fields) []) default_writing [] fault.Timestamp
unfolding form_of known_of is_as_declared timestamp_text
row_no_nanos = refl

row_mask : content_for pool 11 false (string (codes "fooBar,,b"))
    ≡ fields_with (content.field 1 (content.many (content.val (content.text (codes "foo_bar")) (content.val (content.text (codes "b")) content.no_vals))) content.no_fields)
unfolding form_of known_of is_as_declared mask_of
row_mask = refl

row_no_mask : content_for pool 11 false (string []) ≡ nothing
unfolding form_of known_of is_as_declared mask_of
row_no_mask = refl

row_mask_underscore : JsonFault pool 11 false (string (codes "foo_bar")) [] fault.Mask
unfolding form_of known_of is_as_declared mask_of
row_mask_underscore = refl

row_mask_written : canonical pool 11 (content.content (content.field 1 (content.many (content.val (content.text (codes "foo_bar")) content.no_vals)) content.no_fields) [])
    default_writing ≡ Some (string (codes "fooBar"))
unfolding form_of known_of is_as_declared mask_text
row_mask_written = refl

row_wrapper : content_for pool 12 false (string (codes "5")) ≡ fields_with (content.field 1 (content.number (pos 5)) content.no_fields)
unfolding form_of known_of is_as_declared
row_wrapper = refl

row_wrapper_zero : content_for pool 12 false (int 0) ≡ nothing
unfolding form_of known_of is_as_declared
row_wrapper_zero = refl

row_wrapper_null : JsonFault pool 12 false null [] fault.WrongKind
unfolding form_of known_of is_as_declared
row_wrapper_null = refl

row_wrapper_written : canonical pool 12 content.empty default_writing ≡ Some (string (codes "0"))
unfolding form_of known_of is_as_declared digits
row_wrapper_written = refl

row_float_wrapper : JsonFault pool 13 true (int 1) [] fault.Float
unfolding form_of known_of is_as_declared
row_float_wrapper = refl

row_float_wrapper_written : WriteFault pool 13 content.empty default_writing [] fault.Float
unfolding form_of known_of is_as_declared
row_float_wrapper_written = refl

row_empty_message : content_for pool 14 false (object no_members) ≡ nothing
unfolding form_of known_of is_as_declared
row_empty_message = refl

-- a key of `Empty` is refused also where unknown fields are allowed
row_empty_key : JsonFault pool 14 true (one_key (codes "a") null) (Key (codes "a") ∷ []) fault.UnknownField
unfolding form_of known_of is_as_declared
row_empty_key = inl (refl, refl, (refl, refl))

row_empty_written : canonical pool 14 content.empty default_writing ≡ Some (object no_members)
unfolding form_of known_of is_as_declared
row_empty_written = refl

-- ---- places that are not there

-- a place that no key leads to has no fault, and neither has one below a tree that is at fault itself
row_no_place : ¬ (JsonFault pool 0 false (one_key (codes "foo") (int 150)) (Key (codes "bar") ∷ []) fault.Range)
unfolding form_of known_of is_as_declared
row_no_place (inl f) = f.2
row_no_place (inr f) = f

row_no_place_below : ¬ (JsonFault pool 0 false null (Key (codes "foo") ∷ []) fault.WrongKind)
unfolding form_of known_of is_as_declared
row_no_place_below f = f

row_no_place_written : ¬ (WriteFault pool 0 content.empty default_writing (Key (codes "foo") ∷ Index 0 ∷ []) fault.Float)
unfolding form_of known_of is_as_declared
row_no_place_written (inl f) = let not_there : false ≡ true = f.1 in absurd (cc)
row_no_place_written (inr f) = f
