-- Worked rows: the definitions at closed values. The bytes are those of the examples in Protocol Buffers "Encoding", or follow from its rules by hand.
use Rattle.std.proofs.Common.{◌≡◌, ℕ, ◌+◌, ◌*◌, ◌%◌, ◌^◌, ◌<◌, lit≤, true, false, List, [], ◌∷◌, ◌++◌, length, Some, None, refl, rules, lit<, inl, inr}
use Rattle.std.specs.Prelude.{pos, negsuc}
use Rattle.std.specs.Str.{is_utf8, chars}
use lib.Utf8.{encode}
use Rattle.pbx_wire.specs.Varint.{varint, varint_within}
use Rattle.pbx_wire.specs.Text.{text as text_of_rec}
use Rattle.pbx_wire.specs.Spelling.{IsVarint, IsKey, SpellsBelow}
use Rattle.pbx_wire.specs.Reading.{varint_at, key_at, value_at, keyed_at, item_at, items_at, body_at}
use Rattle.pbx_wire.specs.declared.rec.Rec.{the_lemmas as rec_lemmas}
use Rattle.pbx_wire.specs.declared.rec.Rec.TheVariants as rec
use Rattle.pbx_content.specs.declared.shape.Kind.{Kind}
use Rattle.pbx_content.specs.declared.shape.Kind.TheVariants as kind
use Rattle.pbx_content.specs.declared.shape.Cardinality.TheVariants.{Singular, Repeated, Map}
use Rattle.pbx_content.specs.declared.shape.Shape.{Shape}
use Rattle.pbx_content.specs.declared.shape.MessageShape.{MessageShape}
use Rattle.pbx_content.specs.declared.shape.FieldShape.{FieldShape}
use Rattle.pbx_content.specs.Content.{Content, number_key, text_key, content, empty, no_fields, field, number, truth, message, many, keyed, no_vals, val, no_pairs, pair}
use Rattle.pbx_content.specs.Records.{varints_in, fixed_in}
use Rattle.pbx_content.specs.Meaning.{meaning, meaning_of}
use Rattle.pbx_content.specs.Onto.{meaning_onto, merged_of}
use Rattle.pbx_content.specs.Encoding.{encoded}
use Rattle.pbx_content.specs.Same.{Same}
use Rattle.pbx_content.specs.Shape.{fields_of}
use Rattle.pbx_content.specs.Faults.{MessageFaults, IsFaultOf}
use Rattle.pbx_wire.specs.declared.error.DecodeError.TheVariants as errors
use Rattle.pbx_content.specs.Sound.{IsSound, has_one_member, depth}

-- ---- a type with a field of each sort

abbrev single : ℕ → Kind → FieldShape
single n k = record {
  number = n;
  name = [];
  json_name = [];
  is_extension = false;
  kind = k;
  cardinality = Singular;
  presence = false;
  oneof = None;
  packed = false;
  default = None;
  entry = None;
}

abbrev listed : ℕ → Kind → FieldShape
listed n k = record (single n k) { cardinality = Repeated; packed = true }

abbrev mapped : ℕ → Kind → Kind → FieldShape
mapped n k v = record (single n v) { cardinality = Map k }

abbrev member : ℕ → Kind → FieldShape
member n k = record (single n k) { presence = true; oneof = Some 0 }

-- declared from behind, as a source may do
abbrev row : MessageShape
row = record {
  full_name = [];
  fields =
      member 13 kind.Int32 ∷ member 12 kind.Int32 ∷ member 11 kind.Float
      ∷ mapped 10 kind.String kind.Float ∷ mapped 9 kind.String kind.Int32
      ∷ listed 8 kind.Sfixed32 ∷ single 7 (kind.Enum 0) ∷ listed 6 kind.Int32 ∷ single 5 kind.Bool ∷ single 4 kind.Sint32
      ∷ record (single 3 (kind.Message 0)) { presence = true } ∷ single 2 kind.String ∷ single 1 kind.Int32 ∷ [];
  keeps_order = false;
  proto3 = true;
}

-- an enum whose first value has the number 2
abbrev shape : Shape
shape = record {
  messages = row ∷ record { full_name = []; fields = []; keeps_order = true; proto3 = false } ∷ [];
  enums = record { full_name = []; values = record { name = []; number = pos 2 } ∷ [] } ∷ [];
}

-- ---- what is written

varint_text : (n v : ℕ) → text_of_rec (rec.Varint n v) ≡ varint (n * 8) ++ varint v
varint_text n v = search (rules, rec_lemmas)

bytes_text : (n : ℕ) (b : List ℕ) → text_of_rec (rec.Bytes n b) ≡ varint (n * 8 + 2) ++ varint (length b) ++ b
bytes_text n b = search (rules, rec_lemmas)

nothing_written : encoded shape 0 empty ≡ []
nothing_written = refl

number_written : encoded shape 0 (content (field 1 (number (pos 150)) no_fields) []) ≡ 8 ∷ 150 ∷ 1 ∷ []
unfolding varint_within
number_written = rw varint_text refl

least_written : encoded shape 0 (content (field 1 (number (negsuc 2147483647)) no_fields) []) ≡ 8 ∷ 128 ∷ 128 ∷ 128 ∷ 128 ∷ 248 ∷ 255 ∷ 255 ∷ 255 ∷ 255 ∷ 1 ∷ []
unfolding varint_within
least_written = rw varint_text refl

message_written : encoded shape 0 (content (field 3 (message (content (field 1 (number (pos 150)) no_fields) [])) no_fields) []) ≡ 26 ∷ 3 ∷ 8 ∷ 150 ∷ 1 ∷ []
unfolding varint_within
message_written = rw (bytes_text, varint_text) refl

zigzag_written : encoded shape 0 (content (field 4 (number (negsuc 1)) no_fields) []) ≡ 32 ∷ 3 ∷ []
unfolding varint_within
zigzag_written = rw varint_text refl

packed_written : encoded shape 0 (content (field 6 (many (val (number (pos 3)) (val (number (pos 270)) (val (number (pos 86942)) no_vals)))) no_fields) [])
    ≡ 50 ∷ 6 ∷ 3 ∷ 142 ∷ 2 ∷ 158 ∷ 167 ∷ 5 ∷ []
unfolding varint_within
packed_written = rw bytes_text refl

fixed_packed_written : encoded shape 0 (content (field 8 (many (val (number (negsuc 0)) no_vals)) no_fields) []) ≡ 66 ∷ 4 ∷ 255 ∷ 255 ∷ 255 ∷ 255 ∷ []
unfolding varint_within
fixed_packed_written = rw bytes_text refl

-- both parts of an entry are written, also a key or value that is the default
map_written : encoded shape 0
    (content (field 9 (keyed (pair (text_key []) (number (pos 0)) (pair (text_key (97 ∷ [])) (number (pos 1)) no_pairs))) no_fields) [])
    ≡ 74 ∷ 4 ∷ 10 ∷ 0 ∷ 16 ∷ 0 ∷ 74 ∷ 5 ∷ 10 ∷ 1 ∷ 97 ∷ 16 ∷ 1 ∷ []
unfolding varint_within
map_written = simp (bytes_text, varint_text) refl

-- a kept record stands at its number, behind the field's own
kept_written : encoded shape 0 (content (field 1 (number (pos 1)) (field 5 (truth true) no_fields)) (rec.Varint 20 1 ∷ rec.Varint 3 2 ∷ []))
    ≡ 8 ∷ 1 ∷ 24 ∷ 2 ∷ 40 ∷ 1 ∷ 160 ∷ 1 ∷ 1 ∷ []
unfolding varint_within
kept_written = simp varint_text refl

-- ---- what is read

nothing_meant : meaning_of shape 0 [] ≡ Some empty
unfolding meaning body_at items_at item_at
nothing_meant = refl

unknown_kept : meaning_of shape 0 (8 ∷ 150 ∷ 1 ∷ 160 ∷ 1 ∷ 5 ∷ []) ≡ Some (content (field 1 (number (pos 150)) no_fields) (rec.Varint 20 5 ∷ []))
unfolding meaning body_at items_at item_at keyed_at key_at varint_at value_at
unknown_kept = refl

last_wins : meaning_of shape 0 (8 ∷ 150 ∷ 1 ∷ 8 ∷ 1 ∷ []) ≡ Some (content (field 1 (number (pos 1)) no_fields) [])
unfolding meaning body_at items_at item_at keyed_at key_at varint_at value_at
last_wins = refl

default_absent : meaning_of shape 0 (8 ∷ 1 ∷ 8 ∷ 0 ∷ []) ≡ Some empty
unfolding meaning body_at items_at item_at keyed_at key_at varint_at value_at
default_absent = refl

cut_short : meaning_of shape 0 (8 ∷ []) ≡ None
unfolding meaning body_at items_at item_at keyed_at key_at varint_at value_at
cut_short = refl

other_wire_type : meaning_of shape 0 (13 ∷ 0 ∷ 0 ∷ 0 ∷ 0 ∷ []) ≡ None
unfolding meaning body_at items_at item_at keyed_at key_at varint_at value_at
other_wire_type = refl

packed_or_not : meaning_of shape 0 (50 ∷ 2 ∷ 3 ∷ 4 ∷ 48 ∷ 5 ∷ [])
    ≡ Some (content (field 6 (many (val (number (pos 3)) (val (number (pos 4)) (val (number (pos 5)) no_vals)))) no_fields) [])
unfolding meaning body_at items_at item_at keyed_at key_at varint_at value_at varints_in
packed_or_not = refl

fixed_packed : meaning_of shape 0 (66 ∷ 4 ∷ 255 ∷ 255 ∷ 255 ∷ 255 ∷ 69 ∷ 1 ∷ 0 ∷ 0 ∷ 0 ∷ [])
    ≡ Some (content (field 8 (many (val (number (negsuc 0)) (val (number (pos 1)) no_vals))) no_fields) [])
unfolding meaning body_at items_at item_at keyed_at key_at varint_at value_at fixed_in
fixed_packed = refl

fixed_cut : meaning_of shape 0 (66 ∷ 3 ∷ 255 ∷ 255 ∷ 255 ∷ []) ≡ None
unfolding meaning body_at items_at item_at keyed_at key_at varint_at value_at fixed_in
fixed_cut = refl

-- a bool looks at all 64 bits, a 32-bit number at the low 32: 2^32 is true, and 0
wide_varint : meaning_of shape 0 (40 ∷ 128 ∷ 128 ∷ 128 ∷ 128 ∷ 16 ∷ 8 ∷ 128 ∷ 128 ∷ 128 ∷ 128 ∷ 16 ∷ []) ≡ Some (content (field 5 (truth true) no_fields) [])
unfolding meaning body_at items_at item_at keyed_at key_at varint_at value_at
wide_varint = refl

-- an enum without presence is absent at its first value's number, and there at 0
enum_default : meaning_of shape 0 (56 ∷ 2 ∷ []) ≡ Some empty
unfolding meaning body_at items_at item_at keyed_at key_at varint_at value_at
enum_default = refl

enum_zero : meaning_of shape 0 (56 ∷ 0 ∷ []) ≡ Some (content (field 7 (number (pos 0)) no_fields) [])
unfolding meaning body_at items_at item_at keyed_at key_at varint_at value_at
enum_zero = refl

payloads_joined : meaning_of shape 0 (26 ∷ 2 ∷ 8 ∷ 1 ∷ 26 ∷ 2 ∷ 40 ∷ 1 ∷ [])
    ≡ Some (content (field 3 (message (content (field 1 (number (pos 1)) (field 5 (truth true) no_fields)) [])) no_fields) [])
unfolding meaning body_at items_at item_at keyed_at key_at varint_at value_at
payloads_joined = refl

-- b: 1, an entry without parts, and b: 2 with an unknown record, which is dropped: the empty key stands first, and the last entry of b counts
map_read : meaning_of shape 0 (74 ∷ 5 ∷ 10 ∷ 1 ∷ 98 ∷ 16 ∷ 1 ∷ 74 ∷ 0 ∷ 74 ∷ 7 ∷ 16 ∷ 2 ∷ 10 ∷ 1 ∷ 98 ∷ 24 ∷ 9 ∷ [])
    ≡ Some (content (field 9 (keyed (pair (text_key []) (number (pos 0)) (pair (text_key (98 ∷ [])) (number (pos 2)) no_pairs))) no_fields) [])
unfolding meaning body_at items_at item_at keyed_at key_at varint_at value_at is_utf8 chars encode
map_read = refl

-- a map with float values is kept unread, whatever the wire type
float_map_kept : meaning_of shape 0 (80 ∷ 1 ∷ []) ≡ Some (content no_fields (rec.Varint 10 1 ∷ []))
unfolding meaning body_at items_at item_at keyed_at key_at varint_at value_at
float_map_kept = refl

-- of a oneof the last member counts alone, though it came before another too
last_member : meaning_of shape 0 (96 ∷ 1 ∷ 104 ∷ 1 ∷ 96 ∷ 2 ∷ []) ≡ Some (content (field 12 (number (pos 2)) no_fields) [])
unfolding meaning body_at items_at item_at keyed_at key_at varint_at value_at
last_member = refl

-- a float member neither clears the others nor is cleared
float_member : meaning_of shape 0 (96 ∷ 1 ∷ 93 ∷ 0 ∷ 0 ∷ 0 ∷ 0 ∷ []) ≡ Some (content (field 12 (number (pos 1)) no_fields) (rec.Fixed32 11 0 ∷ []))
unfolding meaning body_at items_at item_at keyed_at key_at varint_at value_at
float_member = refl

-- ---- behind a content

merged_last_wins : merged_of shape 0 (content (field 1 (number (pos 150)) no_fields) (rec.Varint 20 5 ∷ [])) (8 ∷ 1 ∷ 152 ∷ 1 ∷ 7 ∷ [])
    ≡ Some (content (field 1 (number (pos 1)) no_fields) (rec.Varint 20 5 ∷ rec.Varint 19 7 ∷ []))
unfolding meaning_onto meaning body_at items_at item_at keyed_at key_at varint_at value_at
merged_last_wins = refl

-- a default clears what was there
merged_default : merged_of shape 0 (content (field 1 (number (pos 150)) no_fields) []) (8 ∷ 0 ∷ []) ≡ Some empty
unfolding meaning_onto meaning body_at items_at item_at keyed_at key_at varint_at value_at
merged_default = refl

merged_list : merged_of shape 0 (content (field 6 (many (val (number (pos 3)) no_vals)) no_fields) []) (48 ∷ 5 ∷ [])
    ≡ Some (content (field 6 (many (val (number (pos 3)) (val (number (pos 5)) no_vals))) no_fields) [])
unfolding meaning_onto meaning body_at items_at item_at keyed_at key_at varint_at value_at
merged_list = refl

merged_member : merged_of shape 0 (content (field 12 (number (pos 3)) no_fields) []) (104 ∷ 5 ∷ []) ≡ Some (content (field 13 (number (pos 5)) no_fields) [])
unfolding meaning_onto meaning body_at items_at item_at keyed_at key_at varint_at value_at
merged_member = refl

-- ---- contents that are the same

kept_of_two_numbers : Same shape 0 (content no_fields (rec.Varint 20 1 ∷ rec.Varint 19 2 ∷ [])) (content no_fields (rec.Varint 19 2 ∷ rec.Varint 20 1 ∷ []))
kept_of_two_numbers = refl

-- the order of an options record counts
options_differ : Same shape 1 (content no_fields (rec.Varint 20 1 ∷ rec.Varint 19 2 ∷ [])) (content no_fields (rec.Varint 19 2 ∷ rec.Varint 20 1 ∷ [])) → ⊥
options_differ e = Prim.cc e

entry_is_a_level : depth (content (field 9 (keyed (pair (text_key []) (number (pos 0)) no_pairs)) no_fields) []) ≡ 1
entry_is_a_level = refl

-- ---- a content of two fields, one of them a member of a oneof, may be a message's

abbrev two_fields : Content
two_fields = content (field 1 (number (pos 150)) (field 12 (number (pos 0)) no_fields)) []

two_fields_are_sound : IsSound shape 0 two_fields
two_fields_are_sound = (
  (lit< tt, tt),
  ((refl, inr refl, Prim.search rules), ((refl, inl refl, Prim.search rules), tt)),
  refl,
  record { unread = refl; numbered = refl; fit = refl },
)

-- two members of one oneof are no content of a message
two_members_are_not : has_one_member (fields_of shape 0) (field 12 (number (pos 1)) (field 13 (number (pos 2)) no_fields)) ≡ false
two_members_are_not = refl

-- ---- which rule is broken, and where

abbrev field_1 : FieldShape
field_1 = single 1 kind.Int32

abbrev field_3 : FieldShape
field_3 = record (single 3 (kind.Message 0)) { presence = true }

short_varint : (b : ℕ) → b < 128 → b < 2 ^ 64 → b ≡ 0 * 128 + b % 128 → IsVarint (b ∷ []) b
short_varint b small fits e = record { chain = small; short = lit≤ tt; value_is = e; fits = fits }

key_of_3 : IsKey (26 ∷ []) 3 2
key_of_3 = record { varint = short_varint 26 (lit< tt) (lit< tt) refl; fits = lit< tt; positive = lit< tt }

wrong_key_of_1 : IsKey (13 ∷ []) 1 5
wrong_key_of_1 = record { varint = short_varint 13 (lit< tt) (lit< tt) refl; fits = lit< tt; positive = lit< tt }

key_of_1 : IsKey (8 ∷ []) 1 0
key_of_1 = record { varint = short_varint 8 (lit< tt) (lit< tt) refl; fits = lit< tt; positive = lit< tt }

-- an int32 without its number
cut_number : IsFaultOf shape 0 (8 ∷ []) (errors.Underflow 0)
unfolding MessageFaults SpellsBelow
cut_number = (
  [],
  [],
  8 ∷ [],
  errors.Underflow 0,
  refl,
  inl (inl (refl, inr (inl (1, 0, [], (8 ∷ [], key_of_1, refl), inl (inl refl, (tt, lit< tt)))))),
  refl,
  refl,
)

-- an int32 of wire type 5 inside a message: the key of the innermost record is at 2, and nothing behind it is asked
wrong_type_inside : IsFaultOf shape 0 (26 ∷ 1 ∷ 13 ∷ []) (errors.WireType 2)
unfolding MessageFaults SpellsBelow
wrong_type_inside = (
  [],
  [],
  26 ∷ 1 ∷ 13 ∷ [],
  errors.WireType 2,
  refl,
  inr (
    field_3,
    refl,
    refl,
    inr (
      fields_of shape 0,
      26 ∷ 1 ∷ [],
      13 ∷ [],
      errors.WireType 0,
      refl,
      (26 ∷ [], 1 ∷ [], [], key_of_3, short_varint 1 (lit< tt) (lit< tt) refl, refl, refl),
      (
        [],
        [],
        13 ∷ [],
        errors.WireType 0,
        refl,
        inr (field_1, refl, refl, inl (refl, (5, [], (13 ∷ [], wrong_key_of_1, refl), lit< tt, (λ e. Prim.cc e), refl))),
        refl,
        refl,
      ),
      refl,
    ),
  ),
  refl,
  refl,
)

-- three bytes of a number of four in a packed list: the key is that of the packed record
key_of_8 : IsKey (66 ∷ []) 8 2
key_of_8 = record { varint = short_varint 66 (lit< tt) (lit< tt) refl; fits = lit< tt; positive = lit< tt }

cut_element : IsFaultOf shape 0 (66 ∷ 3 ∷ 1 ∷ 2 ∷ 3 ∷ []) (errors.Underflow 0)
unfolding MessageFaults SpellsBelow
cut_element = (
  [],
  [],
  66 ∷ 3 ∷ 1 ∷ 2 ∷ 3 ∷ [],
  errors.Underflow 0,
  refl,
  inr (
    listed 8 kind.Sfixed32,
    refl,
    refl,
    inl (
      refl,
      refl,
      (
        66 ∷ 3 ∷ [],
        1 ∷ 2 ∷ 3 ∷ [],
        (66 ∷ [], 3 ∷ [], [], key_of_8, short_varint 3 (lit< tt) (lit< tt) refl, refl, refl),
        λ e. Prim.cc e,
      ),
    ),
  ),
  refl,
  refl,
)

-- ---- records behind a content mean what they mean behind the records that mean it

abbrev earlier : List ℕ
earlier = 74 ∷ 5 ∷ 10 ∷ 1 ∷ 98 ∷ 16 ∷ 1 ∷ 26 ∷ 2 ∷ 8 ∷ 1 ∷ 96 ∷ 1 ∷ []

abbrev later : List ℕ
later = 74 ∷ 5 ∷ 10 ∷ 1 ∷ 98 ∷ 16 ∷ 2 ∷ 26 ∷ 2 ∷ 8 ∷ 0 ∷ 104 ∷ 1 ∷ []

abbrev so_far : Content
so_far =
    content (field 3 (message (content (field 1 (number (pos 1)) no_fields) []))
    (field 9 (keyed (pair (text_key (98 ∷ [])) (number (pos 1)) no_pairs)) (field 12 (number (pos 1)) no_fields))) []

abbrev in_all : Content
in_all = content (field 3 (message empty) (field 9 (keyed (pair (text_key (98 ∷ [])) (number (pos 2)) no_pairs)) (field 13 (number (pos 1)) no_fields))) []

earlier_meant : meaning_of shape 0 earlier ≡ Some so_far
unfolding meaning body_at items_at item_at keyed_at key_at varint_at value_at is_utf8 chars encode
earlier_meant = refl

later_merged : merged_of shape 0 so_far later ≡ Some in_all
unfolding meaning_onto meaning body_at items_at item_at keyed_at key_at varint_at value_at is_utf8 chars encode
later_merged = refl

all_meant : meaning_of shape 0 (earlier ++ later) ≡ Some in_all
unfolding meaning body_at items_at item_at keyed_at key_at varint_at value_at is_utf8 chars encode
all_meant = refl

-- ---- an entry without its value has the default of the value's kind

abbrev entries_shape : Shape
entries_shape = record {
  messages = record { full_name = []; fields = mapped 7 kind.Int32 (kind.Enum 0) ∷ mapped 6 kind.String (kind.Message 0) ∷ []; keeps_order = false; proto3 = false } ∷ [];
  enums = record { full_name = []; values = record { name = []; number = pos 2 } ∷ [] } ∷ [];
}

enum_part : meaning entries_shape 1 (fields_of entries_shape 0) (rec.Bytes 7 [] ∷ [])
    ≡ Some (content (field 7 (keyed (pair (number_key (pos 0)) (number (pos 2)) no_pairs)) no_fields) [])
unfolding meaning body_at items_at item_at keyed_at key_at varint_at value_at
enum_part = refl

-- with one level: the entry is that level, and the message that it lacks is a second
message_part : meaning entries_shape 1 (fields_of entries_shape 0) (rec.Bytes 6 [] ∷ [])
    ≡ Some (content (field 6 (keyed (pair (text_key []) (message empty) no_pairs)) no_fields) [])
unfolding meaning body_at items_at item_at keyed_at key_at varint_at value_at
message_part = refl

message_part_depth : depth (content (field 6 (keyed (pair (text_key []) (message empty) no_pairs)) no_fields) []) ≡ 2
message_part_depth = refl
