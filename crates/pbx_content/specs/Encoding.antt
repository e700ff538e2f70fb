-- The one list of records that is written for a content, and its text: the one canonical encoding (Protocol Buffers "Encoding").
use Rattle.std.specs.Prelude.{ℕ, ◌+◌, ◌*◌, ◌%◌, ◌^◌, ℤ, pos, negsuc, List, [], ◌∷◌, ◌++◌, Bool, ◌&&◌, Option, Some, None, if◌then◌else◌}
use Rattle.std.specs.Int.{w32, w64, cast_unsigned, to_le_bytes}
use Rattle.pbx_wire.specs.Varint.{varint}
use Rattle.pbx_wire.specs.Text.{text_of}
use Rattle.pbx_wire.specs.declared.rec.Rec.{Rec}
use Rattle.pbx_wire.specs.declared.rec.Rec.TheVariants as rec
use Rattle.pbx_content.specs.declared.shape.Kind.{Kind}
use Rattle.pbx_content.specs.declared.shape.Kind.TheVariants as kind
use Rattle.pbx_content.specs.declared.shape.Cardinality.{Cardinality}
use Rattle.pbx_content.specs.declared.shape.Cardinality.TheVariants.{Singular, Repeated, Map}
use Rattle.pbx_content.specs.declared.shape.Shape.{Shape}
use Rattle.pbx_content.specs.declared.shape.FieldShape.{FieldShape}
use Rattle.pbx_content.specs.Content.{Key, truth_key, number_key, text_key, Content, content, Fields, no_fields, field, Val, number, truth, text, octets}
use Rattle.pbx_content.specs.Content.{message, many, keyed, Vals, no_vals, val, Pairs, no_pairs, pair}
use Rattle.pbx_content.specs.Records.{sorted}
use Rattle.pbx_content.specs.Shape.{fields_of, keeps_order_of, field_of, Form, as_varint, as_four, as_eight, as_payload, form_of, is_packable}

-- ---- numbers

-- 0, -1, 1, -2 .. as 0, 1, 2, 3 .. (Protocol Buffers "Encoding": Signed Integers)
abbrev pub zigzag : ℤ → ℕ
zigzag (pos n) = 2 * n
zigzag (negsuc n) = 2 * n + 1

-- The number on the wire of a number: sint32 and sint64 by zigzag, the 4-byte kinds in two's complement of 32 bits, all others of 64
-- (Protocol Buffers "Encoding": Signed Integers, Non-varint Numbers).
abbrev pub wire_number : Kind → ℤ → ℕ
wire_number kind.Sint32 z = zigzag z % 2 ^ 64
wire_number kind.Sint64 z = zigzag z % 2 ^ 64
wire_number kind.Fixed32 z = cast_unsigned w64 z % 2 ^ 32
wire_number kind.Sfixed32 z = cast_unsigned w64 z % 2 ^ 32
wire_number kind.Float z = cast_unsigned w64 z % 2 ^ 32
wire_number _ z = cast_unsigned w64 z

-- a truth value is 0 or 1 (Protocol Buffers "Encoding": Bools and Enums)
abbrev pub truth_number : Bool → ℕ
truth_number b = if b then 1 else 0

-- the number that a scalar is written as
abbrev pub numeral : Kind → Val → ℕ
numeral k (number z) = wire_number k z
numeral k (truth b) = truth_number b
numeral k _ = 0

-- a number as it stands behind its key (Protocol Buffers "Encoding": Base 128 Varints, Non-varint Numbers)
abbrev pub number_text : Form → ℕ → List ℕ
number_text as_varint v = varint v
number_text as_four v = to_le_bytes w32 v
number_text as_eight v = to_le_bytes w64 v
number_text as_payload v = []

-- the numbers of a list, one after another (Protocol Buffers "Encoding": Packed Repeated Fields)
abbrev pub packed_text : Kind → Vals → List ℕ
packed_text k no_vals = []
packed_text k (val v vs) = number_text (form_of k) (numeral k v) ++ packed_text k vs

-- the field's lists are written as one record (Protocol Buffers "Encoding": Packed Repeated Fields)
abbrev pub is_packed : FieldShape → Bool
is_packed f = f.packed && is_packable f.kind

-- ---- records

-- a number at a field number, in the form of its kind
abbrev pub number_rec : ℕ → Form → ℕ → Rec
number_rec n as_varint v = rec.Varint n v
number_rec n as_four v = rec.Fixed32 n v
number_rec n as_eight v = rec.Fixed64 n v
number_rec n as_payload v = rec.Bytes n []

-- records at a field number, as the payload of one (Protocol Buffers "Encoding": Submessages)
abbrev pub payload : ℕ → List Rec → Rec
payload n rs = rec.Bytes n (text_of rs)

-- a key of a map at its number in the entry (Protocol Buffers "Encoding": Maps)
abbrev pub key_rec : Kind → Key → Rec
key_rec k (truth_key b) = rec.Varint 1 (truth_number b)
key_rec k (number_key z) = number_rec 1 (form_of k) (wire_number k z)
key_rec k (text_key s) = rec.Bytes 1 s

-- the place of a message type; a kind that is no message has the place 0, where it is not looked up
abbrev pub type_of : Kind → ℕ
type_of (kind.Message t) = t
type_of _ = 0

-- the kind of the keys; a field that is no map has none, and any stands for it
abbrev pub keys_of : Cardinality → Kind
keys_of (Map key) = key
keys_of Singular = kind.Bool
keys_of Repeated = kind.Bool

-- The records of the fields by ascending number, and the kept ones in order of arrival: behind them all, or each at its number after the field's own
-- (Protocol Buffers "Encoding": Field Order leaves this to the writer).
abbrev pub with_kept : Bool → List Rec → List Rec → List Rec
with_kept keeps_order rs kept = if keeps_order then sorted rs ++ kept else sorted (rs ++ kept)

abbrev mutual
  -- the records of a content: those of the fields, with the kept ones as the type has them
  pub content_recs : Shape → ℕ → Content → List Rec
  content_recs shape t (content fs kept) = with_kept (keeps_order_of shape t) (fields_recs shape (fields_of shape t) fs) kept

  -- the records of the fields, field by field
  pub fields_recs : Shape → List FieldShape → Fields → List Rec
  fields_recs shape gs no_fields = []
  fields_recs shape gs (field n v fs) = field_recs shape (field_of n gs) v ++ fields_recs shape gs fs

  -- the records of a field's value; a number of no field writes none
  pub field_recs : Shape → Option FieldShape → Val → List Rec
  field_recs shape None v = []
  field_recs shape (Some f) (number z) = number_rec f.number (form_of f.kind) (wire_number f.kind z) ∷ []
  field_recs shape (Some f) (truth b) = number_rec f.number (form_of f.kind) (truth_number b) ∷ []
  field_recs shape (Some f) (text s) = rec.Bytes f.number s ∷ []
  field_recs shape (Some f) (octets b) = rec.Bytes f.number b ∷ []
  field_recs shape (Some f) (message c) = payload f.number (content_recs shape (type_of f.kind) c) ∷ []
  field_recs shape (Some f) (many vs) = if is_packed f then rec.Bytes f.number (packed_text f.kind vs) ∷ [] else vals_recs shape f.number f.kind vs
  field_recs shape (Some f) (keyed ps) = pairs_recs shape f.number (keys_of f.cardinality) f.kind ps

  -- the elements of a list, one record each (Protocol Buffers "Encoding": Repeated Elements)
  pub vals_recs : Shape → ℕ → Kind → Vals → List Rec
  vals_recs shape n k no_vals = []
  vals_recs shape n k (val v vs) = val_rec shape n k v ∷ vals_recs shape n k vs

  -- the pairs of a map, one entry each with key and value (Protocol Buffers "Encoding": Maps)
  pub pairs_recs : Shape → ℕ → Kind → Kind → Pairs → List Rec
  pairs_recs shape n key value no_pairs = []
  pairs_recs shape n key value (pair k v ps) = payload n (key_rec key k ∷ val_rec shape 2 value v ∷ []) ∷ pairs_recs shape n key value ps

  -- one value of a kind, at a number
  pub val_rec : Shape → ℕ → Kind → Val → Rec
  val_rec shape n k (number z) = number_rec n (form_of k) (wire_number k z)
  val_rec shape n k (truth b) = number_rec n (form_of k) (truth_number b)
  val_rec shape n k (text s) = rec.Bytes n s
  val_rec shape n k (octets b) = rec.Bytes n b
  val_rec shape n k (message c) = payload n (content_recs shape (type_of k) c)
  val_rec shape n k (many vs) = rec.Bytes n []
  val_rec shape n k (keyed ps) = rec.Bytes n []

-- the one text of a content: its records' texts in the shortest spelling, one after another
abbrev pub encoded : Shape → ℕ → Content → List ℕ
encoded shape t c = text_of (content_recs shape t c)
