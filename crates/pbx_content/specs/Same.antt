-- Contents that differ in the order of kept records of different numbers alone, and what bytes decode to.
use Rattle.std.specs.Prelude.{◌≡◌, ℕ, List, Bool, Option, Some, None, if◌then◌else◌}
use Rattle.pbx_wire.specs.declared.rec.Rec.{Rec}
use Rattle.pbx_content.specs.declared.shape.Shape.{Shape}
use Rattle.pbx_content.specs.declared.shape.FieldShape.{FieldShape}
use Rattle.pbx_content.specs.Content.{Content, content, Fields, no_fields, field, Val, number, truth, text, octets, message, many, keyed, Vals, no_vals, val}
use Rattle.pbx_content.specs.Content.{Pairs, no_pairs, pair}
use Rattle.pbx_content.specs.Records.{sorted}
use Rattle.pbx_content.specs.Shape.{fields_of, keeps_order_of, field_of}
use Rattle.pbx_content.specs.Encoding.{type_of}
use Rattle.pbx_content.specs.Meaning.{meaning_of, meaning_within, parts_meaning_of}

-- kept records by ascending number, or as they are where their order is a part of the content
abbrev pub settled_kept : Bool → List Rec → List Rec
settled_kept keeps_order kept = if keeps_order then kept else sorted kept

-- the type of the message that a field holds
abbrev pub type_in : Option FieldShape → ℕ
type_in None = 0
type_in (Some f) = type_of f.kind

abbrev mutual
  -- the content of a type with its kept records by ascending number, at every depth, but for types whose kept records keep their order
  pub settled : Shape → ℕ → Content → Content
  settled shape t (content fs kept) = content (settled_fields shape (fields_of shape t) fs) (settled_kept (keeps_order_of shape t) kept)

  -- each value settled
  pub settled_fields : Shape → List FieldShape → Fields → Fields
  settled_fields shape gs no_fields = no_fields
  settled_fields shape gs (field n v fs) = field n (settled_val shape (type_in (field_of n gs)) v) (settled_fields shape gs fs)

  -- a message of the type settled, and each element of a list and value of a map
  pub settled_val : Shape → ℕ → Val → Val
  settled_val shape t (number z) = number z
  settled_val shape t (truth b) = truth b
  settled_val shape t (text s) = text s
  settled_val shape t (octets b) = octets b
  settled_val shape t (message c) = message (settled shape t c)
  settled_val shape t (many vs) = many (settled_vals shape t vs)
  settled_val shape t (keyed ps) = keyed (settled_pairs shape t ps)

  -- each element settled
  pub settled_vals : Shape → ℕ → Vals → Vals
  settled_vals shape t no_vals = no_vals
  settled_vals shape t (val v vs) = val (settled_val shape t v) (settled_vals shape t vs)

  -- each value settled
  pub settled_pairs : Shape → ℕ → Pairs → Pairs
  settled_pairs shape t no_pairs = no_pairs
  settled_pairs shape t (pair k v ps) = pair k (settled_val shape t v) (settled_pairs shape t ps)

-- Equal fields, and equal lists of kept records of each number, at every depth; of options an equal list of all kept records
-- (Protocol Buffers "Encoding": Field Order guarantees no order of records of different numbers).
abbrev pub Same : Shape → ℕ → Content → Content → Type 0
Same shape t c d = settled shape t c ≡ settled shape t d

-- what was decoded, if anything, is the content
abbrev pub IsDecodedTo : Shape → ℕ → Option Content → Content → Type 0
IsDecodedTo shape t decoded c = (d : Content) × (decoded ≡ Some d) × Same shape t d c

-- the bytes decode to the content, with at most 100 levels below the top
abbrev pub Decodes : Shape → ℕ → List ℕ → Content → Type 0
Decodes shape t bytes c = IsDecodedTo shape t (meaning_of shape t bytes) c

-- the same with at most so many levels
abbrev pub DecodesWithin : Shape → ℕ → ℕ → List ℕ → Content → Type 0
DecodesWithin shape levels t bytes c = IsDecodedTo shape t (meaning_within shape levels (fields_of shape t) bytes) c

-- the bytes decode to the content part by part, each message in a field of the top with 100 levels of its own
abbrev pub DecodesParts : Shape → ℕ → List ℕ → Content → Type 0
DecodesParts shape t bytes c = IsDecodedTo shape t (parts_meaning_of shape t bytes) c
