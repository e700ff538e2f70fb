-- Contents that are made field by field.
use Rattle.std.specs.Prelude.{◌≡◌, ℕ, List, [], ◌++◌, map, Option, Some, None}
use Rattle.pbx_wire.specs.Text.{text_of}
use Rattle.pbx_wire.specs.declared.rec.Rec.{Rec}
use Rattle.pbx_content_codec.specs.declared.contents.Contents.{Contents}
use Rattle.pbx_content_codec.specs.declared.contents.Held.{Held}
use Rattle.pbx_content.specs.declared.shape.Cardinality.{Cardinality}
use Rattle.pbx_content.specs.declared.shape.Cardinality.TheVariants.{Repeated}
use Rattle.pbx_content.specs.declared.shape.FieldShape.{FieldShape}
use Rattle.pbx_content.specs.declared.shape.Kind.{Kind}
use Rattle.pbx_content.specs.Content.{Content, Fields, no_fields, field, Val}
use Rattle.pbx_content.specs.Encoding.{encoded, field_recs}
use Rattle.pbx_content.specs.Meaning.{with_field}
use Rattle.pbx_content_codec.specs.View.{fields_in, entry_of, content_of}
use Rattle.pbx_desc_shapes.specs.DescriptorShape.{descriptor_shape, list_field, packed_field}
use Rattle.pbx_content.specs.Sound.{IsSound}
use Rattle.pbx_desc_encoding.specs.Sound.{MayBe}

-- the fields that numbers with values stand for
abbrev pub entries : List (ℕ × Held) → Fields
entries fs = fields_in (map entry_of fs)

-- fields, and others behind them
abbrev pub followed_by : Fields → Fields → Fields
followed_by no_fields gs = gs
followed_by (field n v fs) gs = field n v (followed_by fs gs)

-- a value, if there is one, is put behind the others, and a field of this cardinality and kind may have it
pub record Puts (c : Cardinality) (k : Kind) (n : ℕ) (v : Option Val) (old new : List (ℕ × Held)) : Type 0 where
  pub fields : entries new ≡ followed_by (entries old) (with_field n v no_fields)
  pub value : MayBe descriptor_shape c k v

-- the tree holds the content, which a message of the type may have
pub record Holds (t : ℕ) (c : Content) (contents : Contents) : Type 0 where
  pub content : content_of contents ≡ c
  pub sound : IsSound descriptor_shape t c

-- the records of a value of a field, if there is one
abbrev pub recs_of : FieldShape → Option Val → List Rec
recs_of g None = []
recs_of g (Some v) = field_recs descriptor_shape (Some g) v

-- the records of a value, if there is one, at a number; a list is not packed
abbrev pub value_recs : ℕ → Kind → Option Val → List Rec
value_recs n k v = recs_of (list_field n [] [] k) v

-- the same where a list of numbers is packed
abbrev pub packed_recs : ℕ → Kind → Option Val → List Rec
packed_recs n k v = recs_of (packed_field n [] [] k) v

-- a value, if there is one, is written behind the text, and a field of this cardinality and kind may have it
pub record Writes (c : Cardinality) (k : Kind) (n : ℕ) (v : Option Val) (old new : List ℕ) : Type 0 where
  pub text : new ≡ old ++ text_of (value_recs n k v)
  pub value : MayBe descriptor_shape c k v

-- a list, if there is one, is written behind the text, packed, and a field of this kind may have it
pub record WritesPacked (k : Kind) (n : ℕ) (v : Option Val) (old new : List ℕ) : Type 0 where
  pub text : new ≡ old ++ text_of (packed_recs n k v)
  pub value : MayBe descriptor_shape Repeated k v

-- the content, which a message of the type may have, is written behind the text
pub record IsWritten (t : ℕ) (c : Content) (old new : List ℕ) : Type 0 where
  pub text : new ≡ old ++ encoded descriptor_shape t c
  pub sound : IsSound descriptor_shape t c
