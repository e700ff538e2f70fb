-- What settling a content keeps: it settles nothing twice, and what is written stays.
use Rattle.std.proofs.Common.{◌≡◌, ℕ, Bool, true, false, nat_lt, List, [], ◌∷◌, ◌++◌, Option, Some, None, refl, sym, ap, ◌∙◌, arith}
use Rattle.std.proofs.lemmas.Bool.Decides.{nat_tests}
use Rattle.std.proofs.lemmas.List.Elements.{filter-append}
use Rattle.pbx_wire.specs.Text.{text_of}
use Rattle.pbx_wire.specs.declared.rec.Rec.{Rec}
use Rattle.pbx_content.specs.declared.shape.Kind.{Kind}
use Rattle.pbx_content.specs.declared.shape.Shape.{Shape}
use Rattle.pbx_content.specs.declared.shape.FieldShape.{FieldShape}
use Rattle.pbx_content.specs.Content.{Content, content, Fields, no_fields, field, Val, number, truth, text, octets, message, many, keyed}
use Rattle.pbx_content.specs.Content.{Vals, no_vals, val, Pairs, no_pairs, pair}
use Rattle.pbx_content.specs.Records.{number_of, is_of, those_of, insert, sorted}
use Rattle.pbx_content.specs.Shape.{fields_of, keeps_order_of, field_of}
use Rattle.pbx_content.specs.Encoding.{numeral, packed_text, payload, type_of, keys_of, with_kept}
use Rattle.pbx_content.specs.Encoding.{content_recs, fields_recs, field_recs, vals_recs, val_rec, pairs_recs, encoded}
use Rattle.pbx_content.specs.Same.{settled_kept, type_in, settled, settled_fields, settled_val, settled_vals, settled_pairs, Same}
use Rattle.pbx_content.proofs.Sorted.{IsLow, IsSorted, sorted_ascends, those_of-sorted}
use Rattle.pbx_content.proofs.Alike.{sorted_alike}

-- ---- nothing is settled twice

pub sorted_same : (rs : List Rec) → IsSorted rs → sorted rs ≡ rs
sorted_same [] h = refl
sorted_same (r ∷ rs) h = rw (sorted_same rs h.1) (first_here rs h.0)
  where
    first_here : (rs : List Rec) → IsLow (number_of r) rs → insert r rs ≡ r ∷ rs
    first_here [] h = refl
    first_here (s ∷ ss) h = let stop : nat_lt (number_of s) (number_of r) ≡ false = grind (arith, nat_tests, h.0) in rw stop refl

kept_once : (b : Bool) (kept : List Rec) → settled_kept b (settled_kept b kept) ≡ settled_kept b kept
kept_once true kept = refl
kept_once false kept = sorted_same (sorted kept) (sorted_ascends kept)

mutual
  pub settled_once : (shape : Shape) (t : ℕ) (c : Content) → settled shape t (settled shape t c) ≡ settled shape t c
  settled_once shape t (content fs kept) = rw (fields_once shape (fields_of shape t) fs, kept_once (keeps_order_of shape t) kept) refl

  fields_once : (shape : Shape) (gs : List FieldShape) (fs : Fields) → settled_fields shape gs (settled_fields shape gs fs) ≡ settled_fields shape gs fs
  fields_once shape gs no_fields = refl
  fields_once shape gs (field n v fs) = rw (val_once shape (type_in (field_of n gs)) v, fields_once shape gs fs) refl

  pub val_once : (shape : Shape) (t : ℕ) (v : Val) → settled_val shape t (settled_val shape t v) ≡ settled_val shape t v
  val_once shape t (number z) = refl
  val_once shape t (truth b) = refl
  val_once shape t (text s) = refl
  val_once shape t (octets b) = refl
  val_once shape t (message c) = ap message (settled_once shape t c)
  val_once shape t (many vs) = ap many (vals_once shape t vs)
  val_once shape t (keyed ps) = ap keyed (pairs_once shape t ps)

  vals_once : (shape : Shape) (t : ℕ) (vs : Vals) → settled_vals shape t (settled_vals shape t vs) ≡ settled_vals shape t vs
  vals_once shape t no_vals = refl
  vals_once shape t (val v vs) = rw (val_once shape t v, vals_once shape t vs) refl

  pairs_once : (shape : Shape) (t : ℕ) (ps : Pairs) → settled_pairs shape t (settled_pairs shape t ps) ≡ settled_pairs shape t ps
  pairs_once shape t no_pairs = refl
  pairs_once shape t (pair k v ps) = rw (val_once shape t v, pairs_once shape t ps) refl

-- ---- what is written stays

kept_written : (b : Bool) (rs kept : List Rec) → with_kept b rs (settled_kept b kept) ≡ with_kept b rs kept
kept_written true rs kept = refl
kept_written false rs kept =
    sorted_alike (rs ++ sorted kept) (rs ++ kept)
    (λ n. filter-append (is_of n) rs (sorted kept) ∙ ap (λ xs. those_of n rs ++ xs) (those_of-sorted n kept) ∙ sym (filter-append (is_of n) rs kept))

numeral_written : (shape : Shape) (t : ℕ) (k : Kind) (v : Val) → numeral k (settled_val shape t v) ≡ numeral k v
numeral_written shape t k (number z) = refl
numeral_written shape t k (truth b) = refl
numeral_written shape t k (text s) = refl
numeral_written shape t k (octets b) = refl
numeral_written shape t k (message c) = refl
numeral_written shape t k (many vs) = refl
numeral_written shape t k (keyed ps) = refl

pub packed_written : (shape : Shape) (t : ℕ) (k : Kind) (vs : Vals) → packed_text k (settled_vals shape t vs) ≡ packed_text k vs
packed_written shape t k no_vals = refl
packed_written shape t k (val v vs) = rw (numeral_written shape t k v, packed_written shape t k vs) refl

mutual
  pub recs_written : (shape : Shape) (t : ℕ) (c : Content) → content_recs shape t (settled shape t c) ≡ content_recs shape t c
  recs_written shape t (content fs kept) =
      rw (fields_written shape (fields_of shape t) fs) (kept_written (keeps_order_of shape t) (fields_recs shape (fields_of shape t) fs) kept)

  fields_written : (shape : Shape) (gs : List FieldShape) (fs : Fields) → fields_recs shape gs (settled_fields shape gs fs) ≡ fields_recs shape gs fs
  fields_written shape gs no_fields = refl
  fields_written shape gs (field n v fs) = rw (field_written shape (field_of n gs) v, fields_written shape gs fs) refl

  field_written : (shape : Shape) (o : Option FieldShape) (v : Val) → field_recs shape o (settled_val shape (type_in o) v) ≡ field_recs shape o v
  field_written shape None v = refl
  field_written shape (Some f) (number z) = refl
  field_written shape (Some f) (truth b) = refl
  field_written shape (Some f) (text s) = refl
  field_written shape (Some f) (octets b) = refl
  field_written shape (Some f) (message c) = ap (λ rs. payload f.number rs ∷ []) (recs_written shape (type_of f.kind) c)
  field_written shape (Some f) (many vs) = rw (packed_written shape (type_of f.kind) f.kind vs, vals_written shape f.number f.kind vs) refl
  field_written shape (Some f) (keyed ps) = pairs_written shape f.number (keys_of f.cardinality) f.kind ps

  vals_written : (shape : Shape) (n : ℕ) (k : Kind) (vs : Vals) → vals_recs shape n k (settled_vals shape (type_of k) vs) ≡ vals_recs shape n k vs
  vals_written shape n k no_vals = refl
  vals_written shape n k (val v vs) = rw (val_written shape n k v, vals_written shape n k vs) refl

  val_written : (shape : Shape) (n : ℕ) (k : Kind) (v : Val) → val_rec shape n k (settled_val shape (type_of k) v) ≡ val_rec shape n k v
  val_written shape n k (number z) = refl
  val_written shape n k (truth b) = refl
  val_written shape n k (text s) = refl
  val_written shape n k (octets b) = refl
  val_written shape n k (message c) = ap (payload n) (recs_written shape (type_of k) c)
  val_written shape n k (many vs) = refl
  val_written shape n k (keyed ps) = refl

  pairs_written : (shape : Shape) (n : ℕ) (key k : Kind) (ps : Pairs)
      → pairs_recs shape n key k (settled_pairs shape (type_of k) ps) ≡ pairs_recs shape n key k ps
  pairs_written shape n key k no_pairs = refl
  pairs_written shape n key k (pair l v ps) = rw (val_written shape 2 k v, pairs_written shape n key k ps) refl

-- Contents that are the same have one text.
pub same_written : (shape : Shape) (t : ℕ) (c d : Content) → Same shape t c d → encoded shape t c ≡ encoded shape t d
same_written shape t c d same =
    ap text_of (sym (recs_written shape t c) ∙ ap (content_recs shape t) same ∙ recs_written shape t d)
