-- The records of a content may be written, but that a payload may be too long.
use Rattle.std.proofs.Common.{◌≡◌, ℕ, ◌^◌, ◌<◌, ◌≤◌, max, Bool, true, false, ◌&&◌, if◌then◌else◌, nat_lt, List, [], ◌∷◌, ◌++◌, length, map, Option, Some, None, inl, inr, refl, ap, ◌∙◌, arith, rules}
use Rattle.std.proofs.lemmas.Bool.{lt-ltb, cases_lt}
use Rattle.std.proofs.lemmas.List.{map-append}
use Rattle.std.specs.List.{AllByRecursion}
use Rattle.pbx_wire.specs.Text.{text, text_of, is_record_number, is_numbered, all_true, are_numbered, is_fit, are_fit, depth as rec_depth, depth_of}
use Rattle.pbx_wire.proofs.Written.{both, all_true-append}
use Rattle.pbx_wire.specs.declared.rec.Rec.{Rec, Varint, Fixed64, Bytes, Group', Fixed32}
use Rattle.pbx_wire.specs.declared.rec.Rec.{the_lemmas as rec_lemmas}
use Rattle.pbx_wire.specs.declared.rec.Rec.TheVariants as rec
use Rattle.pbx_content.specs.declared.shape.Kind.{Kind}
use Rattle.pbx_content.specs.declared.shape.Kind.TheVariants as kind
use Rattle.pbx_content.specs.declared.shape.Shape.{Shape}
use Rattle.pbx_content.specs.declared.shape.FieldShape.{FieldShape}
use Rattle.pbx_content.specs.Content.{content, Fields, no_fields, field, Val, number, truth, text as text_val, octets, message, many, keyed, Vals, no_vals, val}
use Rattle.pbx_content.specs.Content.{Pairs, no_pairs, pair}
use Rattle.pbx_content.specs.Records.{number_of, bytes_of, insert, sorted}
use Rattle.pbx_content.specs.Shape.{Form, as_varint, as_four, as_eight, as_payload, fields_of, keeps_order_of, field_of, form_of}
use Rattle.pbx_content.specs.Encoding.{numeral, number_rec, type_of, keys_of, packed_text, is_packed, with_kept}
use Rattle.pbx_content.specs.Encoding.{content_recs, fields_recs, field_recs, vals_recs, val_rec, pairs_recs, encoded}
use Rattle.pbx_content.specs.Sound.{IsProper, IsSound, AreSound, IsSoundAt, AreElements, IsElement}
use Rattle.pbx_content.proofs.SoundLists.{all-append}
use Rattle.pbx_content.proofs.WrittenNumbers.{FitsForm, number_numeral, truth_numeral}
use Rattle.pbx_content.proofs.WrittenOrder.{AreAbove, fields_above, numbered_field}
use Rattle.pbx_content.proofs.WrittenShort.{size, size_first, bytes_within}
use Rattle.pbx_content.proofs.WrittenValues.{entry_recs}
use Rattle.pbx_json_payload_laws.proofs.Shrinks.{ArePayloadsBelow}
use Rattle.pbx_json_payload_laws.proofs.Long.{IsFitOrLong}

-- ---- payloads are no longer than the whole text

pub payload_in_text : (r : Rec) (b : List ℕ) → bytes_of r ≡ Some b → length b ≤ length (text r)
payload_in_text (Bytes n c) b e = let is : c ≡ b = cc in omega (arith, bytes_within n c, ap length is)
payload_in_text (Varint n v) b e = absurd cc
payload_in_text (Fixed64 n v) b e = absurd cc
payload_in_text (Group' n shape row) b e = absurd cc
payload_in_text (Fixed32 n v) b e = absurd cc

pub short_payloads : (n : ℕ) (rs : List Rec) → size rs < n → ArePayloadsBelow n rs
short_payloads n [] h = tt
short_payloads n (r ∷ rs) h =
    (λ b e. omega (arith, h, size_first r rs, payload_in_text r b e), short_payloads n rs (omega (arith, h, size_first r rs)))

-- ---- tests of records, sorted or with kept ones

tests-insert : (p : Rec → Bool) (r : Rec) (ss : List Rec) → all_true (map p (insert r ss)) ≡ all_true (map p (r ∷ ss))
tests-insert p r [] = refl
tests-insert p r (s ∷ ss) = let ih = tests-insert p r ss in grind (arith, ih)

tests-sorted : (p : Rec → Bool) (rs : List Rec) → all_true (map p (sorted rs)) ≡ all_true (map p rs)
tests-sorted p [] = refl
tests-sorted p (r ∷ rs) = tests-insert p r (sorted rs) ∙ ap (λ b. p r && b) (tests-sorted p rs)

tests-append : (p : Rec → Bool) (xs ys : List Rec) → all_true (map p xs) ≡ true → all_true (map p ys) ≡ true → all_true (map p (xs ++ ys)) ≡ true
tests-append p xs ys h k = rw map-append (all_true-append (map p xs) (map p ys) h k)

tests-with_kept : (p : Rec → Bool) (b : Bool) (rs kept : List Rec) → all_true (map p rs) ≡ true → all_true (map p kept) ≡ true
    → all_true (map p (with_kept b rs kept)) ≡ true
tests-with_kept p true rs kept h k = tests-append p (sorted rs) kept (tests-sorted p rs ∙ h) k
tests-with_kept p false rs kept h k = tests-sorted p (rs ++ kept) ∙ tests-append p rs kept h k

depth-insert : (r : Rec) (ss : List Rec) → depth_of (insert r ss) ≡ depth_of (r ∷ ss)
depth-insert r [] = refl
depth-insert r (s ∷ ss) = let ih = depth-insert r ss in grind (arith, ih)

depth-sorted : (rs : List Rec) → depth_of (sorted rs) ≡ depth_of rs
depth-sorted [] = refl
depth-sorted (r ∷ rs) = depth-insert r (sorted rs) ∙ ap (λ d. max (rec_depth r) d) (depth-sorted rs)

depth-append : (xs ys : List Rec) → depth_of (xs ++ ys) ≡ max (depth_of xs) (depth_of ys)
depth-append [] ys = omega arith
depth-append (x ∷ xs) ys = let ih = depth-append xs ys in omega (arith, ih)

depth-with_kept : (b : Bool) (rs kept : List Rec) → depth_of (with_kept b rs kept) ≡ max (depth_of rs) (depth_of kept)
depth-with_kept true rs kept = depth-append (sorted rs) kept ∙ ap (λ d. max d (depth_of kept)) (depth-sorted rs)
depth-with_kept false rs kept = depth-sorted (rs ++ kept) ∙ depth-append rs kept

all-insert : (P : Rec → Type 0) (r : Rec) (ss : List Rec) → P r → AllByRecursion P ss → AllByRecursion P (insert r ss)
all-insert P r [] h k = (h, tt)
all-insert P r (s ∷ ss) h k = at (nat_lt (number_of s) (number_of r)) (all-insert P r ss h k.1)
  where
    at : (b : Bool) → AllByRecursion P (insert r ss) → AllByRecursion P (if b then s ∷ insert r ss else r ∷ s ∷ ss)
    at true ih = (k.0, ih)
    at false ih = (h, k)

all-sorted : (P : Rec → Type 0) (rs : List Rec) → AllByRecursion P rs → AllByRecursion P (sorted rs)
all-sorted P [] h = tt
all-sorted P (r ∷ rs) h = all-insert P r (sorted rs) h.0 (all-sorted P rs h.1)

all-with_kept : (P : Rec → Type 0) (b : Bool) (rs kept : List Rec) → AllByRecursion P rs → AllByRecursion P kept → AllByRecursion P (with_kept b rs kept)
all-with_kept P true rs kept h k = all-append P (sorted rs) kept (all-sorted P rs h) k
all-with_kept P false rs kept h k = all-sorted P (rs ++ kept) (all-append P rs kept h k)

-- ---- the records of fields

-- records of known numbers without groups, which are fit but for the lengths of payloads
pub record Writable (rs : List Rec) : Type 0 where
  pub numbered : are_numbered rs ≡ true
  pub fit : AllByRecursion IsFitOrLong rs
  pub shallow : depth_of rs ≡ 0

nothing_writable : Writable []
nothing_writable = record { numbered = refl; fit = tt; shallow = refl }

first_writable : (r : Rec) (rs : List Rec) → is_numbered r ≡ true → IsFitOrLong r → rec_depth r ≡ 0 → Writable rs → Writable (r ∷ rs)
first_writable r rs numbered fit shallow w = record {
  numbered = rw (numbered, w.numbered) refl;
  fit = (fit, w.fit);
  shallow = rw (shallow, w.shallow) refl;
}

number_writable : (n : ℕ) (form : Form) (v : ℕ) (rs : List Rec) → is_record_number n ≡ true → FitsForm form v → Writable rs → Writable (number_rec n form v ∷ rs)
number_writable n as_varint v rs h lt w =
    let numbered : is_numbered (rec.Varint n v) ≡ is_record_number n = search (rules, rec_lemmas) in
    let fit : is_fit (rec.Varint n v) ≡ nat_lt v (2 ^ 64) = search (rules, rec_lemmas) in
    first_writable (rec.Varint n v) rs (numbered ∙ h) (inl (fit ∙ lt-ltb v (2 ^ 64) lt)) (search (rules, rec_lemmas)) w
number_writable n as_four v rs h lt w =
    let numbered : is_numbered (rec.Fixed32 n v) ≡ is_record_number n = search (rules, rec_lemmas) in
    let fit : is_fit (rec.Fixed32 n v) ≡ nat_lt v (2 ^ 32) = search (rules, rec_lemmas) in
    first_writable (rec.Fixed32 n v) rs (numbered ∙ h) (inl (fit ∙ lt-ltb v (2 ^ 32) lt)) (search (rules, rec_lemmas)) w
number_writable n as_eight v rs h lt w =
    let numbered : is_numbered (rec.Fixed64 n v) ≡ is_record_number n = search (rules, rec_lemmas) in
    let fit : is_fit (rec.Fixed64 n v) ≡ nat_lt v (2 ^ 64) = search (rules, rec_lemmas) in
    first_writable (rec.Fixed64 n v) rs (numbered ∙ h) (inl (fit ∙ lt-ltb v (2 ^ 64) lt)) (search (rules, rec_lemmas)) w
number_writable n as_payload v rs h lt w = absurd lt

bytes_writable : (n : ℕ) (b : List ℕ) (rs : List Rec) → is_record_number n ≡ true → Writable rs → Writable (rec.Bytes n b ∷ rs)
bytes_writable n b rs h w =
    let numbered : is_numbered (rec.Bytes n b) ≡ is_record_number n = search (rules, rec_lemmas) in
    let fit : is_fit (rec.Bytes n b) ≡ nat_lt (length b) (2 ^ 64) = search (rules, rec_lemmas) in
    first_writable (rec.Bytes n b) rs (numbered ∙ h) (at fit) (search (rules, rec_lemmas)) w
  where
    at : is_fit (rec.Bytes n b) ≡ nat_lt (length b) (2 ^ 64) → IsFitOrLong (rec.Bytes n b)
    at fit = elim (cases_lt (length b) (2 ^ 64)) [
      | inl lt ↦ inl (fit ∙ lt-ltb (length b) (2 ^ 64) lt)
      | inr ge ↦ inr (n, b, refl, ge)
    ]

append_writable : (xs ys : List Rec) → Writable xs → Writable ys → Writable (xs ++ ys)
append_writable xs ys v w = record {
  numbered = tests-append is_numbered xs ys v.numbered w.numbered;
  fit = all-append IsFitOrLong xs ys v.fit w.fit;
  shallow = rw (depth-append xs ys, v.shallow, w.shallow) refl;
}

val_writable : (shape : Shape) (n : ℕ) (k : Kind) (v : Val) (rs : List Rec) → is_record_number n ≡ true → IsElement shape k v → Writable rs
    → Writable (val_rec shape n k v ∷ rs)
val_writable shape n k (number z) rs h e w = number_writable n (form_of k) (numeral k (number z)) rs h (number_numeral k z e).fits w
val_writable shape n k (truth b) rs h e w = rw e (number_writable n (form_of kind.Bool) (numeral kind.Bool (truth b)) rs h (truth_numeral b).fits w)
val_writable shape n k (text_val s) rs h e w = bytes_writable n s rs h w
val_writable shape n k (octets b) rs h e w = bytes_writable n b rs h w
val_writable shape n k (message c) rs h e w = bytes_writable n (encoded shape (type_of k) c) rs h w
val_writable shape n k (many vs) rs h e w = absurd e
val_writable shape n k (keyed ps) rs h e w = absurd e

vals_writable : (shape : Shape) (n : ℕ) (k : Kind) (vs : Vals) → is_record_number n ≡ true → AreElements shape k vs → Writable (vals_recs shape n k vs)
vals_writable shape n k no_vals h e = nothing_writable
vals_writable shape n k (val v vs) h e = val_writable shape n k v (vals_recs shape n k vs) h e.0 (vals_writable shape n k vs h e.1)

pairs_writable : (shape : Shape) (n : ℕ) (key k : Kind) (ps : Pairs) → is_record_number n ≡ true → Writable (pairs_recs shape n key k ps)
pairs_writable shape n key k no_pairs h = nothing_writable
pairs_writable shape n key k (pair l v ps) h =
    bytes_writable n (text_of (entry_recs shape key k l v)) (pairs_recs shape n key k ps) h (pairs_writable shape n key k ps h)

field_writable : (shape : Shape) (f : FieldShape) (v : Val) → is_record_number f.number ≡ true → IsSoundAt shape (Some f) v → Writable (field_recs shape (Some f) v)
field_writable shape f (number z) n h = val_writable shape f.number f.kind (number z) [] n h.2 nothing_writable
field_writable shape f (truth b) n h = val_writable shape f.number f.kind (truth b) [] n h.2 nothing_writable
field_writable shape f (text_val s) n h = bytes_writable f.number s [] n nothing_writable
field_writable shape f (octets b) n h = bytes_writable f.number b [] n nothing_writable
field_writable shape f (message c) n h = bytes_writable f.number (encoded shape (type_of f.kind) c) [] n nothing_writable
field_writable shape f (many vs) n h = at (is_packed f) (vals_writable shape f.number f.kind vs n h.2)
  where
    at : (b : Bool) → Writable (vals_recs shape f.number f.kind vs)
        → Writable (if b then rec.Bytes f.number (packed_text f.kind vs) ∷ [] else vals_recs shape f.number f.kind vs)
    at true w = bytes_writable f.number (packed_text f.kind vs) [] n nothing_writable
    at false w = w
field_writable shape f (keyed ps) n h = pairs_writable shape f.number (keys_of f.cardinality) f.kind ps n

pub fields_writable : (shape : Shape) (gs : List FieldShape) (fs : Fields) → AreAbove 0 gs → AreSound shape gs fs → Writable (fields_recs shape gs fs)
fields_writable shape gs no_fields a h = nothing_writable
fields_writable shape gs (field n v fs) a h =
    append_writable (field_recs shape (field_of n gs) v) (fields_recs shape gs fs) (at (field_of n gs) refl h.0) (fields_writable shape gs fs a h.1)
  where
    at : (o : Option FieldShape) → field_of n gs ≡ o → IsSoundAt shape o v → Writable (field_recs shape o v)
    at None e s = absurd s
    at (Some f) e s = field_writable shape f v (numbered_field 0 n gs f a e) s

-- ---- the records of a content

-- the same with groups among the kept records
pub record Known (kept rs : List Rec) : Type 0 where
  pub numbered : are_numbered rs ≡ true
  pub fit : AllByRecursion IsFitOrLong rs
  pub deep : depth_of rs ≡ depth_of kept

all_fit : (rs : List Rec) → are_fit rs ≡ true → AllByRecursion IsFitOrLong rs
all_fit [] h = tt
all_fit (r ∷ rs) h = let parts = both (is_fit r) (are_fit rs) h in (inl parts.0, all_fit rs parts.1)

-- The records of a content have known numbers, and are fit but for the lengths of payloads.
pub content_known : (shape : Shape) (t : ℕ) (fs : Fields) (kept : List Rec) → IsProper shape → IsSound shape t (content fs kept)
    → Known kept (content_recs shape t (content fs kept))
content_known shape t fs kept proper h =
    let own = fields_recs shape (fields_of shape t) fs in
    let keeps = keeps_order_of shape t in
    let w = fields_writable shape (fields_of shape t) fs (fields_above shape t proper) h.1 in
    record {
      numbered = tests-with_kept is_numbered keeps own kept w.numbered h.3.numbered;
      fit = all-with_kept IsFitOrLong keeps own kept w.fit (all_fit kept h.3.fit);
      deep = omega (arith, depth-with_kept keeps own kept, w.shallow);
    }
