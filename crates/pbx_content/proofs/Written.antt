-- What is written for a content decodes to it.
use Rattle.std.proofs.Common.{◌≡◌, ℕ, zero, suc, ◌+◌, ◌^◌, ◌<◌, ◌≤◌, max, ℤ, Bool, true, false, ◌&&◌, if◌then◌else◌, nat_lt, List, [], ◌∷◌, ◌++◌, length, map}
use Rattle.std.proofs.Common.{Option, Some, None, inl, refl, ap, ◌∙◌, subst, arith, append-nil, rules}
use Rattle.std.specs.Prelude.{option_and_then}
use Rattle.std.specs.Str.{is_utf8}
use Rattle.std.proofs.lemmas.Bool.{lt-ltb}
use Rattle.std.proofs.lemmas.List.{map-append}
use Rattle.pbx_wire.specs.Text.{text, text_of, is_record_number, is_numbered, all_true, are_numbered, is_fit, are_fit, depth as rec_depth, depth_of}
use Rattle.pbx_wire.proofs.Written.{written_again, all_true-append}
use Rattle.pbx_wire.specs.declared.rec.Rec.{Rec}
use Rattle.pbx_wire.specs.declared.rec.Rec.{the_lemmas as rec_lemmas}
use Rattle.pbx_wire.specs.declared.rec.Rec.TheVariants as rec
use Rattle.pbx_content.specs.declared.shape.Kind.{Kind}
use Rattle.pbx_content.specs.declared.shape.Kind.TheVariants as kind
use Rattle.pbx_content.specs.declared.shape.Shape.{Shape}
use Rattle.pbx_content.specs.declared.shape.FieldShape.{FieldShape}
use Rattle.pbx_content.specs.Content.{Key, truth_key, number_key, text_key, Content, content, Fields, no_fields, field, Val, number, truth, text as text_val}
use Rattle.pbx_content.specs.Content.{octets, message, many, keyed, Vals, no_vals, val, Pairs, no_pairs, pair}
use Rattle.pbx_content.specs.Records.{insert, sorted, records_in}
use Rattle.pbx_content.specs.Shape.{Form, as_varint, as_four, as_eight, as_payload, fields_of, keeps_order_of, field_of, entry_fields, form_of}
use Rattle.pbx_content.specs.Meaning.{Inner, no_inner, records_of, meaning}
use Rattle.pbx_content.specs.Encoding.{numeral, number_rec, key_rec, type_of, keys_of, packed_text, is_packed, with_kept}
use Rattle.pbx_content.specs.Encoding.{content_recs, fields_recs, field_recs, vals_recs, val_rec, pairs_recs, encoded}
use Rattle.pbx_content.specs.Same.{settled_kept, settled, settled_fields, settled_val, Decodes, DecodesWithin, DecodesParts}
use Rattle.pbx_content.specs.Sound.{IsNumber, IsKeyOf, IsProper, IsSound, AreSound, IsSoundAt, AreElements, IsElement, depth, fields_depth, val_depth, PartsFit}
use Rattle.pbx_content.specs.Laws.{IsShort}
use Rattle.pbx_content.proofs.Settled.{settled_once}
use Rattle.pbx_content.proofs.WrittenNumbers.{FitsForm, number_numeral, truth_numeral}
use Rattle.pbx_content.proofs.WrittenOrder.{AreAbove, fields_above, numbered_field}
use Rattle.pbx_content.proofs.WrittenShort.{size, size_first, size-append, bytes_within, size-with_kept}
use Rattle.pbx_content.proofs.WrittenValues.{key_val, entry_recs, entry}
use Rattle.pbx_content.proofs.WrittenFields.{AreFields, Holds, holds_own, holds_written, layer_back}

-- ---- tests of records, sorted or with kept ones

tests-insert : (p : Rec → Bool) (r : Rec) (ss : List Rec) → all_true (map p (insert r ss)) ≡ all_true (map p (r ∷ ss))
tests-insert p r [] = refl
tests-insert p r (s ∷ ss) = let ih = tests-insert p r ss in grind (arith, ih)

tests-sorted : (p : Rec → Bool) (rs : List Rec) → all_true (map p (sorted rs)) ≡ all_true (map p rs)
tests-sorted p [] = refl
tests-sorted p (r ∷ rs) = tests-insert p r (sorted rs) ∙ ap (λ b. p r && b) (tests-sorted p rs)

tests-append : (p : Rec → Bool) (xs ys : List Rec) → all_true (map p xs) ≡ true → all_true (map p ys) ≡ true → all_true (map p (xs ++ ys)) ≡ true
tests-append p xs ys h k = rw map-append (all_true-append (map p xs) (map p ys) h k)

tests-with_kept : (p : Rec → Bool) (b : Bool) (rs kept : List Rec) → all_true (map p rs) ≡ true → all_true (map p kept) ≡ true
    → all_true (map p (with_kept b rs kept)) ≡ true
tests-with_kept p true rs kept h k = tests-append p (sorted rs) kept (tests-sorted p rs ∙ h) k
tests-with_kept p false rs kept h k = tests-sorted p (rs ++ kept) ∙ tests-append p rs kept h k

depth-insert : (r : Rec) (ss : List Rec) → depth_of (insert r ss) ≡ depth_of (r ∷ ss)
depth-insert r [] = refl
depth-insert r (s ∷ ss) = let ih = depth-insert r ss in grind (arith, ih)

depth-sorted : (rs : List Rec) → depth_of (sorted rs) ≡ depth_of rs
depth-sorted [] = refl
depth-sorted (r ∷ rs) = depth-insert r (sorted rs) ∙ ap (λ d. max (rec_depth r) d) (depth-sorted rs)

depth-append : (xs ys : List Rec) → depth_of (xs ++ ys) ≡ max (depth_of xs) (depth_of ys)
depth-append [] ys = omega arith
depth-append (x ∷ xs) ys = let ih = depth-append xs ys in omega (arith, ih)

depth-with_kept : (b : Bool) (rs kept : List Rec) → depth_of (with_kept b rs kept) ≡ max (depth_of rs) (depth_of kept)
depth-with_kept true rs kept = depth-append (sorted rs) kept ∙ ap (λ d. max d (depth_of kept)) (depth-sorted rs)
depth-with_kept false rs kept = depth-sorted (rs ++ kept) ∙ depth-append rs kept

-- ---- the records of fields may be written

-- records of known numbers without groups, whose values are of their types if their text is short enough
record Writable (rs : List Rec) : Type 0 where
  numbered : are_numbered rs ≡ true
  fit : size rs < 2 ^ 64 → are_fit rs ≡ true
  shallow : depth_of rs ≡ 0

nothing_writable : Writable []
nothing_writable = record { numbered = refl; fit = λ short. refl; shallow = refl }

first_writable : (r : Rec) (rs : List Rec) → is_numbered r ≡ true → (length (text r) < 2 ^ 64 → is_fit r ≡ true) → rec_depth r ≡ 0 → Writable rs
    → Writable (r ∷ rs)
first_writable r rs numbered fit shallow w = record {
  numbered = rw numbered w.numbered;
  fit = λ short. rw (fit (omega (arith, short, size_first r rs)), w.fit (omega (arith, short, size_first r rs))) refl;
  shallow = rw (shallow, w.shallow) refl;
}

number_writable : (n : ℕ) (form : Form) (v : ℕ) (rs : List Rec) → is_record_number n ≡ true → FitsForm form v → Writable rs → Writable (number_rec n form v ∷ rs)
number_writable n as_varint v rs h lt w =
    let numbered : is_numbered (rec.Varint n v) ≡ is_record_number n = search (rules, rec_lemmas) in
    let fit : is_fit (rec.Varint n v) ≡ nat_lt v (2 ^ 64) = search (rules, rec_lemmas) in
    first_writable (rec.Varint n v) rs (numbered ∙ h) (λ short. fit ∙ lt-ltb v (2 ^ 64) lt) (search (rules, rec_lemmas)) w
number_writable n as_four v rs h lt w =
    let numbered : is_numbered (rec.Fixed32 n v) ≡ is_record_number n = search (rules, rec_lemmas) in
    let fit : is_fit (rec.Fixed32 n v) ≡ nat_lt v (2 ^ 32) = search (rules, rec_lemmas) in
    first_writable (rec.Fixed32 n v) rs (numbered ∙ h) (λ short. fit ∙ lt-ltb v (2 ^ 32) lt) (search (rules, rec_lemmas)) w
number_writable n as_eight v rs h lt w =
    let numbered : is_numbered (rec.Fixed64 n v) ≡ is_record_number n = search (rules, rec_lemmas) in
    let fit : is_fit (rec.Fixed64 n v) ≡ nat_lt v (2 ^ 64) = search (rules, rec_lemmas) in
    first_writable (rec.Fixed64 n v) rs (numbered ∙ h) (λ short. fit ∙ lt-ltb v (2 ^ 64) lt) (search (rules, rec_lemmas)) w
number_writable n as_payload v rs h lt w = absurd lt

bytes_writable : (n : ℕ) (b : List ℕ) (rs : List Rec) → is_record_number n ≡ true → Writable rs → Writable (rec.Bytes n b ∷ rs)
bytes_writable n b rs h w =
    let numbered : is_numbered (rec.Bytes n b) ≡ is_record_number n = search (rules, rec_lemmas) in
    let fit : is_fit (rec.Bytes n b) ≡ nat_lt (length b) (2 ^ 64) = search (rules, rec_lemmas) in
    first_writable (rec.Bytes n b) rs (numbered ∙ h) (λ short. fit ∙ lt-ltb (length b) (2 ^ 64) (omega (arith, short, bytes_within n b)))
    (search (rules, rec_lemmas)) w

append_writable : (xs ys : List Rec) → Writable xs → Writable ys → Writable (xs ++ ys)
append_writable [] ys v w = w
append_writable (x ∷ xs) ys v w = record {
  numbered = tests-append is_numbered (x ∷ xs) ys v.numbered w.numbered;
  fit = λ short.
      tests-append is_fit (x ∷ xs) ys (v.fit (omega (arith, short, size-append (x ∷ xs) ys))) (w.fit (omega (arith, short, size-append (x ∷ xs) ys)));
  shallow = rw (depth-append (x ∷ xs) ys, v.shallow, w.shallow) refl;
}

val_writable : (shape : Shape) (n : ℕ) (k : Kind) (v : Val) (rs : List Rec) → is_record_number n ≡ true → IsElement shape k v → Writable rs
    → Writable (val_rec shape n k v ∷ rs)
val_writable shape n k (number z) rs h e w = number_writable n (form_of k) (numeral k (number z)) rs h (number_numeral k z e).fits w
val_writable shape n k (truth b) rs h e w = rw e (number_writable n (form_of kind.Bool) (numeral kind.Bool (truth b)) rs h (truth_numeral b).fits w)
val_writable shape n k (text_val s) rs h e w = bytes_writable n s rs h w
val_writable shape n k (octets b) rs h e w = bytes_writable n b rs h w
val_writable shape n k (message c) rs h e w = bytes_writable n (encoded shape (type_of k) c) rs h w
val_writable shape n k (many vs) rs h e w = absurd e
val_writable shape n k (keyed ps) rs h e w = absurd e

vals_writable : (shape : Shape) (n : ℕ) (k : Kind) (vs : Vals) → is_record_number n ≡ true → AreElements shape k vs → Writable (vals_recs shape n k vs)
vals_writable shape n k no_vals h e = nothing_writable
vals_writable shape n k (val v vs) h e = val_writable shape n k v (vals_recs shape n k vs) h e.0 (vals_writable shape n k vs h e.1)

pairs_writable : (shape : Shape) (n : ℕ) (key k : Kind) (ps : Pairs) → is_record_number n ≡ true → Writable (pairs_recs shape n key k ps)
pairs_writable shape n key k no_pairs h = nothing_writable
pairs_writable shape n key k (pair l v ps) h =
    bytes_writable n (text_of (entry_recs shape key k l v)) (pairs_recs shape n key k ps) h (pairs_writable shape n key k ps h)

field_writable : (shape : Shape) (f : FieldShape) (v : Val) → is_record_number f.number ≡ true → IsSoundAt shape (Some f) v → Writable (field_recs shape (Some f) v)
field_writable shape f (number z) n h = val_writable shape f.number f.kind (number z) [] n h.2 nothing_writable
field_writable shape f (truth b) n h = val_writable shape f.number f.kind (truth b) [] n h.2 nothing_writable
field_writable shape f (text_val s) n h = bytes_writable f.number s [] n nothing_writable
field_writable shape f (octets b) n h = bytes_writable f.number b [] n nothing_writable
field_writable shape f (message c) n h = bytes_writable f.number (encoded shape (type_of f.kind) c) [] n nothing_writable
field_writable shape f (many vs) n h = at (is_packed f) (vals_writable shape f.number f.kind vs n h.2)
  where
    at : (b : Bool) → Writable (vals_recs shape f.number f.kind vs)
        → Writable (if b then rec.Bytes f.number (packed_text f.kind vs) ∷ [] else vals_recs shape f.number f.kind vs)
    at true w = bytes_writable f.number (packed_text f.kind vs) [] n nothing_writable
    at false w = w
field_writable shape f (keyed ps) n h = pairs_writable shape f.number (keys_of f.cardinality) f.kind ps n

fields_writable : (shape : Shape) (gs : List FieldShape) (fs : Fields) → AreAbove 0 gs → AreSound shape gs fs → Writable (fields_recs shape gs fs)
fields_writable shape gs no_fields a h = nothing_writable
fields_writable shape gs (field n v fs) a h =
    append_writable (field_recs shape (field_of n gs) v) (fields_recs shape gs fs) (at (field_of n gs) refl h.0) (fields_writable shape gs fs a h.1)
  where
    at : (o : Option FieldShape) → field_of n gs ≡ o → IsSoundAt shape o v → Writable (field_recs shape o v)
    at None e s = absurd s
    at (Some f) e s = field_writable shape f v (numbered_field 0 n gs f a e) s

-- ---- the records of a content are spelled by its text

kept_short : (a b n : ℕ) → n ≡ a + b → n < 2 ^ 64 → a < 2 ^ 64
kept_short a b n e h = omega (arith, e, h)

-- only groups among the kept records take levels here: messages are payloads
pub content_spelled : (shape : Shape) (t levels : ℕ) (fs : Fields) (kept : List Rec) → IsProper shape → IsSound shape t (content fs kept)
    → size (content_recs shape t (content fs kept)) < 2 ^ 64 → depth_of kept ≤ levels
    → records_in levels (encoded shape t (content fs kept)) ≡ Some (content_recs shape t (content fs kept))
content_spelled shape t levels fs kept proper h short d =
    let gs = fields_of shape t in
    let own = fields_recs shape gs fs in
    let keeps = keeps_order_of shape t in
    let w = fields_writable shape gs fs (fields_above shape t proper) h.1 in
    let within : size own < 2 ^ 64 = kept_short (size own) (size kept) (size (with_kept keeps own kept)) (size-with_kept keeps own kept) short in
    written_again levels (content_recs shape t (content fs kept))
    (tests-with_kept is_numbered keeps own kept w.numbered h.3.numbered)
    (tests-with_kept is_fit keeps own kept (w.fit within) h.3.fit)
    (omega (arith, depth-with_kept keeps own kept, w.shallow, d))

-- ---- entries of maps as messages

key_number : (key : Kind) (z : ℤ) → IsKeyOf key (number_key z) → IsNumber key z
key_number kind.Double z h = h
key_number kind.Float z h = h
key_number kind.Int32 z h = h
key_number kind.Int64 z h = h
key_number kind.Uint32 z h = h
key_number kind.Uint64 z h = h
key_number kind.Sint32 z h = h
key_number kind.Sint64 z h = h
key_number kind.Fixed32 z h = h
key_number kind.Fixed64 z h = h
key_number kind.Sfixed32 z h = h
key_number kind.Sfixed64 z h = h
key_number kind.Bool z h = h
key_number kind.String z h = h
key_number kind.Bytes z h = h
key_number (kind.Message t) z h = h
key_number (kind.Enum e) z h = absurd h

key_truth : (key : Kind) (b : Bool) → IsKeyOf key (truth_key b) → key ≡ kind.Bool
key_truth kind.Double b h = absurd h
key_truth kind.Float b h = absurd h
key_truth kind.Int32 b h = absurd h
key_truth kind.Int64 b h = absurd h
key_truth kind.Uint32 b h = absurd h
key_truth kind.Uint64 b h = absurd h
key_truth kind.Sint32 b h = absurd h
key_truth kind.Sint64 b h = absurd h
key_truth kind.Fixed32 b h = absurd h
key_truth kind.Fixed64 b h = absurd h
key_truth kind.Sfixed32 b h = absurd h
key_truth kind.Sfixed64 b h = absurd h
key_truth kind.Bool b h = refl
key_truth kind.String b h = absurd h
key_truth kind.Bytes b h = absurd h
key_truth (kind.Message t) b h = absurd h
key_truth (kind.Enum e) b h = absurd h

key_text : (key : Kind) (s : List ℕ) → IsKeyOf key (text_key s) → (key ≡ kind.String) × (is_utf8 s ≡ true)
key_text kind.Double s h = absurd h
key_text kind.Float s h = absurd h
key_text kind.Int32 s h = absurd h
key_text kind.Int64 s h = absurd h
key_text kind.Uint32 s h = absurd h
key_text kind.Uint64 s h = absurd h
key_text kind.Sint32 s h = absurd h
key_text kind.Sint64 s h = absurd h
key_text kind.Fixed32 s h = absurd h
key_text kind.Fixed64 s h = absurd h
key_text kind.Sfixed32 s h = absurd h
key_text kind.Sfixed64 s h = absurd h
key_text kind.Bool s h = absurd h
key_text kind.String s h = (refl, h)
key_text kind.Bytes s h = absurd h
key_text (kind.Message t) s h = absurd h
key_text (kind.Enum e) s h = absurd h

-- the fields of an entry
abbrev entry_values : Key → Val → Fields
entry_values l v = field 1 (key_val l) (field 2 v no_fields)

key_sound : (shape : Shape) (key k : Kind) (l : Key) → IsKeyOf key l → IsSoundAt shape (field_of 1 (entry_fields key k)) (key_val l)
key_sound shape key k (truth_key b) h = (refl, inl refl, key_truth key b h)
key_sound shape key k (number_key z) h = (refl, inl refl, key_number key z h)
key_sound shape key k (text_key s) h = let t = key_text key s h in (refl, inl refl, t.0, t.1)

value_sound : (shape : Shape) (key k : Kind) (v : Val) → IsElement shape k v → IsSoundAt shape (field_of 2 (entry_fields key k)) v
value_sound shape key k (number z) h = (refl, inl refl, h)
value_sound shape key k (truth b) h = (refl, inl refl, h)
value_sound shape key k (text_val s) h = (refl, inl refl, h.0, h.1)
value_sound shape key k (octets b) h = (refl, inl refl, h)
value_sound shape key k (message c) h = (refl, h)
value_sound shape key k (many vs) h = absurd h
value_sound shape key k (keyed ps) h = absurd h

entry_sound : (shape : Shape) (key k : Kind) (l : Key) (v : Val) → IsKeyOf key l → IsElement shape k v → AreFields shape (entry_fields key k) (entry_values l v)
entry_sound shape key k l v h e = record {
  above = (omega arith, refl, (omega arith, refl, tt));
  ascending = (omega arith, tt);
  sound = (key_sound shape key k l h, (value_sound shape key k v e, tt));
  one_member = refl;
}

key_written : (shape : Shape) (key k : Kind) (l : Key) → IsKeyOf key l → field_recs shape (field_of 1 (entry_fields key k)) (key_val l) ≡ key_rec key l ∷ []
key_written shape key k (truth_key b) h = rw (key_truth key b h) refl
key_written shape key k (number_key z) h = refl
key_written shape key k (text_key s) h = refl

value_written : (shape : Shape) (key k : Kind) (v : Val) → IsElement shape k v → field_recs shape (field_of 2 (entry_fields key k)) v ≡ val_rec shape 2 k v ∷ []
value_written shape key k (number z) h = refl
value_written shape key k (truth b) h = refl
value_written shape key k (text_val s) h = refl
value_written shape key k (octets b) h = refl
value_written shape key k (message c) h = refl
value_written shape key k (many vs) h = absurd h
value_written shape key k (keyed ps) h = absurd h

entry_written : (shape : Shape) (key k : Kind) (l : Key) (v : Val) → IsKeyOf key l → IsElement shape k v
    → fields_recs shape (entry_fields key k) (entry_values l v) ≡ entry_recs shape key k l v
entry_written shape key k l v h e =
    ap (λ rs. rs ++ (field_recs shape (field_of 2 (entry_fields key k)) v ++ [])) (key_written shape key k l h)
    ∙ ap (λ rs. key_rec key l ∷ (rs ++ [])) (value_written shape key k v e)

key_settled : (shape : Shape) (t : ℕ) (l : Key) → settled_val shape t (key_val l) ≡ key_val l
key_settled shape t (truth_key b) = refl
key_settled shape t (number_key z) = refl
key_settled shape t (text_key s) = refl

key_shallow : (l : Key) → val_depth (key_val l) ≡ 0
key_shallow (truth_key b) = refl
key_shallow (number_key z) = refl
key_shallow (text_key s) = refl

-- ---- by levels

-- whatever holds the fields in so many levels means them
abbrev pub Means : Shape → ℕ → Type 0
Means shape levels =
    (gs : List FieldShape) (fs : Fields) (kept rs : List Rec) → AreFields shape gs fs → Holds shape gs fs kept rs → size rs < 2 ^ 64 → fields_depth fs ≤ levels
    → meaning shape levels gs rs ≡ Some (content (settled_fields shape gs fs) kept)

-- payloads with so many levels left
abbrev inside : Shape → ℕ → Inner
inside shape levels gs bs = option_and_then (meaning shape levels gs) (records_of levels bs)

one_payload : (shape : Shape) (levels : ℕ) (gs : List FieldShape) (b : List ℕ) (rs : List Rec) → records_in levels b ≡ Some rs
    → inside shape levels gs (b ∷ []) ≡ meaning shape levels gs rs
one_payload shape levels gs b rs e = rw (e, append-nil) refl

message_fields : (shape : Shape) (t : ℕ) (fs : Fields) (kept : List Rec) → IsProper shape → IsSound shape t (content fs kept)
    → AreFields shape (fields_of shape t) fs
message_fields shape t fs kept proper h = record { above = fields_above shape t proper; ascending = h.0; sound = h.1; one_member = h.2 }

pub message_means : (shape : Shape) (levels t : ℕ) (fs : Fields) (kept : List Rec) → IsProper shape → Means shape levels → IsSound shape t (content fs kept)
    → size (content_recs shape t (content fs kept)) < 2 ^ 64 → fields_depth fs ≤ levels
    → meaning shape levels (fields_of shape t) (content_recs shape t (content fs kept)) ≡ Some (settled shape t (content fs kept))
message_means shape levels t fs kept proper means h short d =
    let are = message_fields shape t fs kept proper h in
    let holds = holds_written shape (fields_of shape t) fs (keeps_order_of shape t) kept are h.3.unread in
    means (fields_of shape t) fs (settled_kept (keeps_order_of shape t) kept) (content_recs shape t (content fs kept)) are holds short d

message_read : (shape : Shape) (levels : ℕ) → IsProper shape → Means shape levels → (t : ℕ) (c : Content) → IsSound shape t c
    → size (content_recs shape t c) < 2 ^ 64 → depth c < suc levels
    → inside shape levels (fields_of shape t) (encoded shape t c ∷ []) ≡ Some (settled shape t c)
message_read shape levels proper means t (content fs kept) h short d =
    one_payload shape levels (fields_of shape t) (encoded shape t (content fs kept)) (content_recs shape t (content fs kept))
    (content_spelled shape t levels fs kept proper h short (omega (arith, d)))
    ∙ message_means shape levels t fs kept proper means h short (omega (arith, d))

entry_read : (shape : Shape) (levels : ℕ) → Means shape levels → (key k : Kind) (l : Key) (v : Val) → IsKeyOf key l → IsElement shape k v
    → size (entry_recs shape key k l v) < 2 ^ 64
    → val_depth v < suc levels
    → inside shape levels (entry_fields key k) (text_of (entry_recs shape key k l v) ∷ []) ≡ Some (entry l (settled_val shape (type_of k) v))
entry_read shape levels means key k l v h e short d =
    let gs = entry_fields key k in
    let fs = entry_values l v in
    let rs = fields_recs shape gs fs in
    let is = entry_written shape key k l v h e in
    let are = entry_sound shape key k l v h e in
    let w = fields_writable shape gs fs are.above are.sound in
    let within : size rs < 2 ^ 64 = omega (arith, short, ap size is) in
    let spelled = written_again levels rs w.numbered (w.fit within) (omega (arith, w.shallow)) in
    let meant = means gs fs [] rs are (holds_own shape gs fs are) within (omega (arith, d, key_shallow l)) in
    let value : Val = settled_val shape (type_of k) v in
    let key_same = ap (λ (x : Val). Some (content (field 1 x (field 2 value no_fields)) [])) (key_settled shape (type_of key) l) in
    let P : List Rec → Type 0 = λ xs. inside shape levels (entry_fields key k) (text_of xs ∷ []) ≡ Some (entry l value) in
    subst P is (one_payload shape levels gs (text_of rs) rs spelled ∙ meant ∙ key_same)

pub means : (shape : Shape) → IsProper shape → (levels : ℕ) → Means shape levels
unfolding meaning
means shape proper zero gs fs kept rs h holds short d =
    layer_back shape 0 no_inner
    (record { messages = λ u c s long lt. absurd (omega (arith, lt)); entries = λ key k l v i e long lt. absurd (omega (arith, lt)) })
    gs fs kept rs h holds short d
means shape proper (suc levels) gs fs kept rs h holds short d =
    layer_back shape (suc levels) (inside shape levels)
    (record { messages = message_read shape levels proper (means shape proper levels); entries = entry_read shape levels (means shape proper levels) })
    gs fs kept rs h holds short d

-- ---- the law

-- with so many levels of groups at the top, and so many of messages
read_back : (shape : Shape) (groups levels t : ℕ) (fs : Fields) (kept : List Rec) → IsProper shape → IsSound shape t (content fs kept)
    → IsShort shape t (content fs kept)
    → depth_of kept ≤ groups → fields_depth fs ≤ levels
    → option_and_then (meaning shape levels (fields_of shape t)) (records_in groups (encoded shape t (content fs kept)))
    ≡ Some (settled shape t (content fs kept))
read_back shape groups levels t fs kept proper h short flat d =
    rw (content_spelled shape t groups fs kept proper h short flat) (message_means shape levels t fs kept proper (means shape proper levels) h short d)

pub decodes_within : (shape : Shape) (levels t : ℕ) (c : Content) → IsProper shape → IsSound shape t c → IsShort shape t c → depth c ≤ levels
    → DecodesWithin shape levels t (encoded shape t c) c
decodes_within shape levels t (content fs kept) proper h short d =
    let read = read_back shape levels levels t fs kept proper h short (omega (arith, d)) (omega (arith, d)) in
    (settled shape t (content fs kept), read, settled_once shape t (content fs kept))

pub decodes_whole : (shape : Shape) (t : ℕ) (c : Content) → IsProper shape → IsSound shape t c → IsShort shape t c → depth c ≤ 100
    → Decodes shape t (encoded shape t c) c
decodes_whole shape t c proper h short d = decodes_within shape 100 t c proper h short d

pub decodes_parts : (shape : Shape) (t : ℕ) (c : Content) → IsProper shape → IsSound shape t c → IsShort shape t c → PartsFit c
    → DecodesParts shape t (encoded shape t c) c
decodes_parts shape t (content fs kept) proper h short fit =
    (settled shape t (content fs kept), read_back shape 100 101 t fs kept proper h short fit.1 fit.0, settled_once shape t (content fs kept))
