-- What is written of a field is read as its value, with its kept records settled, if each payload has a length of 64 bits.
use Rattle.std.proofs.Common.{◌≡◌, ℕ, ◌^◌, ◌<◌, ◌≤◌, Bool, true, false, not, ◌&&◌, if◌then◌else◌, List, [], ◌∷◌, ◌++◌, map, Option, Some, None}
use Rattle.std.proofs.Common.{option_map, inl, inr, refl, ap, ◌∙◌, arith}
use Rattle.pbx_wire.specs.Text.{text_of}
use Rattle.pbx_wire.specs.declared.rec.Rec.{Rec}
use Rattle.pbx_wire.specs.declared.rec.Rec.TheVariants as rec
use Rattle.pbx_content.specs.declared.shape.Kind.{Kind}
use Rattle.pbx_content.specs.declared.shape.Kind.TheVariants as kind
use Rattle.pbx_content.specs.declared.shape.Cardinality.TheVariants.{Singular, Repeated, Map}
use Rattle.pbx_content.specs.declared.shape.Shape.{Shape}
use Rattle.pbx_content.specs.declared.shape.FieldShape.{FieldShape}
use Rattle.pbx_content.specs.Content.{Key, truth_key, number_key, text_key, Content, Val, number, truth, text as text_val}
use Rattle.pbx_content.specs.Content.{octets, message, many, keyed, Vals, no_vals, val, Pairs, no_pairs, pair, vals_of, with_pair, by_key}
use Rattle.pbx_content.specs.Records.{each, flat}
use Rattle.pbx_content.specs.Shape.{Form, form_of, is_payload, is_float, is_packable}
use Rattle.pbx_content.specs.Meaning.{Inner, no_inner, numeric, number_in, alone, one, spread, shown, pair_in, entry_in, repeated, mapped, scalar, singular}
use Rattle.pbx_content.specs.Meaning.{value}
use Rattle.pbx_content.specs.Encoding.{numeral, number_text, packed_text, number_rec, type_of, keys_of}
use Rattle.pbx_content.specs.Encoding.{content_recs, field_recs, vals_recs, val_rec, pairs_recs, encoded}
use Rattle.pbx_content.specs.Same.{settled_val, settled_vals, settled_pairs}
use Rattle.pbx_content.specs.Sound.{IsBefore, IsShown, IsSoundAt, AreElements, ArePairs, IsElement, val_depth, vals_depth, pairs_depth}
use Rattle.pbx_content.proofs.WrittenNumbers.{FitsForm, IsNumeral, number_numeral, truth_numeral, number_of_rec, no_payload, form_packable, numbers_text}
use Rattle.pbx_content.proofs.WrittenNumbers.{AllFit, numbers_back}
use Rattle.pbx_content.proofs.WrittenShort.{size}
use Rattle.pbx_content.proofs.WrittenValues.{entry_recs, entry, Reads, element_no_float}
use Rattle.pbx_json_payload_laws.proofs.Shrinks.{IsPayloadBelow, ArePayloadsBelow}

shown_is : (shape : Shape) (f : FieldShape) (v : Val) → IsShown shape f v → shown shape f.presence f.kind (Some v) ≡ Some v
shown_is shape f v (inl e) = rw e refl
shown_is shape f v (inr e) = rw e (either f.presence)
  where
    either : (b : Bool) → (if b then Some v else (if false then None else Some v)) ≡ Some v
    either true = refl
    either false = refl

-- kinds of numbers are read by their form alone
alone_plain : (shape : Shape) (inner : Inner) (k : Kind) (v : ℕ) (r : Rec) → is_float k ≡ false → FitsForm (form_of k) v
    → alone shape inner k r ≡ option_map (numeric k) (number_in (form_of k) r)
alone_plain shape inner kind.Double v r e h = absurd cc
alone_plain shape inner kind.Float v r e h = absurd cc
alone_plain shape inner kind.String v r e h = absurd h
alone_plain shape inner kind.Bytes v r e h = absurd h
alone_plain shape inner (kind.Message t) v r e h = absurd h
alone_plain shape inner k v r e h = refl

numeral_alone : (shape : Shape) (inner : Inner) (k : Kind) (n : ℕ) (v : Val) → IsNumeral k v
    → alone shape inner k (number_rec n (form_of k) (numeral k v)) ≡ Some v
numeral_alone shape inner k n v h =
    alone_plain shape inner k (numeral k v) (number_rec n (form_of k) (numeral k v)) h.read h.fits
    ∙ ap (option_map (numeric k)) (number_of_rec (form_of k) n (numeral k v) h.fits) ∙ ap (λ (w : Val). Some w) h.back

numeral_spread : (shape : Shape) (inner : Inner) (k : Kind) (n : ℕ) (v : Val) → IsNumeral k v
    → spread shape inner k (number_rec n (form_of k) (numeral k v)) ≡ Some (v ∷ [])
numeral_spread shape inner k n v h =
    rw (form_packable (form_of k) (numeral k v) h.fits, no_payload (form_of k) n (numeral k v) h.fits) (ap one (numeral_alone shape inner k n v h))

element_back : (shape : Shape) (inner : Inner) (levels : ℕ) → Reads shape inner levels → (n : ℕ) (k : Kind) (v : Val) → IsElement shape k v
    → IsPayloadBelow (2 ^ 64) (val_rec shape n k v)
    → val_depth v ≤ levels → spread shape inner k (val_rec shape n k v) ≡ Some (settled_val shape (type_of k) v ∷ [])
element_back shape inner levels r n k (number z) h short d = numeral_spread shape inner k n (number z) (number_numeral k z h)
element_back shape inner levels r n k (truth b) h short d = rw h (numeral_spread shape inner kind.Bool n (truth b) (truth_numeral b))
element_back shape inner levels r n k (text_val s) h short d = rw (h.0, h.1) refl
element_back shape inner levels r n k (octets b) h short d = rw h refl
element_back shape inner levels r n k (message c) h short d = at (short (encoded shape (type_of k) c) refl)
  where
    at : size (content_recs shape (type_of k) c) < 2 ^ 64
        → spread shape inner k (val_rec shape n k (message c)) ≡ Some (settled_val shape (type_of k) (message c) ∷ [])
    at = rw h.1 (λ long. rw (r.messages h.0 c h.2 long (omega (arith, d))) refl)
element_back shape inner levels r n k (many vs) h short d = absurd h
element_back shape inner levels r n k (keyed ps) h short d = absurd h

-- ---- lists of records

abbrev singles : Vals → List (List Val)
singles no_vals = []
singles (val v vs) = (v ∷ []) ∷ singles vs

flat_singles : (vs : Vals) → vals_of (flat (singles vs)) ≡ vs
flat_singles no_vals = refl
flat_singles (val v vs) = ap (val v) (flat_singles vs)

elements_back : (shape : Shape) (inner : Inner) (levels : ℕ) → Reads shape inner levels → (n : ℕ) (k : Kind) (vs : Vals) → AreElements shape k vs
    → ArePayloadsBelow (2 ^ 64) (vals_recs shape n k vs)
    → vals_depth vs ≤ levels → each (spread shape inner k) (vals_recs shape n k vs) ≡ Some (singles (settled_vals shape (type_of k) vs))
elements_back shape inner levels r n k no_vals h short d = refl
elements_back shape inner levels r n k (val v vs) h short d =
    rw (element_back shape inner levels r n k v h.0 short.0 (omega (arith, d)), elements_back shape inner levels r n k vs h.1 short.1 (omega (arith, d))) refl

-- ---- packed lists

abbrev numerals : Kind → Vals → List ℕ
numerals k no_vals = []
numerals k (val v vs) = numeral k v ∷ numerals k vs

abbrev AreNumerals : Kind → Vals → Type 0
AreNumerals k no_vals = Unit {0}
AreNumerals k (val v vs) = IsNumeral k v × AreNumerals k vs

packed_is : (k : Kind) (vs : Vals) → packed_text k vs ≡ numbers_text (form_of k) (numerals k vs)
packed_is k no_vals = refl
packed_is k (val v vs) = ap (λ b. number_text (form_of k) (numeral k v) ++ b) (packed_is k vs)

all_fit : (k : Kind) (vs : Vals) → AreNumerals k vs → AllFit (form_of k) (numerals k vs)
all_fit k no_vals h = tt
all_fit k (val v vs) h = (h.0.fits, all_fit k vs h.1)

values_back : (k : Kind) (vs : Vals) → AreNumerals k vs → vals_of (map (numeric k) (numerals k vs) ++ []) ≡ vs
values_back k no_vals h = refl
values_back k (val v vs) h = rw (h.0.back, values_back k vs h.1) refl

are_numerals : (shape : Shape) (k : Kind) (vs : Vals) → is_packable k ≡ true → AreElements shape k vs → AreNumerals k vs
are_numerals shape k no_vals e h = tt
are_numerals shape k (val (number z) vs) e h = (number_numeral k z h.0, are_numerals shape k vs e h.1)
are_numerals shape k (val (truth b) vs) e h = (rw h.0 (truth_numeral b), are_numerals shape k vs e h.1)
are_numerals shape k (val (text_val s) vs) e h = absurd (let bad : false ≡ true = rw h.0.0 at e in cc)
are_numerals shape k (val (octets b) vs) e h = absurd (let bad : false ≡ true = rw h.0 at e in cc)
are_numerals shape k (val (message c) vs) e h = absurd (let bad : false ≡ true = rw h.0.1 at e in cc)
are_numerals shape k (val (many ws) vs) e h = absurd h.0
are_numerals shape k (val (keyed ps) vs) e h = absurd h.0

settled_same : (shape : Shape) (t : ℕ) (k : Kind) (vs : Vals) → is_packable k ≡ true → AreElements shape k vs → settled_vals shape t vs ≡ vs
settled_same shape t k no_vals e h = refl
settled_same shape t k (val (number z) vs) e h = ap (val (number z)) (settled_same shape t k vs e h.1)
settled_same shape t k (val (truth b) vs) e h = ap (val (truth b)) (settled_same shape t k vs e h.1)
settled_same shape t k (val (text_val s) vs) e h = ap (val (text_val s)) (settled_same shape t k vs e h.1)
settled_same shape t k (val (octets b) vs) e h = ap (val (octets b)) (settled_same shape t k vs e h.1)
settled_same shape t k (val (message c) vs) e h = absurd (let bad : false ≡ true = rw h.0.1 at e in cc)
settled_same shape t k (val (many ws) vs) e h = absurd h.0
settled_same shape t k (val (keyed ps) vs) e h = absurd h.0

unpack : (form : Form) → not (is_payload form) ≡ true → is_payload form ≡ false
unpack form e = at (is_payload form) e
  where
    at : (b : Bool) → not b ≡ true → b ≡ false
    at true e = absurd cc
    at false e = refl

packed_back : (shape : Shape) (inner : Inner) (n : ℕ) (k : Kind) (v : Val) (vs : Vals) → is_packable k ≡ true → AreElements shape k (val v vs)
    → repeated shape inner k (rec.Bytes n (packed_text k (val v vs)) ∷ []) ≡ Some (Some (many (settled_vals shape (type_of k) (val v vs))))
packed_back shape inner n k v vs e h =
    let are = are_numerals shape k (val v vs) e h in
    let back = numbers_back (form_of k) (numerals k (val v vs)) (unpack (form_of k) e) (all_fit k (val v vs) are) in
    rw (e, packed_is k (val v vs), back, values_back k (val v vs) are, settled_same shape (type_of k) k (val v vs) e h) refl

-- ---- maps

-- the entries of pairs, as messages
abbrev contents_of : Pairs → List Content
contents_of no_pairs = []
contents_of (pair l v ps) = entry l v ∷ contents_of ps

entries_back : (shape : Shape) (inner : Inner) (levels : ℕ) → Reads shape inner levels → (n : ℕ) (key k : Kind) (ps : Pairs) → ArePairs shape key k ps
    → ArePayloadsBelow (2 ^ 64) (pairs_recs shape n key k ps) → pairs_depth ps ≤ levels
    → each (entry_in inner key k) (pairs_recs shape n key k ps) ≡ Some (contents_of (settled_pairs shape (type_of k) ps))
entries_back shape inner levels r n key k no_pairs h short d = refl
entries_back shape inner levels r n key k (pair l v ps) h short d =
    let long = short.0 (text_of (entry_recs shape key k l v)) refl in
    rw (r.entries key k l v h.0 h.1 long (omega (arith, d)), entries_back shape inner levels r n key k ps h.3 short.1 (omega (arith, d))) refl

-- each key stands before the next
abbrev AreOrdered : Pairs → Type 0
AreOrdered no_pairs = Unit {0}
AreOrdered (pair l v ps) = IsBefore l ps × AreOrdered ps

before_settled : (shape : Shape) (t : ℕ) (l : Key) (ps : Pairs) → IsBefore l ps → IsBefore l (settled_pairs shape t ps)
before_settled shape t l no_pairs h = tt
before_settled shape t l (pair m v ps) h = h

ordered_settled : (shape : Shape) (t : ℕ) (key k : Kind) (ps : Pairs) → ArePairs shape key k ps → AreOrdered (settled_pairs shape t ps)
ordered_settled shape t key k no_pairs h = tt
ordered_settled shape t key k (pair l v ps) h = (before_settled shape t l ps h.2, ordered_settled shape t key k ps h.3)

with_first : (l : Key) (v : Val) (ps : Pairs) → IsBefore l ps → with_pair l v ps ≡ pair l v ps
with_first l v no_pairs h = refl
with_first l v (pair m w ps) h = rw h refl

pair_of_entry : (shape : Shape) (key k : Kind) (l : Key) (v : Val) → pair_in shape key k (entry l v) ≡ (l, v)
pair_of_entry shape key k (truth_key b) v = refl
pair_of_entry shape key k (number_key z) v = refl
pair_of_entry shape key k (text_key s) v = refl

pairs_back : (shape : Shape) (key k : Kind) (ps : Pairs) → AreOrdered ps → by_key (map (pair_in shape key k) (contents_of ps)) ≡ ps
pairs_back shape key k no_pairs h = refl
pairs_back shape key k (pair l v ps) h =
    ap (λ (p : Key × Val). with_pair p.0 p.1 (by_key (map (pair_in shape key k) (contents_of ps)))) (pair_of_entry shape key k l v)
    ∙ ap (with_pair l v) (pairs_back shape key k ps h.1) ∙ with_first l v ps h.0

map_back : (shape : Shape) (inner : Inner) (levels : ℕ) → Reads shape inner levels → (n : ℕ) (key k : Kind) (l : Key) (v : Val) (ps : Pairs)
    → ArePairs shape key k (pair l v ps)
    → ArePayloadsBelow (2 ^ 64) (pairs_recs shape n key k (pair l v ps)) → pairs_depth (pair l v ps) ≤ levels
    → mapped shape inner key k (pairs_recs shape n key k (pair l v ps)) ≡ Some (Some (keyed (settled_pairs shape (type_of k) (pair l v ps))))
map_back shape inner levels r n key k l v ps h short d =
    let all = entries_back shape inner levels r n key k (pair l v ps) h short d in
    let back = pairs_back shape key k (settled_pairs shape (type_of k) (pair l v ps)) (ordered_settled shape (type_of k) key k (pair l v ps) h) in
    finish (each (entry_in inner key k) (pairs_recs shape n key k (pair l v ps))) all back
  where
    finish : (o : Option (List Content)) → o ≡ Some (contents_of (settled_pairs shape (type_of k) (pair l v ps)))
        → by_key (map (pair_in shape key k) (contents_of (settled_pairs shape (type_of k) (pair l v ps)))) ≡ settled_pairs shape (type_of k) (pair l v ps)
        → option_map (λ cs. shown shape false k (Some (keyed (by_key (map (pair_in shape key k) cs))))) o
        ≡ Some (Some (keyed (settled_pairs shape (type_of k) (pair l v ps))))
    finish o e is = rw (e, is) refl

-- ---- a field

single_plain : (shape : Shape) (inner : Inner) (p : Bool) (k : Kind) (v : ℕ) (rs : List Rec) → FitsForm (form_of k) v
    → singular shape inner p k rs ≡ scalar shape p k rs
single_plain shape inner p (kind.Message t) v rs h = absurd h
single_plain shape inner p k v rs h = refl

numeral_back : (shape : Shape) (inner : Inner) (f : FieldShape) (v : Val) → f.cardinality ≡ Singular → IsShown shape f v → IsNumeral f.kind v
    → value shape inner f (number_rec f.number (form_of f.kind) (numeral f.kind v) ∷ []) ≡ Some (Some v)
numeral_back shape inner f v c s h =
    rw (h.read, c) (single_plain shape inner f.presence f.kind (numeral f.kind v) (number_rec f.number (form_of f.kind) (numeral f.kind v) ∷ []) h.fits
    ∙ rw (numeral_alone shape no_inner f.kind f.number v h, shown_is shape f v s) refl)

unpacked_back : (shape : Shape) (inner : Inner) (levels : ℕ) → Reads shape inner levels → (n : ℕ) (k : Kind) (v : Val) (vs : Vals)
    → AreElements shape k (val v vs)
    → ArePayloadsBelow (2 ^ 64) (vals_recs shape n k (val v vs)) → vals_depth (val v vs) ≤ levels
    → repeated shape inner k (vals_recs shape n k (val v vs)) ≡ Some (Some (many (settled_vals shape (type_of k) (val v vs))))
unpacked_back shape inner levels r n k v vs h short d =
    rw (elements_back shape inner levels r n k (val v vs) h short d, flat_singles (settled_vals shape (type_of k) vs)) refl

is_repeated : (shape : Shape) (inner : Inner) (f : FieldShape) (rs : List Rec) → f.cardinality ≡ Repeated → is_float f.kind ≡ false
    → value shape inner f rs ≡ repeated shape inner f.kind rs
is_repeated shape inner f rs h e = rw (h, e) refl

is_mapped : (shape : Shape) (inner : Inner) (f : FieldShape) (key : Kind) (rs : List Rec) → f.cardinality ≡ Map key → is_float f.kind ≡ false
    → value shape inner f rs ≡ mapped shape inner key f.kind rs
is_mapped shape inner f key rs h e = rw (h, e) refl

pub field_back : (shape : Shape) (inner : Inner) (levels : ℕ) → Reads shape inner levels → (f : FieldShape) (v : Val) → IsSoundAt shape (Some f) v
    → ArePayloadsBelow (2 ^ 64) (field_recs shape (Some f) v)
    → val_depth v ≤ levels → value shape inner f (field_recs shape (Some f) v) ≡ Some (Some (settled_val shape (type_of f.kind) v))
field_back shape inner levels r f (number z) h short d = numeral_back shape inner f (number z) h.0 h.1 (number_numeral f.kind z h.2)
field_back shape inner levels r f (truth b) h short d = numeral_back shape inner f (truth b) h.0 h.1 (rw h.2 (truth_numeral b))
field_back shape inner levels r f (text_val s) h short d = rw (h.0, h.2, h.3, shown_is shape f (text_val s) h.1) refl
field_back shape inner levels r f (octets b) h short d = rw (h.0, h.2, shown_is shape f (octets b) h.1) refl
field_back shape inner levels r f (message c) h short d =
    at (short.0 (encoded shape (type_of f.kind) c) refl)
  where
    at : size (content_recs shape (type_of f.kind) c) < 2 ^ 64
        → value shape inner f (field_recs shape (Some f) (message c)) ≡ Some (Some (settled_val shape (type_of f.kind) (message c)))
    at = rw (h.0, h.1.1) (λ long. rw (r.messages h.1.0 c h.1.2 long (omega (arith, d))) refl)
field_back shape inner levels r f (many no_vals) h short d = absurd (let bad : true ≡ false = h.1 in cc)
field_back shape inner levels r f (many (val v vs)) h short d =
    is_repeated shape inner f (field_recs shape (Some f) (many (val v vs))) h.0 (element_no_float shape f.kind v h.2.0)
    ∙ at f.packed (is_packable f.kind) refl short
  where
    at : (a b : Bool) → is_packable f.kind ≡ b
        → ArePayloadsBelow (2 ^ 64) (if a && b then rec.Bytes f.number (packed_text f.kind (val v vs)) ∷ [] else vals_recs shape f.number f.kind (val v vs))
        → repeated shape inner f.kind (if a && b then rec.Bytes f.number (packed_text f.kind (val v vs)) ∷ [] else vals_recs shape f.number f.kind (val v vs))
        ≡ Some (Some (many (settled_vals shape (type_of f.kind) (val v vs))))
    at true true e short = packed_back shape inner f.number f.kind v vs e h.2
    at true false e short = unpacked_back shape inner levels r f.number f.kind v vs h.2 short d
    at false b e short = unpacked_back shape inner levels r f.number f.kind v vs h.2 short d
field_back shape inner levels r f (keyed no_pairs) h short d = absurd (let bad : true ≡ false = h.0 in cc)
field_back shape inner levels r f (keyed (pair l v ps)) h short d =
    let keys : keys_of f.cardinality ≡ h.1.0 = ap keys_of h.1.1 in
    is_mapped shape inner f h.1.0 (field_recs shape (Some f) (keyed (pair l v ps))) h.1.1 (element_no_float shape f.kind v h.1.2.1)
    ∙ at keys short
  where
    at : keys_of f.cardinality ≡ h.1.0 → ArePayloadsBelow (2 ^ 64) (pairs_recs shape f.number (keys_of f.cardinality) f.kind (pair l v ps))
        → mapped shape inner h.1.0 f.kind (pairs_recs shape f.number (keys_of f.cardinality) f.kind (pair l v ps))
        ≡ Some (Some (keyed (settled_pairs shape (type_of f.kind) (pair l v ps))))
    at keys = rw keys (λ short. map_back shape inner levels r f.number h.1.0 f.kind l v ps h.1.2 short d)
