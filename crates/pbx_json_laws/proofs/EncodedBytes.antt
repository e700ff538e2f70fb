-- What is written for a content that was read is bytes.
use Rattle.std.proofs.Common.{◌≡◌, ⊎_elim, ℕ, zero, suc, ◌+◌, ◌/◌, ◌%◌, ◌^◌, ◌*◌, ◌<◌, List, [], ◌∷◌, ◌++◌, length, Bool, true, false, cond, nat_lt, if◌then◌else◌, Option, Some, None, refl, sym, subst, arith}
use Rattle.std.specs.Int.{w32, w64, to_le_bytes, byte_at, bytes_low_first, byte_len}
use Rattle.std.specs.Str.{is_utf8}
use Rattle.std.proofs.lemmas.Bool.Decides.{nat_tests}
use Rattle.std.proofs.lemmas.Str.{IsUtf8-from_is_utf8}
use Rattle.base64.specs.GeneralPurpose.{IsBytes}
use Rattle.pbx_wire.specs.Text.{text, text_of}
use Rattle.pbx_wire.specs.Varint.{varint_within, varint}
use Rattle.pbx_wire.specs.declared.rec.Rec.{Rec}
use Rattle.pbx_wire.specs.declared.rec.Rec.TheVariants as rec
use Rattle.pbx_wire.proofs.Texts.{varint_text, fixed64_text, bytes_text, fixed32_text}
use Rattle.pbx_content.specs.Content as content
use Rattle.pbx_content.specs.Content.{Content, Fields, Val, Vals, Pairs, Key, truth_key, number_key, text_key}
use Rattle.pbx_content.specs.Encoding.{number_text, packed_text, is_packed, numeral, number_rec, payload, key_rec, truth_number, wire_number, type_of, keys_of}
use Rattle.pbx_content.specs.Encoding.{with_kept, content_recs, fields_recs, field_recs, vals_recs, pairs_recs, val_rec, encoded}
use Rattle.pbx_content.specs.Records.{number_of, insert, sorted}
use Rattle.pbx_content.specs.Shape.{declared_of, by_number, fields_of, field_of, keeps_order_of, Form, as_varint, as_four, as_eight, as_payload, form_of}
use Rattle.pbx_content.specs.Sound.{IsKeyOf}
use Rattle.pbx_content.specs.declared.shape.Kind.{Kind}
use Rattle.pbx_content.specs.declared.shape.Kind.TheVariants as kind
use Rattle.pbx_content.specs.declared.shape.Cardinality.{Cardinality}
use Rattle.pbx_content.specs.declared.shape.Cardinality.TheVariants.{Singular, Repeated, Map}
use Rattle.pbx_content.specs.declared.shape.FieldShape.{FieldShape}
use Rattle.pbx_content.specs.declared.shape.Shape.{Shape}
use Rattle.pbx_json_meaning.specs.Asked.{single, target_by}
use Rattle.pbx_json_laws.proofs.FitBytes.{AreBelow, bytes_below}
use Rattle.pbx_json_laws.proofs.Fits.{Fits, FitsAs, FieldsFit, AllFit, PairsFit, FitsOption}
use Rattle.pbx_json_laws.proofs.Numbers.{field_of-by_number}
use Rattle.pbx_json_laws.proofs.Parts.{both}
use lib.Utf8.{scalar, scalars, encode, encodes, scalar_cases}

-- ---- lists of bytes

abbrev AreBytes : List ℕ → Type 0
AreBytes bs = AreBelow 256 bs

append_bytes : (xs ys : List ℕ) → AreBytes xs → AreBytes ys → AreBytes (xs ++ ys)
append_bytes [] ys g h = h
append_bytes (x ∷ xs) ys g h = (g.0, append_bytes xs ys g.1 h)

below_from : (xs : List ℕ) → IsBytes xs → AreBytes xs
below_from [] h = tt
below_from (x ∷ xs) h = (h 0, below_from xs (λ i. h (suc i)))

-- ---- numbers

within_bytes : (k n : ℕ) → AreBytes (varint_within k n)
unfolding varint_within
within_bytes zero n = tt
within_bytes (suc k) n = at (nat_lt n 128) refl (within_bytes k (n / 128))
  where
    at : (b : Bool) → nat_lt n 128 ≡ b → AreBytes (varint_within k (n / 128)) → AreBytes (if b then n ∷ [] else (n % 128 + 128) ∷ varint_within k (n / 128))
    at true e ih = (grind (arith, nat_tests), tt)
    at false e ih = (omega arith, ih)

varint_bytes : (n : ℕ) → AreBytes (varint n)
varint_bytes n = within_bytes 10 n

remainder : (m : ℕ) → m % 256 < 256
remainder m = omega arith

byte_below : (i n : ℕ) → byte_at i n < 256
byte_below zero n = remainder n
byte_below (suc i) n = remainder (n / 256 ^ suc i)

low_bytes : (i k n : ℕ) → AreBytes (bytes_low_first i k n)
low_bytes i zero n = tt
low_bytes i (suc k) n = (byte_below i n, low_bytes (suc i) k n)

-- ---- texts

char_below : (c : ℕ) → scalar c ≡ true → c < 1114112
char_below c h = ⊎_elim (λ p. omega arith) (λ p. p.1) (scalar_cases c h)

char_bytes : (c : ℕ) → scalar c ≡ true → AreBytes (encode c)
unfolding encode
char_bytes c h = at (nat_lt c 128) refl (nat_lt c 2048) refl (nat_lt c 65536) refl
  where
    last : (n : ℕ) → 128 + n % 64 < 256
    last n = omega arith

    at : (x : Bool) → nat_lt c 128 ≡ x → (y : Bool) → nat_lt c 2048 ≡ y → (z : Bool) → nat_lt c 65536 ≡ z
        → AreBytes (cond x (c ∷ []) (cond y ((192 + c / 64) ∷ (128 + c % 64) ∷ [])
        (cond z ((224 + c / 4096) ∷ (128 + c / 64 % 64) ∷ (128 + c % 64) ∷ [])
        ((240 + c / 262144) ∷ (128 + c / 4096 % 64) ∷ (128 + c / 64 % 64) ∷ (128 + c % 64) ∷ []))))
    at true e y f z g = (grind (arith, nat_tests), tt)
    at false e true f z g = (let low : c < 2048 = grind (arith, nat_tests) in omega arith, (last c, tt))
    at false e false f true g = (let low : c < 65536 = grind (arith, nat_tests) in omega arith, (last (c / 64), (last c, tt)))
    at false e false f false g = (let low = char_below c h in omega arith, (last (c / 4096), (last (c / 64), (last c, tt))))

chars_bytes : (cs : List ℕ) → scalars cs ≡ true → AreBytes (encodes cs)
chars_bytes [] h = tt
chars_bytes (c ∷ cs) h = let parts = both (scalar c) (scalars cs) h in append_bytes (encode c) (encodes cs) (char_bytes c parts.0) (chars_bytes cs parts.1)

utf8_bytes : (s : List ℕ) → is_utf8 s ≡ true → AreBytes s
utf8_bytes s h = let it = IsUtf8-from_is_utf8 s h in subst AreBytes it.1.1 (chars_bytes it.0 it.1.0)

-- ---- records

abbrev IsRecBytes : Rec → Type 0
IsRecBytes r = AreBytes (text r)

abbrev AreRecBytes : List Rec → Type 0
AreRecBytes [] = Unit {0}
AreRecBytes (r ∷ rs) = IsRecBytes r × AreRecBytes rs

records_bytes : (rs : List Rec) → AreRecBytes rs → AreBytes (text_of rs)
records_bytes [] h = tt
records_bytes (r ∷ rs) h = append_bytes (text r) (text_of rs) h.0 (records_bytes rs h.1)

more_records : (rs ss : List Rec) → AreRecBytes rs → AreRecBytes ss → AreRecBytes (rs ++ ss)
more_records [] ss g h = h
more_records (r ∷ rs) ss g h = (g.0, more_records rs ss g.1 h)

insert_bytes : (r : Rec) (ss : List Rec) → IsRecBytes r → AreRecBytes ss → AreRecBytes (insert r ss)
insert_bytes r [] g h = (g, tt)
insert_bytes r (s ∷ ss) g h = at (nat_lt (number_of s) (number_of r)) (insert_bytes r ss g h.1)
  where
    at : (b : Bool) → AreRecBytes (insert r ss) → AreRecBytes (if b then s ∷ insert r ss else r ∷ s ∷ ss)
    at true ih = (h.0, ih)
    at false ih = (g, h)

sorted_bytes : (rs : List Rec) → AreRecBytes rs → AreRecBytes (sorted rs)
sorted_bytes [] h = tt
sorted_bytes (r ∷ rs) h = insert_bytes r (sorted rs) h.0 (sorted_bytes rs h.1)

alone_bytes : (keeps : Bool) (rs : List Rec) → AreRecBytes rs → AreRecBytes (with_kept keeps rs [])
alone_bytes true rs h = more_records (sorted rs) [] (sorted_bytes rs h) tt
alone_bytes false rs h = sorted_bytes (rs ++ []) (more_records rs [] h tt)

varint_rec : (n v : ℕ) → IsRecBytes (rec.Varint n v)
varint_rec n v = subst AreBytes (sym (varint_text n v)) (append_bytes (varint (n * 8)) (varint v) (varint_bytes (n * 8)) (varint_bytes v))

bytes_rec : (n : ℕ) (b : List ℕ) → AreBytes b → IsRecBytes (rec.Bytes n b)
bytes_rec n b h =
    subst AreBytes (sym (bytes_text n b))
    (append_bytes (varint (n * 8 + 2) ++ varint (length b)) b
    (append_bytes (varint (n * 8 + 2)) (varint (length b)) (varint_bytes (n * 8 + 2)) (varint_bytes (length b))) h)

number_bytes : (n : ℕ) (form : Form) (v : ℕ) → IsRecBytes (number_rec n form v)
number_bytes n as_varint v = varint_rec n v
number_bytes n as_four v =
    subst AreBytes (sym (fixed32_text n v)) (append_bytes (varint (n * 8 + 5)) (to_le_bytes w32 v) (varint_bytes (n * 8 + 5)) (low_bytes 0 (byte_len w32) v))
number_bytes n as_eight v =
    subst AreBytes (sym (fixed64_text n v)) (append_bytes (varint (n * 8 + 1)) (to_le_bytes w64 v) (varint_bytes (n * 8 + 1)) (low_bytes 0 (byte_len w64) v))
number_bytes n as_payload v = bytes_rec n [] tt

payload_bytes : (n : ℕ) (rs : List Rec) → AreRecBytes rs → IsRecBytes (payload n rs)
payload_bytes n rs h = bytes_rec n (text_of rs) (records_bytes rs h)

form_bytes : (form : Form) (v : ℕ) → AreBytes (number_text form v)
form_bytes as_varint v = varint_bytes v
form_bytes as_four v = low_bytes 0 (byte_len w32) v
form_bytes as_eight v = low_bytes 0 (byte_len w64) v
form_bytes as_payload v = tt

packed_bytes : (k : Kind) (vs : Vals) → AreBytes (packed_text k vs)
packed_bytes k content.no_vals = tt
packed_bytes k (content.val v vs) =
    append_bytes (number_text (form_of k) (numeral k v)) (packed_text k vs) (form_bytes (form_of k) (numeral k v)) (packed_bytes k vs)

key_utf8 : (k : Kind) (s : List ℕ) → IsKeyOf k (text_key s) → is_utf8 s ≡ true
key_utf8 kind.String s h = h
key_utf8 kind.Int32 s h = absurd h
key_utf8 _ s h = absurd h

key_bytes : (k : Kind) (l : Key) → IsKeyOf k l → IsRecBytes (key_rec k l)
key_bytes k (truth_key b) h = varint_rec 1 (truth_number b)
key_bytes k (number_key z) h = number_bytes 1 (form_of k) (wire_number k z)
key_bytes k (text_key s) h = bytes_rec 1 s (utf8_bytes s (key_utf8 k s h))

-- ---- contents

module _ (shape : Shape) where
  text_by : (f : FieldShape) (s : List ℕ) (c : Cardinality) → Fits shape (content.text s) (target_by f c) → is_utf8 s ≡ true
  text_by f s Singular h = h.1
  text_by f s Repeated h = absurd h
  text_by f s (Map k) h = absurd h

  octets_by : (f : FieldShape) (b : List ℕ) (c : Cardinality) → Fits shape (content.octets b) (target_by f c) → IsBytes b
  octets_by f b Singular h = h.1
  octets_by f b Repeated h = absurd h
  octets_by f b (Map k) h = absurd h

  -- a message at a number
  message_bytes : (n : ℕ) (k : Kind) (m : Content) → ((t : ℕ) → FitsAs shape m t → AreRecBytes (content_recs shape t m))
      → Fits shape (content.message m) (single k) → IsRecBytes (payload n (content_recs shape (type_of k) m))
  message_bytes n k m ih h =
      let P : Kind → Type 0 = λ x. IsRecBytes (payload n (content_recs shape (type_of x) m)) in
      subst P (sym h.1) (payload_bytes n (content_recs shape h.0 m) (ih h.0 h.2))

  message_by : (f : FieldShape) (m : Content) → ((t : ℕ) → FitsAs shape m t → AreRecBytes (content_recs shape t m)) → (c : Cardinality)
      → Fits shape (content.message m) (target_by f c) → IsRecBytes (payload f.number (content_recs shape (type_of f.kind) m))
  message_by f m ih Singular h = message_bytes f.number f.kind m ih h
  message_by f m ih Repeated h = absurd h
  message_by f m ih (Map k) h = absurd h

  many_by : (f : FieldShape) (vs : Vals) → ((n : ℕ) (k : Kind) → AllFit shape vs k → AreRecBytes (vals_recs shape n k vs)) → (c : Cardinality)
      → Fits shape (content.many vs) (target_by f c)
      → AreRecBytes (if is_packed f then rec.Bytes f.number (packed_text f.kind vs) ∷ [] else vals_recs shape f.number f.kind vs)
  many_by f vs ih Repeated h = at (is_packed f)
    where
      at : (b : Bool) → AreRecBytes (if b then rec.Bytes f.number (packed_text f.kind vs) ∷ [] else vals_recs shape f.number f.kind vs)
      at true = (bytes_rec f.number (packed_text f.kind vs) (packed_bytes f.kind vs), tt)
      at false = ih f.number f.kind h.1
  many_by f vs ih Singular h = absurd h
  many_by f vs ih (Map k) h = absurd h

  keyed_by : (f : FieldShape) (ps : Pairs) → ((n : ℕ) (kk vk : Kind) → PairsFit shape ps kk vk → AreRecBytes (pairs_recs shape n kk vk ps)) → (c : Cardinality)
      → Fits shape (content.keyed ps) (target_by f c) → AreRecBytes (pairs_recs shape f.number (keys_of c) f.kind ps)
  keyed_by f ps ih (Map k) h = ih f.number k f.kind h.1
  keyed_by f ps ih Singular h = absurd h
  keyed_by f ps ih Repeated h = absurd h

  option_bytes : (v : Val) (o p : Option FieldShape) → p ≡ o
      → ((f : FieldShape) → Fits shape v (target_by f f.cardinality) → AreRecBytes (field_recs shape (Some f) v))
      → FitsOption shape v (Fits shape v) o → AreRecBytes (field_recs shape p v)
  option_bytes v None p e ih h = absurd h
  option_bytes v (Some f) p e ih h = let P : Option FieldShape → Type 0 = λ x. AreRecBytes (field_recs shape x v) in subst P (sym e) (ih f h.0)

  kept_bytes : (keeps : Bool) (rs kept : List Rec) → kept ≡ [] → AreRecBytes rs → AreRecBytes (with_kept keeps rs kept)
  kept_bytes keeps rs kept e h = let P : List Rec → Type 0 = λ k. AreRecBytes (with_kept keeps rs k) in subst P (sym e) (alone_bytes keeps rs h)

  mutual
    content_bytes : (c : Content) (t : ℕ) → FitsAs shape c t → AreRecBytes (content_recs shape t c)
    content_bytes (content.content fs kept) t h =
        kept_bytes (keeps_order_of shape t) (fields_recs shape (fields_of shape t) fs) kept h.0 (fields_bytes fs (declared_of shape t) h.4)

    fields_bytes : (fs : Fields) (gs : List FieldShape) → FieldsFit shape fs gs → AreRecBytes (fields_recs shape (by_number gs) fs)
    fields_bytes content.no_fields gs h = tt
    fields_bytes (content.field n v fs) gs h =
        more_records (field_recs shape (field_of n (by_number gs)) v) (fields_recs shape (by_number gs) fs)
        (option_bytes v (field_of n gs) (field_of n (by_number gs)) (field_of-by_number n gs) (value_bytes v) h.0) (fields_bytes fs gs h.1)

    value_bytes : (v : Val) (f : FieldShape) → Fits shape v (target_by f f.cardinality) → AreRecBytes (field_recs shape (Some f) v)
    value_bytes (content.number z) f h = (number_bytes f.number (form_of f.kind) (wire_number f.kind z), tt)
    value_bytes (content.truth b) f h = (number_bytes f.number (form_of f.kind) (truth_number b), tt)
    value_bytes (content.text s) f h = (bytes_rec f.number s (utf8_bytes s (text_by f s f.cardinality h)), tt)
    value_bytes (content.octets b) f h = (bytes_rec f.number b (below_from b (octets_by f b f.cardinality h)), tt)
    value_bytes (content.message c) f h = (message_by f c (content_bytes c) f.cardinality h, tt)
    value_bytes (content.many vs) f h = many_by f vs (elements_bytes vs) f.cardinality h
    value_bytes (content.keyed ps) f h = keyed_by f ps (pairs_bytes ps) f.cardinality h

    element_bytes : (v : Val) (n : ℕ) (k : Kind) → Fits shape v (single k) → IsRecBytes (val_rec shape n k v)
    element_bytes (content.number z) n k h = number_bytes n (form_of k) (wire_number k z)
    element_bytes (content.truth b) n k h = number_bytes n (form_of k) (truth_number b)
    element_bytes (content.text s) n k h = bytes_rec n s (utf8_bytes s h.1)
    element_bytes (content.octets b) n k h = bytes_rec n b (below_from b h.1)
    element_bytes (content.message c) n k h = message_bytes n k c (content_bytes c) h
    element_bytes (content.many vs) n k h = absurd h
    element_bytes (content.keyed ps) n k h = absurd h

    elements_bytes : (vs : Vals) (n : ℕ) (k : Kind) → AllFit shape vs k → AreRecBytes (vals_recs shape n k vs)
    elements_bytes content.no_vals n k h = tt
    elements_bytes (content.val v vs) n k h = (element_bytes v n k h.0, elements_bytes vs n k h.1)

    pairs_bytes : (ps : Pairs) (n : ℕ) (kk vk : Kind) → PairsFit shape ps kk vk → AreRecBytes (pairs_recs shape n kk vk ps)
    pairs_bytes content.no_pairs n kk vk h = tt
    pairs_bytes (content.pair l v ps) n kk vk h =
        (payload_bytes n (key_rec kk l ∷ val_rec shape 2 vk v ∷ []) (key_bytes kk l h.0, (element_bytes v 2 vk h.1, tt)), pairs_bytes ps n kk vk h.3)

-- the encoding of a content that was read is bytes
pub encoded_bytes : (shape : Shape) (c : Content) (t : ℕ) → FitsAs shape c t → IsBytes (encoded shape t c)
encoded_bytes shape c t h = bytes_below (encoded shape t c) (records_bytes (content_recs shape t c) (content_bytes shape c t h))
