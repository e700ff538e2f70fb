-- A payload fits where its bytes mean a content whose payloads fit: how deep payloads may stand inside payloads does not matter, as each is shorter than what
-- holds it.
use Rattle.std.proofs.Common.{◌≡◌, ℕ, zero, suc, ◌<◌, ◌&&◌, List, [], ◌∷◌, ◌++◌, length, Bool, true, false, Option, Some, None, refl, sym, ap, ◌∙◌, arith}
use Rattle.std.specs.List.{list_all}
use Rattle.pbx_wire.specs.declared.rec.Rec.{Rec}
use Rattle.pbx_content.specs.Content as content
use Rattle.pbx_content.specs.Content.{Content, Fields, no_fields, field as field_of_number, Val, Vals, no_vals, val, Pairs, no_pairs, pair, get}
use Rattle.pbx_content.specs.Encoding.{type_of}
use Rattle.pbx_content.specs.Meaning.{meaning_of}
use Rattle.pbx_content.specs.Shape.{fields_of, field_of}
use Rattle.pbx_content.specs.declared.shape.FieldShape.{FieldShape}
use Rattle.pbx_content.specs.declared.shape.Kind.{Kind}
use Rattle.pbx_content.specs.declared.shape.Shape.{Shape}
use Rattle.pbx_wkt_types.specs.Shapes.{form_of}
use Rattle.pbx_wkt_types.specs.declared.form.Form.{Form}
use Rattle.pbx_wkt_types.specs.declared.form.Form.TheVariants as forms
use Rattle.pbx_json_meaning.specs.Fits.{Payload, payload_with, payload_by, payloads, fields_payloads, val_payloads, vals_payloads, pairs_payloads, decoded_passes}
use Rattle.pbx_json_meaning.specs.Fits.{decodes_within, payload_fits, payloads_fit}
use Rattle.pbx_json_meaning.specs.Forms.{kind_in, text_at, bytes_at}
use Rattle.pbx_json_meaning.specs.Urls.{type_of_url}
use Rattle.pbx_json_payload_laws.specs.Inside.{AreShorter, AreFieldsShorter, IsValShorter, AreValsShorter, ArePairsShorter}
use Rattle.pbx_json_payload_laws.proofs.Shrinks.{meaning_shrinks}
use Rattle.pbx_json_payload_laws.specs.Laws.{FitsByContent}
use Rattle.pbx_json_payload_laws.proofs.Shorter.{bytes_short, get_shorter}
use Rattle.pbx_json_payload_laws.proofs.Payloads.{nothing_means}

-- ---- payloads of a content

-- each payload is shorter than n
abbrev pub AreBelow : ℕ → List Payload → Type 0
AreBelow n [] = Unit {0}
AreBelow n (p ∷ ps) = (length p.bytes < n) × AreBelow n ps

below_append : (n : ℕ) (ps qs : List Payload) → AreBelow n ps → AreBelow n qs → AreBelow n (ps ++ qs)
below_append n [] qs h k = k
below_append n (p ∷ ps) qs h k = (h.0, below_append n ps qs h.1 k)

module _ (shape : Shape) (n : ℕ) (some : 0 < n) where
  with_below : (bytes : List ℕ) (u : Option ℕ) → length bytes < n → AreBelow n (payload_with bytes u)
  with_below bytes None short = tt
  with_below bytes (Some u) short = (short, tt)

  own_below : (form : Form) (fs : Fields) → AreFieldsShorter n fs → AreBelow n (payload_by shape form fs)
  own_below forms.Any fs h = with_below (bytes_at (get 2 fs)) (type_of_url shape (text_at (get 1 fs))) (bytes_short n some (get 2 fs) (get_shorter n 2 fs h))
  own_below _ fs h = tt

  mutual
    pub payloads_below : (c : Content) (t : ℕ) → AreShorter n c → AreBelow n (payloads shape c t)
    payloads_below (content.content fs kept) t h =
        below_append n (payload_by shape (form_of shape t) fs) _ (own_below (form_of shape t) fs h) (fields_below (fields_of shape t) fs h)

    fields_below : (gs : List FieldShape) (fs : Fields) → AreFieldsShorter n fs → AreBelow n (fields_payloads shape gs fs)
    fields_below gs no_fields h = tt
    fields_below gs (field_of_number m v fs) h =
        below_append n (val_payloads shape v (kind_in (field_of m gs))) _ (val_below v (kind_in (field_of m gs)) h.0) (fields_below gs fs h.1)

    val_below : (v : Val) (k : Kind) → IsValShorter n v → AreBelow n (val_payloads shape v k)
    val_below (content.number z) k h = tt
    val_below (content.truth b) k h = tt
    val_below (content.text s) k h = tt
    val_below (content.octets b) k h = tt
    val_below (content.message c) k h = payloads_below c (type_of k) h
    val_below (content.many vs) k h = vals_below vs k h
    val_below (content.keyed ps) k h = pairs_below ps k h

    vals_below : (vs : Vals) (k : Kind) → AreValsShorter n vs → AreBelow n (vals_payloads shape vs k)
    vals_below no_vals k h = tt
    vals_below (val v vs) k h = below_append n (val_payloads shape v k) _ (val_below v k h.0) (vals_below vs k h.1)

    pairs_below : (ps : Pairs) (k : Kind) → ArePairsShorter n ps → AreBelow n (pairs_payloads shape ps k)
    pairs_below no_pairs k h = tt
    pairs_below (pair l v ps) k h = below_append n (val_payloads shape v k) _ (val_below v k h.0) (pairs_below ps k h.1)

-- a message without fields has no payload
bare_none : (shape : Shape) (t : ℕ) (kept : List Rec) → payloads shape (content.content no_fields kept) t ≡ []
bare_none shape t kept = at (form_of shape t)
  where
    at : (form : Form) → payload_by shape form no_fields ++ [] ≡ []
    at forms.Any = refl
    at _ = refl

-- ---- tests that agree on short payloads

tests_same : (n : ℕ) (f g : Payload → Bool) → ((p : Payload) → length p.bytes < n → f p ≡ g p) → (ps : List Payload) → AreBelow n ps → list_all f ps ≡ list_all g ps
tests_same n f g same [] h = refl
tests_same n f g same (p ∷ ps) h = rw (same p h.0, tests_same n f g same ps h.1) refl

-- the payloads of what bytes mean under two tests that agree on shorter ones
within_same : (shape : Shape) (f g : Payload → Bool) (u : ℕ) (bytes : List ℕ) (c : Content) → meaning_of shape u bytes ≡ Some c
    → ((p : Payload) → length p.bytes < length bytes → f p ≡ g p) → list_all f (payloads shape c u) ≡ list_all g (payloads shape c u)
within_same shape f g u [] c means same =
    let bare : content.content no_fields [] ≡ c = let both : Some (content.content no_fields []) ≡ Some c = sym (nothing_means shape 100 (fields_of shape u)) ∙ means in cc in
    rw (← bare) (rw (bare_none shape u []) refl)
within_same shape f g u (x ∷ xs) c means same =
    tests_same (length (x ∷ xs)) f g same (payloads shape c u)
    (payloads_below shape (length (x ∷ xs)) (omega arith) c u (meaning_shrinks shape 100 (fields_of shape u) (x ∷ xs) c means))

-- more turns than bytes change nothing
pub turns_same : (shape : Shape) (m n : ℕ) (p : Payload) → length p.bytes < m → length p.bytes < n → decodes_within shape m p ≡ decodes_within shape n p
unfolding decodes_within
turns_same shape zero n p h k = absurd (omega arith)
turns_same shape (suc m) zero p h k = absurd (omega arith)
turns_same shape (suc m) (suc n) p h k = at (meaning_of shape p.type_at p.bytes) refl (λ q short. turns_same shape m n q (omega arith) (omega arith))
  where
    at : (d : Option Content) → meaning_of shape p.type_at p.bytes ≡ d
        → ((q : Payload) → length q.bytes < length p.bytes → decodes_within shape m q ≡ decodes_within shape n q)
        → decoded_passes shape (decodes_within shape m) p.type_at d ≡ decoded_passes shape (decodes_within shape n) p.type_at d
    at None means ih = refl
    at (Some c) means ih = within_same shape (decodes_within shape m) (decodes_within shape n) p.type_at p.bytes c means ih

pub fits_by_content : FitsByContent
unfolding decodes_within
fits_by_content shape u bytes c means =
    rw means (within_same shape (decodes_within shape (length bytes)) (payload_fits shape) u bytes c means
    (λ q short. turns_same shape (length bytes) (suc (length q.bytes)) q short (omega arith)))

-- what means nothing does not fit
pub faulty_fits_not : (shape : Shape) (u : ℕ) (bytes : List ℕ) → meaning_of shape u bytes ≡ None → payload_fits shape (record { type_at = u; bytes = bytes }) ≡ false
unfolding decodes_within
faulty_fits_not shape u bytes means = rw means refl
