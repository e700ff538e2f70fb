-- Fields that are written one by one.
use Rattle.std.proofs.Common.{◌≡◌, ℕ, ◌+◌, ◌<◌, ◌≤◌, Bool, true, List, [], ◌∷◌, ◌++◌, length, map, take, get_or, Some, None, subst, refl, sym, ap, ◌∙◌, append_assoc, append-nil}
use Rattle.std.specs.Prelude.{ℤ, Result, Ok, Err, OnOk}
use Rattle.std.specs.Int.{w32}
use Rattle.std.specs.Int.RustNames.{FitsSigned}
use Rattle.std.specs.Str.{is_utf8}
use Rattle.std.proofs.lemmas.List.{take_all}
use Rattle.pbx_wire.specs.Varint.{varint}
use Rattle.pbx_wire.specs.Text.{text as text_of_rec, text_of}
use Rattle.pbx_wire.specs.declared.rec.Rec.{Rec}
use Rattle.pbx_wire.specs.declared.rec.Rec.TheVariants as rec
use Rattle.pbx_content.specs.declared.shape.Cardinality.TheVariants.{Singular, Repeated}
use Rattle.pbx_content.specs.declared.shape.Kind.{Kind}
use Rattle.pbx_content.specs.declared.shape.Kind.TheVariants as kind
use Rattle.pbx_content.specs.declared.shape.Shape.{Shape}
use Rattle.pbx_content.specs.Content.{Content, Val, number, truth, text, message, vals_of}
use Rattle.pbx_content.specs.Shape.{form_of}
use Rattle.pbx_content.specs.Encoding.{encoded, numeral, number_text, packed_text, vals_recs, content_recs, payload}
use Rattle.pbx_content.specs.Sound.{IsSound}
use Rattle.pbx_desc_shapes.specs.DescriptorShape.{descriptor_shape}
use Rattle.pbx_desc_encoding.specs.Building.{value_recs, Writes, WritesPacked, IsWritten}
use Rattle.pbx_desc_encoding.specs.Content.{of_texts, of_numbers}
use Rattle.pbx_desc_encoding.specs.Sound.{AreOf}
use Rattle.pbx_desc_encoding.proofs.Told.{mapped_more}

pub on_ok : {X E P Q : Type 0} (r : Result X E) → (P → Q) → OnOk r P → OnOk r Q
on_ok (Ok x) f h = f h
on_ok (Err e) f h = tt

-- ---- packed numbers

packed-pushed : (k : Kind) (vs : List Val) (v : Val) → packed_text k (vals_of (vs ++ v ∷ [])) ≡ packed_text k (vals_of vs) ++ number_text (form_of k) (numeral k v)
packed-pushed k [] v = append-nil (number_text (form_of k) (numeral k v))
packed-pushed k (w ∷ vs) v =
    let here = number_text (form_of k) (numeral k w) in
    ap (λ (t : List ℕ). here ++ t) (packed-pushed k vs v) ∙ sym (append_assoc here (packed_text k (vals_of vs)) (number_text (form_of k) (numeral k v)))

-- one number more
pub packed_next : (zs : List ℤ) (i : ℕ) (z : ℤ) (first old new : List ℕ) → i < length zs → z ≡ get_or zs i z → old ≡ first ++ packed_text kind.Int32 (vals_of (map number (take i zs)))
    → new ≡ old ++ varint (numeral kind.Int32 (number z)) → new ≡ first ++ packed_text kind.Int32 (vals_of (map number (take (i + 1) zs)))
packed_next zs i z first old new lt is before here =
    let last = varint (numeral kind.Int32 (number z)) in
    let taken = map number (take i zs) in
    here
    ∙ ap (λ (t : List ℕ). t ++ last) before
    ∙ append_assoc first (packed_text kind.Int32 (vals_of taken)) last
    ∙ ap (λ (t : List ℕ). first ++ t) (sym (ap (λ (vs : List Val). packed_text kind.Int32 (vals_of vs)) (mapped_more number zs i z lt is) ∙ packed-pushed kind.Int32 taken (number z)))

pub packed_written : (n : ℕ) (zs : List ℤ) (start payload old new : List ℕ) → (zs ≡ [] → ⊥) → start ≡ [] → payload ≡ start ++ packed_text kind.Int32 (vals_of (map number zs))
    → AreOf descriptor_shape kind.Int32 (map number zs) → new ≡ old ++ text_of_rec (rec.Bytes n payload) → WritesPacked kind.Int32 n (of_numbers zs) old new
packed_written n [] start payload old new some none is all here = absurd (some refl)
packed_written n (z ∷ zs) start payload old new some none is all here =
    let packed = packed_text kind.Int32 (vals_of (map number (z ∷ zs))) in
    record {
      text = here
          ∙ ap (λ (b : List ℕ). old ++ text_of_rec (rec.Bytes n b)) (is ∙ ap (λ (t : List ℕ). t ++ packed) none)
          ∙ ap (λ (t : List ℕ). old ++ t) (sym (append-nil (text_of_rec (rec.Bytes n packed))));
      value = (map number (z ∷ zs), refl, all);
    }

pub none_packed : (n : ℕ) (zs : List ℤ) (old : List ℕ) → zs ≡ [] → WritesPacked kind.Int32 n (of_numbers zs) old old
none_packed n zs old none =
    subst (λ (ys : List ℤ). WritesPacked kind.Int32 n (of_numbers ys) old old) (sym none) (record { text = sym (append-nil old); value = ([], refl, tt) })

-- ---- texts

pub text_written : (n : ℕ) (s b old new : List ℕ) → new ≡ old ++ text_of_rec (rec.Bytes n b) → b ≡ s → is_utf8 s ≡ true → Writes Singular kind.String n (Some (text s)) old new
text_written n s b old new here is utf8 = record {
  text = here
      ∙ ap (λ (t : List ℕ). old ++ text_of_rec (rec.Bytes n t)) is
      ∙ ap (λ (t : List ℕ). old ++ t) (sym (append-nil (text_of_rec (rec.Bytes n s))));
  value = utf8;
}

pub no_text : (n : ℕ) (old : List ℕ) → Writes Singular kind.String n None old old
no_text n old = record { text = sym (append-nil old); value = tt }

vals_texts : (n : ℕ) (ts : List (List ℕ)) → vals_recs descriptor_shape n kind.String (vals_of (map text ts)) ≡ map (λ (t : List ℕ). rec.Bytes n t) ts
vals_texts n [] = refl
vals_texts n (t ∷ ts) = ap (λ (rs : List Rec). rec.Bytes n t ∷ rs) (vals_texts n ts)

texts_sent : (n : ℕ) (ts : List (List ℕ)) → map (λ (t : List ℕ). rec.Bytes n t) ts ≡ value_recs n kind.String (of_texts ts)
texts_sent n [] = refl
texts_sent n (t ∷ ts) = sym (vals_texts n (t ∷ ts))

pub texts_written : (n : ℕ) (items ts : List (List ℕ)) (i : ℕ) (old new : List ℕ) → items ≡ ts → length items ≤ i → new ≡ old ++ text_of (map (λ (t : List ℕ). rec.Bytes n t) (take i items))
    → AreOf descriptor_shape kind.String (map text (take i items)) → Writes Repeated kind.String n (of_texts ts) old new
texts_written n items ts i old new is le e sound =
    let all : take i items ≡ ts = take_all i items le ∙ is in
    record {
      text = e ∙ ap (λ (xs : List (List ℕ)). old ++ text_of (map (λ (t : List ℕ). rec.Bytes n t) xs)) all ∙ ap (λ (rs : List Rec). old ++ text_of rs) (texts_sent n ts);
      value = (map text ts, refl, subst (λ (xs : List (List ℕ)). AreOf descriptor_shape kind.String (map text xs)) all sound);
    }

-- ---- numbers, truth values and options

pub number_written : (n v : ℕ) (z : ℤ) (old new : List ℕ) → new ≡ old ++ text_of_rec (rec.Varint n v) → v ≡ numeral kind.Int32 (number z) → FitsSigned w32 z
    → Writes Singular kind.Int32 n (Some (number z)) old new
number_written n v z old new here is fits = record {
  text = here
      ∙ ap (λ (u : ℕ). old ++ text_of_rec (rec.Varint n u)) is
      ∙ ap (λ (t : List ℕ). old ++ t) (sym (append-nil (text_of_rec (rec.Varint n (numeral kind.Int32 (number z))))));
  value = fits;
}

pub no_number : (n : ℕ) (old : List ℕ) → Writes Singular kind.Int32 n None old old
no_number n old = record { text = sym (append-nil old); value = tt }

pub truth_written : (n v : ℕ) (b : Bool) (old new : List ℕ) → new ≡ old ++ text_of_rec (rec.Varint n v) → v ≡ numeral kind.Bool (truth b) → Writes Singular kind.Bool n (Some (truth b)) old new
truth_written n v b old new here is = record {
  text = here
      ∙ ap (λ (u : ℕ). old ++ text_of_rec (rec.Varint n u)) is
      ∙ ap (λ (t : List ℕ). old ++ t) (sym (append-nil (text_of_rec (rec.Varint n (numeral kind.Bool (truth b))))));
  value = tt;
}

pub no_truth : (n : ℕ) (old : List ℕ) → Writes Singular kind.Bool n None old old
no_truth n old = record { text = sym (append-nil old); value = tt }

pub record_written : (n t : ℕ) (c : Content) (old new : List ℕ) → new ≡ old ++ text_of_rec (payload n (content_recs descriptor_shape t c)) → IsSound descriptor_shape t c
    → Writes Singular (kind.Message t) n (Some (message c)) old new
record_written n t c old new here sound = record {
  text = here ∙ ap (λ (b : List ℕ). old ++ b) (sym (append-nil (text_of_rec (payload n (content_recs descriptor_shape t c)))));
  value = sound;
}

pub no_record : (n t : ℕ) (old : List ℕ) → Writes Singular (kind.Message t) n None old old
no_record n t old = record { text = sym (append-nil old); value = tt }

-- ---- by way of the content

pub content_written : (t u : ℕ) (shape : Shape) (c d : Content) (old new : List ℕ) → new ≡ old ++ encoded shape u c → shape ≡ descriptor_shape → u ≡ t → c ≡ d → IsSound descriptor_shape t d → IsWritten t d old new
content_written t u shape c d old new here same type content_is sound = record {
  text = here ∙ ap (λ (b : List ℕ). old ++ b) (ap (λ (s : Shape). encoded s u c) same ∙ ap (λ (k : ℕ). encoded descriptor_shape k c) type ∙ ap (encoded descriptor_shape t) content_is);
  sound = sound;
}
