-- Values of single records.
use Rattle.std.proofs.Common.{◌≡◌, ℕ, Bool, true, false, List, ◌++◌, Option, Some, None, option_map, refl, sym, ap}
use Rattle.std.specs.Prelude.{◌==◌}
use Rattle.std.specs.Str.{IsUtf8, is_utf8}
use Rattle.std.proofs.lemmas.Str.{is_utf8-from_IsUtf8, IsUtf8-from_is_utf8}
use Rattle.pbx_wire.specs.declared.rec.Rec.{Rec, Varint, Fixed64, Bytes, Group', Fixed32}
use Rattle.pbx_content.specs.declared.shape.Kind.{Kind}
use Rattle.pbx_content.specs.declared.shape.Kind.TheVariants as kinds
use Rattle.pbx_content.specs.declared.shape.Shape.{Shape}
use Rattle.pbx_content.specs.Content.{Val, text, many, vals_of}
use Rattle.pbx_content.specs.Records.{bytes_of}
use Rattle.pbx_content.specs.Shape.{Form, as_varint, as_four, as_eight, as_payload, form_of, is_float, is_payload}
use Rattle.pbx_content.specs.Meaning.{Inner, numeric, number_in, as_text, alone, shown}
use Rattle.pbx_content.specs.Faults.{wire_type, wire_type_of}
use Rattle.pbx_content.proofs.OntoSplits.{is_plain}

pub as_text_ok : (b : List ℕ) → IsUtf8 b → as_text b ≡ Some (text b)
as_text_ok b h = rw (is_utf8-from_IsUtf8 b h) refl

pub no_text : (b : List ℕ) → (IsUtf8 b → ⊥) → is_utf8 b ≡ false
no_text b h = at (is_utf8 b) (IsUtf8-from_is_utf8 b)
  where
    at : (c : Bool) → (c ≡ true → IsUtf8 b) → c ≡ false
    at true k = absurd (h (k refl))
    at false k = refl

-- no payload, no record of wire type 2
pub no_bytes : (r : Rec) → None ≡ bytes_of r → (wire_type_of r == 2) ≡ false
no_bytes (Varint n v) e = refl
no_bytes (Fixed64 n v) e = refl
no_bytes (Bytes n b) e = absurd cc
no_bytes (Group' n shape row) e = refl
no_bytes (Fixed32 n v) e = refl

no_number : (f : Form) (r : Rec) → is_payload f ≡ false → number_in f r ≡ None → (wire_type_of r == wire_type f) ≡ false
no_number as_varint (Varint n v) p e = absurd cc
no_number as_varint (Fixed64 n v) p e = refl
no_number as_varint (Bytes n b) p e = refl
no_number as_varint (Group' n shape row) p e = refl
no_number as_varint (Fixed32 n v) p e = refl
no_number as_four (Varint n v) p e = refl
no_number as_four (Fixed64 n v) p e = refl
no_number as_four (Bytes n b) p e = refl
no_number as_four (Group' n shape row) p e = refl
no_number as_four (Fixed32 n v) p e = absurd cc
no_number as_eight (Varint n v) p e = refl
no_number as_eight (Fixed64 n v) p e = absurd cc
no_number as_eight (Bytes n b) p e = refl
no_number as_eight (Group' n shape row) p e = refl
no_number as_eight (Fixed32 n v) p e = refl
no_number as_payload r p e = absurd cc

-- a kind of numbers
pub are_numbers : (k : Kind) → is_plain k ≡ true → is_float k ≡ false → (k ≡ kinds.String → ⊥) → (k ≡ kinds.Bytes → ⊥) → is_payload (form_of k) ≡ false
are_numbers kinds.String p f s b = absurd (s refl)
are_numbers kinds.Bytes p f s b = absurd (b refl)
are_numbers (kinds.Message t) p f s b = absurd cc
are_numbers k p f s b = refl

pub alone_number : (shape : Shape) (inner : Inner) (k : Kind) (r : Rec) → is_float k ≡ false → is_payload (form_of k) ≡ false
    → alone shape inner k r ≡ option_map (numeric k) (number_in (form_of k) r)
alone_number shape inner kinds.Double r f p = absurd cc
alone_number shape inner kinds.Float r f p = absurd cc
alone_number shape inner kinds.String r f p = absurd cc
alone_number shape inner kinds.Bytes r f p = absurd cc
alone_number shape inner (kinds.Message t) r f p = absurd cc
alone_number shape inner k r f p = refl

no_map : {A B : Type 0} (g : A → B) (o : Option A) → option_map g o ≡ None → o ≡ None
no_map g None e = refl
no_map g (Some x) e = absurd cc

pub number_fails : (k : Kind) (r : Rec) → is_payload (form_of k) ≡ false → None ≡ option_map (numeric k) (number_in (form_of k) r)
    → (wire_type_of r == wire_type (form_of k)) ≡ false
number_fails k r p e = no_number (form_of k) r p (no_map (numeric k) (number_in (form_of k) r) (sym e))

-- a list with more elements, where it is shown
pub shown_list : (shape : Shape) (k : Kind) (start now : List Val) (o : Option (List Val)) → option_map (λ vs. start ++ vs) o ≡ Some now
    → option_map (λ vs. shown shape false k (Some (many (vals_of (start ++ vs))))) o ≡ Some (shown shape false k (Some (many (vals_of now))))
shown_list shape k start now None e = absurd cc
shown_list shape k start now (Some vs) e =
    let is : start ++ vs ≡ now = cc in
    ap (λ (x : List Val). Some (shown shape false k (Some (many (vals_of x))))) is
