-- A record of a field means nothing by itself exactly where it breaks a rule as one of the field, or its payload means nothing.
use Rattle.std.proofs.Common.{◌≡◌, ℕ, Bool, true, false, ◌&&◌, ◌||◌, not, if◌then◌else◌, List, [], ◌∷◌, map, Option, Some, None, ◌⊎◌, inl, inr}
use Rattle.std.proofs.Common.{option_map, refl, sym, ap, ◌∙◌}
use Rattle.std.specs.Prelude.{◌==◌, option_and_then, IsTrue}
use Rattle.std.specs.Option.{is_some}
use Rattle.std.specs.Str.{is_utf8}
use Rattle.pbx_wire.specs.declared.error.DecodeError.{DecodeError}
use Rattle.pbx_wire.specs.declared.error.DecodeError.TheVariants as errors
use Rattle.pbx_wire.specs.declared.rec.Rec.{Rec, Varint, Fixed64, Bytes, Group', Fixed32}
use Rattle.pbx_content.specs.declared.shape.Kind.{Kind}
use Rattle.pbx_content.specs.declared.shape.Kind.TheVariants as kind
use Rattle.pbx_content.specs.declared.shape.Cardinality.{Cardinality}
use Rattle.pbx_content.specs.declared.shape.Cardinality.TheVariants.{Singular, Repeated, Map}
use Rattle.pbx_content.specs.declared.shape.Shape.{Shape}
use Rattle.pbx_content.specs.declared.shape.FieldShape.{FieldShape}
use Rattle.pbx_content.specs.Content.{Val, text, octets, message, many, vals_of}
use Rattle.pbx_content.specs.Records.{bytes_of, each, flat, last_of}
use Rattle.pbx_content.specs.Shape.{fields_of, entry_fields, is_float, is_packable, is_payload, Form, as_varint, as_four, as_eight, as_payload, form_of}
use Rattle.pbx_content.specs.Meaning.{Inner, no_inner, numeric, number_in, numbers_in, as_text, as_message, alone, one, or_packed, spread, shown}
use Rattle.pbx_content.specs.Meaning.{joined, entry_in, singular, by_cardinality, value}
use Rattle.pbx_content.specs.Faults.{wire_type, reads, is_of_texts, is_of_numbers, message_fields, payload_fields, wire_type_of, OwnPayloadIs, RecBreaks}
use Rattle.pbx_content.specs.Faults.{HasLongNumber, EndsInNumber}
use Rattle.pbx_content.proofs.OntoSplits.{there_map, there, not_there, is_plain, no_plain, plain_singular}
use Rattle.pbx_content.proofs.FaultyNumbers.{numbers_fail, long_none, end_none}

-- ---- one record alone

each_one : {X Y : Type 0} (f : X → Option Y) (x : X) → is_some (each f (x ∷ [])) ≡ is_some (f x)
each_one {Y = Y} f x = at (f x)
  where
    at : (o : Option Y) → is_some (option_and_then (λ y. option_map (λ ys. y ∷ ys) (Some [])) o) ≡ is_some o
    at None = refl
    at (Some y) = refl

mapped_there : {X Y Z : Type 0} (g : List Y → Z) (f : X → Option Y) (x : X) → is_some (option_map g (each f (x ∷ []))) ≡ is_some (f x)
mapped_there g f x = there_map g (each f (x ∷ [])) ∙ each_one f x

plain_alone : (shape : Shape) (inner other : Inner) (k : Kind) (r : Rec) → is_plain k ≡ true → alone shape inner k r ≡ alone shape other k r
plain_alone shape inner other (kind.Message t) r e = absurd cc
plain_alone shape inner other k r e = refl

singular_one : (shape : Shape) (inner : Inner) (p : Bool) (k : Kind) (r : Rec) → is_some (singular shape inner p k (r ∷ [])) ≡ is_some (alone shape inner k r)
singular_one shape inner p k r = at (is_plain k) refl
  where
    payload : (t : ℕ) (o : Option (List ℕ))
        → is_some (option_and_then (joined inner (fields_of shape t)) (option_and_then (λ y. option_map (λ ys. y ∷ ys) (Some [])) o))
        ≡ is_some (option_and_then (as_message inner (fields_of shape t)) o)
    payload t None = refl
    payload t (Some b) = there_map (λ c. Some (message c)) (inner (fields_of shape t) (b ∷ [])) ∙ sym (there_map message (inner (fields_of shape t) (b ∷ [])))

    at : (b : Bool) → is_plain k ≡ b → is_some (singular shape inner p k (r ∷ [])) ≡ is_some (alone shape inner k r)
    at true e =
        ap is_some (plain_singular shape inner p k (r ∷ []) e) ∙ mapped_there (λ vs. shown shape p k (last_of vs)) (alone shape no_inner k) r
        ∙ ap is_some (plain_alone shape no_inner inner k r e)
    at false e = let m = no_plain k e in rw m.1 (payload m.0 (bytes_of r))

-- what the record means alone as one of a field of this cardinality and kind
abbrev taken : Shape → Inner → Cardinality → Kind → Rec → Bool
taken shape inner Singular k r = is_some (alone shape inner k r)
taken shape inner Repeated k r = is_some (spread shape inner k r)
taken shape inner (Map key) k r = is_some (entry_in inner key k r)

taken_is : (shape : Shape) (inner : Inner) (f : FieldShape) (c : Cardinality) (r : Rec)
    → is_some (by_cardinality shape inner f c (r ∷ [])) ≡ taken shape inner c f.kind r
taken_is shape inner f Singular r = singular_one shape inner f.presence f.kind r
taken_is shape inner f Repeated r = mapped_there (λ vs. shown shape false f.kind (Some (many (vals_of (flat vs))))) (spread shape inner f.kind) r
taken_is shape inner f (Map key) r = mapped_there _ (entry_in inner key f.kind) r

value_one : (shape : Shape) (inner : Inner) (f : FieldShape) (r : Rec) → is_float f.kind ≡ false
    → is_some (value shape inner f (r ∷ [])) ≡ taken shape inner f.cardinality f.kind r
value_one shape inner f r e = rw e (taken_is shape inner f f.cardinality r)

-- ---- wire types

-- the form of the record is that of its wire type
number_there : (form : Form) (r : Rec) → is_payload form ≡ false → is_some (number_in form r) ≡ (wire_type_of r == wire_type form)
number_there as_varint (Varint n v) p = refl
number_there as_varint (Fixed64 n v) p = refl
number_there as_varint (Bytes n b) p = refl
number_there as_varint (Group' n s row) p = refl
number_there as_varint (Fixed32 n v) p = refl
number_there as_four (Varint n v) p = refl
number_there as_four (Fixed64 n v) p = refl
number_there as_four (Bytes n b) p = refl
number_there as_four (Group' n s row) p = refl
number_there as_four (Fixed32 n v) p = refl
number_there as_eight (Varint n v) p = refl
number_there as_eight (Fixed64 n v) p = refl
number_there as_eight (Bytes n b) p = refl
number_there as_eight (Group' n s row) p = refl
number_there as_eight (Fixed32 n v) p = refl
number_there as_payload r p = absurd cc

pub bytes_there : (r : Rec) → is_some (bytes_of r) ≡ (wire_type_of r == 2)
bytes_there (Varint n v) = refl
bytes_there (Fixed64 n v) = refl
bytes_there (Bytes n b) = refl
bytes_there (Group' n s row) = refl
bytes_there (Fixed32 n v) = refl

-- ---- kinds

number_alone : (shape : Shape) (inner : Inner) (k : Kind) (r : Rec) → is_float k ≡ false → is_payload (form_of k) ≡ false
    → is_some (alone shape inner k r) ≡ (wire_type_of r == wire_type (form_of k))
number_alone shape inner kind.Double r f p = absurd cc
number_alone shape inner kind.Float r f p = absurd cc
number_alone shape inner kind.String r f p = absurd cc
number_alone shape inner kind.Bytes r f p = absurd cc
number_alone shape inner (kind.Message t) r f p = absurd cc
number_alone shape inner k r f p = there_map (numeric k) (number_in (form_of k) r) ∙ number_there (form_of k) r p

-- why a payload is none of the kind
pub record FailsInside (shape : Shape) (inner : Inner) (fields : Option (List FieldShape)) (r : Rec) : Type 0 where
  pub gs : List FieldShape
  pub payload : List ℕ
  pub of_fields : fields ≡ Some gs
  pub of_record : bytes_of r ≡ Some payload
  pub none : inner gs (payload ∷ []) ≡ None

abbrev IsNoText : Kind → Rec → Type 0
IsNoText k r = (k ≡ kind.String) × OwnPayloadIs r (λ p. is_utf8 p ≡ false)

text_fails : (r : Rec) (o : Option (List ℕ)) → bytes_of r ≡ o → is_some (option_and_then as_text o) ≡ false
    → (is_some o ≡ false) ⊎ OwnPayloadIs r (λ p. is_utf8 p ≡ false)
text_fails r None d e = inl refl
text_fails r (Some p) d e = at (is_utf8 p) refl e
  where
    at : (b : Bool) → is_utf8 p ≡ b → is_some (if b then Some (text p) else None) ≡ false → (is_some (Some p) ≡ false) ⊎ OwnPayloadIs r (λ p. is_utf8 p ≡ false)
    at true k e = absurd cc
    at false k e = inr (p, d, k)

message_fails : (shape : Shape) (inner : Inner) (gs : List FieldShape) (r : Rec) (o : Option (List ℕ)) → bytes_of r ≡ o
    → is_some (option_and_then (as_message inner gs) o) ≡ false
    → (is_some o ≡ false) ⊎ FailsInside shape inner (Some gs) r
message_fails shape inner gs r None d e = inl refl
message_fails shape inner gs r (Some p) d e =
    inr (record {
      gs = gs;
      payload = p;
      of_fields = refl;
      of_record = d;
      none = not_there (inner gs (p ∷ []))
          (sym (there_map message (inner gs (p ∷ []))) ∙ e);
    })

no_bytes : (r : Rec) → is_some (bytes_of r) ≡ false → (wire_type_of r == 2) ≡ false
no_bytes r e = sym (bytes_there r) ∙ e

alone_fails : (shape : Shape) (inner : Inner) (k : Kind) (r : Rec) → is_float k ≡ false → is_some (alone shape inner k r) ≡ false
    → ((wire_type_of r == wire_type (form_of k)) ≡ false) ⊎ (IsNoText k r ⊎ FailsInside shape inner (message_fields shape k) r)
alone_fails shape inner kind.Double r f e = absurd cc
alone_fails shape inner kind.Float r f e = absurd cc
alone_fails shape inner kind.String r f e = elim (text_fails r (bytes_of r) refl e) [
  | inl n ↦ inl (no_bytes r n)
  | inr t ↦ inr (inl (refl, t))
]
alone_fails shape inner kind.Bytes r f e = inl (no_bytes r (sym (there_map octets (bytes_of r)) ∙ e))
alone_fails shape inner (kind.Message t) r f e = elim (message_fails shape inner (fields_of shape t) r (bytes_of r) refl e) [
  | inl n ↦ inl (no_bytes r n)
  | inr t ↦ inr (inr t)
]
alone_fails shape inner k r f e = inl (sym (number_alone shape inner k r f refl) ∙ e)

bound_none : {A B : Type 0} (g : A → Option B) (o : Option A) → is_some o ≡ false → is_some (option_and_then g o) ≡ false
bound_none g None e = refl
bound_none g (Some x) e = absurd cc

wrong_alone : (shape : Shape) (inner : Inner) (k : Kind) (r : Rec) → is_float k ≡ false → (wire_type_of r == wire_type (form_of k)) ≡ false
    → is_some (alone shape inner k r) ≡ false
wrong_alone shape inner kind.Double r f e = absurd cc
wrong_alone shape inner kind.Float r f e = absurd cc
wrong_alone shape inner kind.String r f e = bound_none as_text (bytes_of r) (bytes_there r ∙ e)
wrong_alone shape inner kind.Bytes r f e = there_map octets (bytes_of r) ∙ bytes_there r ∙ e
wrong_alone shape inner (kind.Message t) r f e = bound_none (as_message inner (fields_of shape t)) (bytes_of r) (bytes_there r ∙ e)
wrong_alone shape inner k r f e = number_alone shape inner k r f refl ∙ e

text_alone : (shape : Shape) (inner : Inner) (r : Rec) → OwnPayloadIs r (λ p. is_utf8 p ≡ false) → is_some (alone shape inner kind.String r) ≡ false
text_alone shape inner r (p, d, e) = rw (d, e) refl

inside_alone : (shape : Shape) (inner : Inner) (k : Kind) (r : Rec) → FailsInside shape inner (message_fields shape k) r
    → is_some (alone shape inner k r) ≡ false
inside_alone shape inner (kind.Message t) r h =
    let is : fields_of shape t ≡ h.gs = cc in
    rw (h.of_record, is, h.none) refl
inside_alone shape inner k r h = let no = h.of_fields in absurd cc

-- ---- fields

-- why a record of a field means nothing alone
abbrev pub RecFails : Shape → Inner → Cardinality → Kind → Rec → Type 0
RecFails shape inner c k r =
    (reads c k (wire_type_of r) ≡ false)
    ⊎ ((IsTrue (is_of_texts c k) × OwnPayloadIs r (λ p. is_utf8 p ≡ false))
    ⊎ ((IsTrue (is_of_numbers c k) × OwnPayloadIs r (λ p. HasLongNumber (form_of k) p ⊎ EndsInNumber (form_of k) p))
    ⊎ FailsInside shape inner (payload_fields shape c k) r))

no_payload_form : (k : Kind) → is_packable k ≡ true → is_payload (form_of k) ≡ false
no_payload_form k e = at (is_payload (form_of k)) e
  where
    at : (b : Bool) → not b ≡ true → b ≡ false
    at true e = absurd cc
    at false e = refl

spread_fails : (shape : Shape) (inner : Inner) (k : Kind) (r : Rec) → is_float k ≡ false → is_some (spread shape inner k r) ≡ false
    → RecFails shape inner Repeated k r
spread_fails shape inner k r f e = at (is_packable k) refl e
  where
    single : List Val → Option (List Val)
    single vs = Some vs

    either_type : (p : Bool) → (wire_type_of r == wire_type (form_of k)) ≡ false → p && (wire_type_of r == 2) ≡ false
        → (wire_type_of r == wire_type (form_of k)) || (p && (wire_type_of r == 2)) ≡ false
    either_type p a b = rw (a, b) refl

    by_payload : is_packable k ≡ true → (o : Option (List ℕ)) → bytes_of r ≡ o → is_some (or_packed k (one (alone shape inner k r)) o) ≡ false
        → RecFails shape inner Repeated k r
    by_payload p None d e =
        let other : (wire_type_of r == wire_type (form_of k)) ≡ false =
        sym (number_alone shape inner k r f (no_payload_form k p)) ∙ sym (there_map (λ w. w ∷ []) (alone shape inner k r)) ∙ e in
        inl (either_type (is_packable k) other (ap (λ b. b && (wire_type_of r == 2)) p ∙ no_bytes r (ap is_some d)))
    by_payload p (Some b) d e =
        let none = not_there (numbers_in (form_of k) b) (sym (there_map (map (numeric k)) (numbers_in (form_of k) b)) ∙ e) in
        inr (inr (inl (p, (b, d, numbers_fail (form_of k) b (no_payload_form k p) none))))

    at : (p : Bool) → is_packable k ≡ p → is_some (if p then or_packed k (one (alone shape inner k r)) (bytes_of r) else one (alone shape inner k r)) ≡ false
        → RecFails shape inner Repeated k r
    at true p e = by_payload p (bytes_of r) refl e
    at false p e = elim (alone_fails shape inner k r f (sym (there_map (λ w. w ∷ []) (alone shape inner k r)) ∙ e)) [
      | inl t ↦ inl (either_type (is_packable k) t (ap (λ b. b && (wire_type_of r == 2)) p))
      | inr (inl (t, o)) ↦ inr (inl (rw t refl, o))
      | inr (inr t) ↦ inr (inr (inr t))
    ]

entry_fails : (shape : Shape) (inner : Inner) (key k : Kind) (r : Rec) (o : Option (List ℕ)) → bytes_of r ≡ o
    → is_some (option_and_then (λ b. inner (entry_fields key k) (b ∷ [])) o) ≡ false → RecFails shape inner (Map key) k r
entry_fails shape inner key k r None d e = inl (no_bytes r (ap is_some d))
entry_fails shape inner key k r (Some p) d e =
    inr (inr (inr (record { gs = entry_fields key k; payload = p; of_fields = refl; of_record = d; none = not_there (inner (entry_fields key k) (p ∷ [])) e })))

taken_fails : (shape : Shape) (inner : Inner) (c : Cardinality) (k : Kind) (r : Rec) → is_float k ≡ false → taken shape inner c k r ≡ false
    → RecFails shape inner c k r
taken_fails shape inner Singular k r f e = elim (alone_fails shape inner k r f e) [
  | inl t ↦ inl t
  | inr (inl (t, o)) ↦ inr (inl (rw t refl, o))
  | inr (inr t) ↦ inr (inr (inr t))
]
taken_fails shape inner Repeated k r f e = spread_fails shape inner k r f e
taken_fails shape inner (Map key) k r f e = entry_fails shape inner key k r (bytes_of r) refl e

-- ---- and the other way

both_false : (a b : Bool) → a || b ≡ false → (a ≡ false) × (b ≡ false)
both_false true b e = absurd cc
both_false false b e = (refl, e)

wrong_spread : (shape : Shape) (inner : Inner) (k : Kind) (r : Rec) → is_float k ≡ false → reads Repeated k (wire_type_of r) ≡ false
    → is_some (spread shape inner k r) ≡ false
wrong_spread shape inner k r f e = at (is_packable k) refl
  where
    parts : ((wire_type_of r == wire_type (form_of k)) ≡ false) × (is_packable k && (wire_type_of r == 2) ≡ false)
    parts = both_false (wire_type_of r == wire_type (form_of k)) (is_packable k && (wire_type_of r == 2)) e

    single : is_some (one (alone shape inner k r)) ≡ false
    single = there_map (λ w. w ∷ []) (alone shape inner k r) ∙ wrong_alone shape inner k r f parts.0

    at : (p : Bool) → is_packable k ≡ p → is_some (if p then or_packed k (one (alone shape inner k r)) (bytes_of r) else one (alone shape inner k r)) ≡ false
    at false p = single
    at true p =
        let none = not_there (bytes_of r) (bytes_there r ∙ sym (ap (λ b. b && (wire_type_of r == 2)) p) ∙ parts.1) in
        rw none single

wrong_taken : (shape : Shape) (inner : Inner) (c : Cardinality) (k : Kind) (r : Rec) → is_float k ≡ false → reads c k (wire_type_of r) ≡ false
    → taken shape inner c k r ≡ false
wrong_taken shape inner Singular k r f e = wrong_alone shape inner k r f e
wrong_taken shape inner Repeated k r f e = wrong_spread shape inner k r f e
wrong_taken shape inner (Map key) k r f e = bound_none (λ b. inner (entry_fields key k) (b ∷ [])) (bytes_of r) (bytes_there r ∙ e)

text_taken : (shape : Shape) (inner : Inner) (c : Cardinality) (k : Kind) (r : Rec) → is_of_texts c k ≡ true → OwnPayloadIs r (λ p. is_utf8 p ≡ false)
    → taken shape inner c k r ≡ false
text_taken shape inner Singular kind.String r t h = text_alone shape inner r h
text_taken shape inner Repeated kind.String r t h = there_map (λ w. w ∷ []) (alone shape inner kind.String r) ∙ text_alone shape inner r h
text_taken shape inner c k r t h = absurd cc

numbers_none : (form : Form) (p : List ℕ) → HasLongNumber form p ⊎ EndsInNumber form p → numbers_in form p ≡ None
numbers_none form p (inl h) = long_none form p h
numbers_none form p (inr h) = end_none form p h

numbers_taken : (shape : Shape) (inner : Inner) (c : Cardinality) (k : Kind) (r : Rec) → is_of_numbers c k ≡ true
    → OwnPayloadIs r (λ p. HasLongNumber (form_of k) p ⊎ EndsInNumber (form_of k) p) → taken shape inner c k r ≡ false
numbers_taken shape inner Singular k r t h = absurd cc
numbers_taken shape inner (Map key) k r t h = absurd cc
numbers_taken shape inner Repeated k r t (p, d, h) = rw (t, d, numbers_none (form_of k) p h) refl

inside_spread : (shape : Shape) (inner : Inner) (k : Kind) (r : Rec) → FailsInside shape inner (message_fields shape k) r
    → is_some (spread shape inner k r) ≡ false
inside_spread shape inner (kind.Message t) r h = there_map (λ w. w ∷ []) (alone shape inner (kind.Message t) r) ∙ inside_alone shape inner (kind.Message t) r h
inside_spread shape inner k r h = let no = h.of_fields in absurd cc

inside_taken : (shape : Shape) (inner : Inner) (c : Cardinality) (k : Kind) (r : Rec) → FailsInside shape inner (payload_fields shape c k) r
    → taken shape inner c k r ≡ false
inside_taken shape inner Singular k r h = inside_alone shape inner k r h
inside_taken shape inner Repeated k r h = inside_spread shape inner k r h
inside_taken shape inner (Map key) k r h =
    let is : entry_fields key k ≡ h.gs = cc in
    rw (h.of_record, is, h.none) refl

fails_taken : (shape : Shape) (inner : Inner) (c : Cardinality) (k : Kind) (r : Rec) → is_float k ≡ false → RecFails shape inner c k r
    → taken shape inner c k r ≡ false
fails_taken shape inner c k r f (inl e) = wrong_taken shape inner c k r f e
fails_taken shape inner c k r f (inr (inl (t, h))) = text_taken shape inner c k r t h
fails_taken shape inner c k r f (inr (inr (inl (t, h)))) = numbers_taken shape inner c k r t h
fails_taken shape inner c k r f (inr (inr (inr h))) = inside_taken shape inner c k r h

-- ---- the value of a record alone

pub value_fails : (shape : Shape) (inner : Inner) (f : FieldShape) (r : Rec) → is_float f.kind ≡ false → value shape inner f (r ∷ []) ≡ None
    → RecFails shape inner f.cardinality f.kind r
value_fails shape inner f r e h = taken_fails shape inner f.cardinality f.kind r e (sym (value_one shape inner f r e) ∙ ap is_some h)

pub fails_value : (shape : Shape) (inner : Inner) (f : FieldShape) (r : Rec) → is_float f.kind ≡ false → RecFails shape inner f.cardinality f.kind r
    → value shape inner f (r ∷ []) ≡ None
fails_value shape inner f r e h = not_there (value shape inner f (r ∷ [])) (value_one shape inner f r e ∙ fails_taken shape inner f.cardinality f.kind r e h)

-- the fault that the record has itself, or that its payload means nothing
pub rec_breaks : (shape : Shape) (inner : Inner) (levels : ℕ) (f : FieldShape) (r : Rec) → RecFails shape inner f.cardinality f.kind r
    → ((e : DecodeError) × RecBreaks shape levels f r e) ⊎ FailsInside shape inner (payload_fields shape f.cardinality f.kind) r
rec_breaks shape inner levels f r (inl e) = inl (errors.WireType 0, (refl, e))
rec_breaks shape inner levels f r (inr (inl (t, h))) = inl (errors.Utf8 0, (refl, t, h))
rec_breaks shape inner levels f r (inr (inr (inl (t, (p, d, inl h))))) = inl (errors.Varint 0, (refl, t, (p, d, h)))
rec_breaks shape inner levels f r (inr (inr (inl (t, (p, d, inr h))))) = inl (errors.Underflow 0, (refl, t, (p, d, h)))
rec_breaks shape inner levels f r (inr (inr (inr h))) = inr h

pub breaks_rec : (shape : Shape) (inner : Inner) (levels : ℕ) (f : FieldShape) (r : Rec) (e : DecodeError)
    → (levels ≡ 0 → (gs : List FieldShape) (p : List ℕ) → inner gs (p ∷ []) ≡ None) → RecBreaks shape levels f r e
    → RecFails shape inner f.cardinality f.kind r
breaks_rec shape inner levels f r (errors.WireType at) none h = inl h.1
breaks_rec shape inner levels f r (errors.Utf8 at) none h = inr (inl (h.1, h.2))
breaks_rec shape inner levels f r (errors.Varint at) none (z, t, (p, d, h)) = inr (inr (inl (t, (p, d, inl h))))
breaks_rec shape inner levels f r (errors.Underflow at) none (z, t, (p, d, h)) = inr (inr (inl (t, (p, d, inr h))))
breaks_rec shape inner levels f r (errors.TooDeep at) none (z, zero_left, t, (p, d, u)) =
    let gs = there (payload_fields shape f.cardinality f.kind) t in
    inr (inr (inr (record { gs = gs.0; payload = p; of_fields = gs.1; of_record = d; none = none zero_left gs.0 p })))
breaks_rec shape inner levels f r (errors.Key at) none h = absurd h
breaks_rec shape inner levels f r (errors.EndGroup at) none h = absurd h
breaks_rec shape inner levels f r errors.NoMemory none h = absurd h
