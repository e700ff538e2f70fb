-- What one record gives a field, and which rule it breaks.
use Rattle.std.proofs.Common.{◌≡◌, ℕ, suc, ◌-◌, Bool, true, false, ◌&&◌, if◌then◌else◌, List, [], ◌∷◌, ◌++◌, length, Option, Some, None, option_map, refl, sym, ap, ◌∙◌, arith, append-nil, inl, inr}
use Rattle.std.specs.Prelude.{◌⊎◌, ◌==◌, ◌↔◌, Result, Ok, Err, IfOk, IfErr, option_and_then, is_some}
use Rattle.pbx_wire.specs.declared.rec.Rec.{Rec}
use Rattle.pbx_wire.specs.declared.error.DecodeError.{DecodeError}
use Rattle.pbx_wire.specs.declared.error.DecodeError.TheVariants as errors
use Rattle.pbx_content.specs.declared.shape.Kind.{Kind}
use Rattle.pbx_content.specs.declared.shape.Kind.TheVariants as kinds
use Rattle.pbx_content.specs.declared.shape.Cardinality.{Cardinality}
use Rattle.pbx_content.specs.declared.shape.Cardinality.TheVariants.{Singular, Repeated}
use Rattle.pbx_content.specs.declared.shape.Shape.{Shape}
use Rattle.pbx_content.specs.declared.shape.FieldShape.{FieldShape}
use Rattle.pbx_content.specs.Content.{Content, empty, Val, message, many, vals_of}
use Rattle.pbx_content.specs.Records.{bytes_of, each, flat, last_of, records_in}
use Rattle.pbx_content.specs.Shape.{fields_of, is_float, is_packable}
use Rattle.pbx_content.specs.Meaning.{Inner, no_inner, alone, spread, shown, one, or_packed}
use Rattle.pbx_content.specs.Onto.{elements, message_held, InnerOnto, from_empty, latest, joined_onto, value_onto, meaning_onto}
use Rattle.pbx_content.specs.Faults.{wire_type_of, reads, payload_fields}
use Rattle.pbx_content.specs.Laws.{IsFirstWith}
use Rattle.pbx_content.proofs.OntoSplits.{is_plain}
use Rattle.pbx_content.proofs.OntoLaw.{plain_onto, onto_at}
use Rattle.pbx_content_codec.specs.declared.fields.FieldView.{FieldView}
use Rattle.pbx_content_codec.specs.Fields.{field_like}
use Rattle.pbx_content_codec.specs.Breaks.{AloneFails, SpreadFails}
use Rattle.pbx_content_codec.specs.Merging.{onto_with, IsToldAt, PayloadFails, ValueFails}
use Rattle.pbx_content_codec.proofs.Alone.{no_bytes}

pub each_one : {X Y : Type 0} (f : X → Option Y) (x : X) → each f (x ∷ []) ≡ option_map (λ y. y ∷ []) (f x)
each_one f x = at (f x)
  where
    at : {Y : Type 0} (o : Option Y) → option_and_then (λ y. option_map (λ ys. y ∷ ys) (Some [])) o ≡ option_map (λ y. y ∷ []) o
    at None = refl
    at (Some y) = refl

-- ---- fields that are no messages

once_is : (shape : Shape) (inner : InnerOnto) (v : FieldView) (old : Option Val) (rs : List Rec) → is_plain v.kind ≡ true → is_float v.kind ≡ false
    → v.cardinality ≡ Singular
    → value_onto shape inner (field_like v) old rs ≡ option_map (λ vs. latest shape (field_like v) old (last_of vs)) (each (alone shape no_inner v.kind) rs)
once_is shape inner v old rs plain float once = rw (float, once) (plain_onto shape inner (field_like v) v.kind old rs plain)

pub single_found : (shape : Shape) (inner : InnerOnto) (v : FieldView) (old new : Option Val) (r : Rec) → is_plain v.kind ≡ true → is_float v.kind ≡ false
    → v.cardinality ≡ Singular
    → option_map (λ x. shown shape v.presence v.kind (Some x)) (alone shape no_inner v.kind r) ≡ Some new
    → value_onto shape inner (field_like v) old (r ∷ []) ≡ Some new
single_found shape inner v old new r plain float once e =
    once_is shape inner v old (r ∷ []) plain float once
    ∙ ap (option_map (λ vs. latest shape (field_like v) old (last_of vs))) (each_one (alone shape no_inner v.kind) r)
    ∙ at (alone shape no_inner v.kind r) ∙ e
  where
    at : (o : Option Val) → option_map (λ vs. latest shape (field_like v) old (last_of vs)) (option_map (λ y. y ∷ []) o)
        ≡ option_map (λ x. shown shape v.presence v.kind (Some x)) o
    at None = refl
    at (Some x) = refl

alone_plain : (shape : Shape) (inner : Inner) (k : Kind) (r : Rec) → is_plain k ≡ true → alone shape inner k r ≡ alone shape no_inner k r
alone_plain shape inner (kinds.Message t) r p = absurd cc
alone_plain shape inner k r p = refl

spread_plain : (shape : Shape) (inner : Inner) (k : Kind) (r : Rec) → is_plain k ≡ true → spread shape inner k r ≡ spread shape no_inner k r
spread_plain shape inner k r p = ap (λ (x : Option Val). if is_packable k then or_packed k (one x) (bytes_of r) else one x) (alone_plain shape inner k r p)

pub list_found : (shape : Shape) (inner : InnerOnto) (v : FieldView) (old new : Option Val) (r : Rec) → is_plain v.kind ≡ true → is_float v.kind ≡ false
    → v.cardinality ≡ Repeated
    → option_map (λ vs. shown shape false v.kind (Some (many (vals_of (elements old ++ vs))))) (spread shape no_inner v.kind r) ≡ Some new
    → value_onto shape inner (field_like v) old (r ∷ []) ≡ Some new
list_found shape inner v old new r plain float list e =
    these ∙ ap (option_map (λ vs. shown shape false v.kind (Some (many (vals_of (elements old ++ flat vs))))))
    (each_one (spread shape (from_empty inner) v.kind) r ∙ ap (option_map (λ y. y ∷ [])) (spread_plain shape (from_empty inner) v.kind r plain))
    ∙ at (spread shape no_inner v.kind r) ∙ e
  where
    these : value_onto shape inner (field_like v) old (r ∷ [])
        ≡ option_map (λ vs. shown shape false v.kind (Some (many (vals_of (elements old ++ flat vs))))) (each (spread shape (from_empty inner) v.kind) (r ∷ []))
    these = rw (float, list) refl

    at : (o : Option (List Val)) → option_map (λ vs. shown shape false v.kind (Some (many (vals_of (elements old ++ flat vs))))) (option_map (λ y. y ∷ []) o)
        ≡ option_map (λ vs. shown shape false v.kind (Some (many (vals_of (elements old ++ vs))))) o
    at None = refl
    at (Some vs) = ap (λ (x : List Val). Some (shown shape false v.kind (Some (many (vals_of (elements old ++ x)))))) (append-nil vs)

-- ---- messages

pub one_onto : (shape : Shape) (d : ℕ) (gs : List FieldShape) (c : Content) (b : List ℕ) → onto_at shape (suc d) gs c (b ∷ []) ≡ onto_with shape d d gs c b
unfolding onto_at
one_onto shape d gs c b = ap (λ (x : Option (List (List Rec))). option_and_then (meaning_onto shape d gs c) (option_map flat x)) (each_one
    (records_in d) b) ∙ at (records_in d b)
  where
    at : (o : Option (List Rec)) → option_and_then (meaning_onto shape d gs c) (option_map flat (option_map (λ y. y ∷ []) o)) ≡ option_and_then
        (meaning_onto shape d gs c) o
    at None = refl
    at (Some rs) = ap (meaning_onto shape d gs c) (append-nil rs)

pub joined_found : (shape : Shape) (m d t : ℕ) (v : FieldView) (old : Option Val) (r : Rec) (b : List ℕ) (after : Content) → v.kind ≡ kinds.Message t
    → v.cardinality ≡ Singular → m ≡ suc d
    → bytes_of r ≡ Some b → onto_with shape d d (fields_of shape t) (message_held old) b ≡ Some after
    → value_onto shape (onto_at shape m) (field_like v) old (r ∷ []) ≡ Some (Some (message after))
joined_found shape m d t v old r b after kind once deep bytes e =
    ap (λ (x : ℕ). value_onto shape (onto_at shape x) (field_like v) old (r ∷ [])) deep ∙ these
    ∙ ap (option_and_then (joined_onto (onto_at shape (suc d)) (fields_of shape t) old)) (each_one bytes_of r ∙ ap (option_map (λ y. y ∷ [])) bytes)
    ∙ ap (option_map (λ c. Some (message c))) (one_onto shape d (fields_of shape t) (message_held old) b ∙ e)
  where
    these : value_onto shape (onto_at shape (suc d)) (field_like v) old (r ∷ [])
        ≡ option_and_then (joined_onto (onto_at shape (suc d)) (fields_of shape t) old) (each bytes_of (r ∷ []))
    these = rw (kind, once) refl

shown_more : (shape : Shape) (k : Kind) (es : List Val) (v : Val)
    → shown shape false k (Some (many (vals_of (es ++ v ∷ [])))) ≡ Some (many (vals_of (es ++ v ∷ [])))
shown_more shape k [] v = refl
shown_more shape k (w ∷ es) v = refl

pub added_found : (shape : Shape) (m d t : ℕ) (v : FieldView) (old : Option Val) (r : Rec) (b : List ℕ) (after : Content) → v.kind ≡ kinds.Message t
    → v.cardinality ≡ Repeated → m ≡ suc d
    → bytes_of r ≡ Some b → onto_with shape d d (fields_of shape t) empty b ≡ Some after
    → value_onto shape (onto_at shape m) (field_like v) old (r ∷ []) ≡ Some (Some (many (vals_of (elements old ++ message after ∷ []))))
added_found shape m d t v old r b after kind list deep bytes e =
    ap (λ (x : ℕ). value_onto shape (onto_at shape x) (field_like v) old (r ∷ [])) deep ∙ these
    ∙ ap (option_map (λ vs. shown shape false (kinds.Message t) (Some (many (vals_of (elements old ++ flat vs)))))) (each_one (spread shape (from_empty
    (onto_at shape (suc d))) (kinds.Message t)) r
    ∙ ap (λ (x : Option (List ℕ)). option_map (λ y. y ∷ []) (one (option_and_then (λ p. option_map message (onto_at shape (suc d) (fields_of shape t) empty
    (p ∷ []))) x))) bytes
    ∙ ap (λ (x : Option Content). option_map (λ y. y ∷ []) (one (option_map message x))) (one_onto shape d (fields_of shape t) empty b ∙ e))
    ∙ ap (λ (x : Option Val). Some x) (shown_more shape (kinds.Message t) (elements old) (message after))
  where
    these : value_onto shape (onto_at shape (suc d)) (field_like v) old (r ∷ [])
        ≡ option_map (λ vs. shown shape false (kinds.Message t) (Some (many (vals_of (elements old ++ flat vs))))) (each (spread shape (from_empty
        (onto_at shape (suc d))) (kinds.Message t)) (r ∷ []))
    these = rw (kind, list) refl

-- ---- faults

pub alone_breaks : (shape : Shape) (groups m : ℕ) (v : FieldView) (at end : ℕ) (r : Rec) (e : DecodeError) → v.cardinality ≡ Singular
    → (e ≡ errors.NoMemory) ⊎ AloneFails v.kind at r e → (e ≡ errors.NoMemory) ⊎ ValueFails shape groups m (field_like v) at end r e
alone_breaks shape groups m v at end r e once (inl none) = inl none
alone_breaks shape groups m v at end r e once (inr (inl (is, other))) =
    inr (inl (errors.WireType 0, (refl, rw once other), is ∙ ap errors.WireType (omega arith)))
alone_breaks shape groups m v at end r e once (inr (inr (is, text, payload))) =
    inr (inl (errors.Utf8 0, (refl, rw (once, text) refl, payload), is ∙ ap errors.Utf8 (omega arith)))

pub spread_breaks : (shape : Shape) (groups m : ℕ) (v : FieldView) (at end : ℕ) (r : Rec) (e : DecodeError) → v.cardinality ≡ Repeated
    → (e ≡ errors.NoMemory) ⊎ SpreadFails v.kind at r e → (e ≡ errors.NoMemory) ⊎ ValueFails shape groups m (field_like v) at end r e
spread_breaks shape groups m v at end r e list (inl none) = inl none
spread_breaks shape groups m v at end r e list (inr (inl (inl (is, other), unpacked))) =
    inr (inl (errors.WireType 0, (refl, rw (list, other) (by (is_packable v.kind) unpacked)), is ∙ ap errors.WireType (omega arith)))
  where
    by : (b : Bool) → (b ≡ true → bytes_of r ≡ None) → b && (wire_type_of r == 2) ≡ false
    by false h = refl
    by true h = no_bytes r (sym (h refl))
spread_breaks shape groups m v at end r e list (inr (inl (inr (is, text, payload), unpacked))) =
    inr (inl (errors.Utf8 0, (refl, rw (list, text) refl, payload), is ∙ ap errors.Utf8 (omega arith)))
spread_breaks shape groups m v at end r e list (inr (inr (packs, (b, bytes, inl (is, long))))) =
    inr (inl (errors.Varint 0, (refl, rw list packs, (b, bytes, long)), is ∙ ap errors.Varint (omega arith)))
spread_breaks shape groups m v at end r e list (inr (inr (packs, (b, bytes, inr (is, ends))))) =
    inr (inl (errors.Underflow 0, (refl, rw list packs, (b, bytes, ends)), is ∙ ap errors.Underflow (omega arith)))

pub joined_reads : (t : ℕ) (c : Cardinality) (k : Kind) → k ≡ kinds.Message t → c ≡ Singular → (w : ℕ) → (w == 2) ≡ false → reads c k w ≡ false
joined_reads t c k kind once w e = rw (kind, once) e

pub added_reads : (t : ℕ) (c : Cardinality) (k : Kind) → k ≡ kinds.Message t → c ≡ Repeated → (w : ℕ) → (w == 2) ≡ false → reads c k w ≡ false
added_reads t c k kind list w e = rw (kind, list, e) refl

pub joined_inside : (shape : Shape) (t : ℕ) (c : Cardinality) (k : Kind) → k ≡ kinds.Message t → c ≡ Singular
    → payload_fields shape c k ≡ Some (fields_of shape t)
joined_inside shape t c k kind once = rw (kind, once) refl

pub added_inside : (shape : Shape) (t : ℕ) (c : Cardinality) (k : Kind) → k ≡ kinds.Message t → c ≡ Repeated
    → payload_fields shape c k ≡ Some (fields_of shape t)
added_inside shape t c k kind list = rw (kind, list) refl

-- what the payload breaks, the record breaks as one of the field
pub payload_breaks : (shape : Shape) (groups m : ℕ) (v : FieldView) (at end : ℕ) (r : Rec) (gs : List FieldShape) (e : DecodeError)
    → ((groups ≡ 0) ↔ (m ≡ 0)) → ((w : ℕ) → (w == 2) ≡ false → reads v.cardinality v.kind w ≡ false) → payload_fields shape v.cardinality v.kind ≡ Some gs
    → (e ≡ errors.NoMemory) ⊎ PayloadFails shape m gs at end r e → (e ≡ errors.NoMemory) ⊎ ValueFails shape groups m (field_like v) at end r e
payload_breaks shape groups m v at end r gs e left wrong inside (inl none) = inl none
payload_breaks shape groups m v at end r gs e left wrong inside (inr (inl (is, none))) =
    inr (inl (errors.WireType 0, (refl, wrong (wire_type_of r) (no_bytes r (sym none))), is ∙ ap errors.WireType (omega arith)))
payload_breaks shape groups m v at end r gs e left wrong inside (inr (inr (inl (b, is, none, bytes)))) =
    inr (inl (errors.TooDeep 0, (refl, left.1 none, ap is_some inside, (b, bytes, tt)), is ∙ ap errors.TooDeep (omega arith)))
payload_breaks shape groups m v at end r gs e left wrong inside (inr (inr (inr (d, b, own, deep, bytes, first, is)))) =
    inr (inr (d, gs, b, own, deep, inside, bytes, first, is))

-- what is told of the payload
pub payload_told : (shape : Shape) (m d : ℕ) (at end : ℕ) (r : Rec) (gs : List FieldShape) (b : List ℕ) (e : DecodeError) → m ≡ suc d
    → bytes_of r ≡ Some b → IsToldAt (end - length b) (IsFirstWith shape d d gs b) e → (e ≡ errors.NoMemory) ⊎ PayloadFails shape m gs at end r e
payload_told shape m d at end r gs b e deep bytes (inl none) = inl none
payload_told shape m d at end r gs b e deep bytes (inr (own, first, is)) = inr (inr (inr (d, b, own, deep, bytes, first, is)))

-- ---- calls

pub ok_more : {T E : Type 0} {P Q : T → Type 0} (r : Result T E) → ((x : T) → P x → Q x) → IfOk r P → IfOk r Q
ok_more (Ok x) f h = f x h
ok_more (Err e) f h = tt

pub err_more : {T E : Type 0} {P Q : E → Type 0} (r : Result T E) → ((e : E) → P e → Q e) → IfErr r P → IfErr r Q
err_more (Ok x) f h = tt
err_more (Err e) f h = f e h
