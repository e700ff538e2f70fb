-- A field is read as one with the same to be asked for.
use Rattle.std.proofs.Common.{◌≡◌, ℕ, Bool, true, false, if◌then◌else◌, List, Option, Some, None, option_map, refl, sym, ap, ◌∙◌}
use Rattle.pbx_wire.specs.declared.rec.Rec.{Rec}
use Rattle.pbx_wire.specs.declared.error.DecodeError.{DecodeError}
use Rattle.pbx_wire.specs.declared.error.DecodeError.TheVariants as errors
use Rattle.pbx_content.specs.declared.shape.Cardinality.{Cardinality}
use Rattle.pbx_content.specs.declared.shape.Cardinality.TheVariants.{Singular, Repeated, Map}
use Rattle.pbx_content.specs.declared.shape.Shape.{Shape}
use Rattle.pbx_content.specs.declared.shape.FieldShape.{FieldShape}
use Rattle.pbx_content.specs.Content.{Fields, no_fields, field, Val}
use Rattle.pbx_content.specs.Records.{each, last_of}
use Rattle.pbx_content.specs.Shape.{field_of, is_float, is_other}
use Rattle.pbx_content.specs.Meaning.{no_inner, alone}
use Rattle.pbx_content.specs.Onto.{InnerOnto, latest, singular_onto, onto_by_cardinality, value_onto}
use Rattle.pbx_content.specs.Faults.{RecBreaks}
use Rattle.pbx_content.specs.Laws.{AreFieldsOf}
use Rattle.pbx_content.proofs.OntoSplits.{is_plain, no_plain}
use Rattle.pbx_content.proofs.OntoLaw.{plain_onto}
use Rattle.std.proofs.Common.{inl, inr}
use Rattle.pbx_content_codec.specs.declared.fields.FieldView.{FieldView}
use Rattle.pbx_content_codec.specs.declared.fields.Owner.{Owner}
use Rattle.pbx_content_codec.specs.declared.fields.Owner.TheVariants as owners
use Rattle.pbx_content_codec.specs.Fields.{view_of, field_like, fields_at}
use Rattle.pbx_content_codec.specs.Merging.{is_rival_to, without_rivals, ValueFails}

-- ---- what is found

pub found_view : (o : Option FieldShape) (v : FieldView) → Some v ≡ option_map view_of o → (f : FieldShape) × (o ≡ Some f) × (v ≡ view_of f)
found_view None v e = absurd cc
found_view (Some f) v e = (f, refl, cc)

pub no_view : (o : Option FieldShape) → None ≡ option_map view_of o → o ≡ None
no_view None e = refl
no_view (Some f) e = absurd cc

pub fields_are : (shape : Shape) (owner : Owner) → AreFieldsOf shape (fields_at shape owner)
fields_are shape (owners.Type t) = inl (t, refl)
fields_are shape (owners.Entry key value) = inr (key, value, refl)

-- ---- rivals

pub no_rival : (v : FieldView) (o : Option FieldShape) → None ≡ option_map view_of o → false ≡ is_rival_to (field_like v) o
no_rival v None e = refl
no_rival v (Some f) e = absurd cc

pub rival_found : (v w : FieldView) (o : Option FieldShape) → Some w ≡ option_map view_of o
    → is_other (field_like w) (field_like v) ≡ is_rival_to (field_like v) o
rival_found v w None e = absurd cc
rival_found v w (Some f) e = let is : w ≡ view_of f = cc in ap (λ (x : FieldView). is_other (field_like x) (field_like v)) is

rival_like : (f : FieldShape) (o : Option FieldShape) → is_rival_to (field_like (view_of f)) o ≡ is_rival_to f o
rival_like f None = refl
rival_like f (Some g) = refl

pub rivals_like : (gs : List FieldShape) (f : FieldShape) (fs : Fields) → without_rivals gs (field_like (view_of f)) fs ≡ without_rivals gs f fs
rivals_like gs f no_fields = refl
rivals_like gs f (field m v fs) =
    ap (λ b. if b then without_rivals gs (field_like (view_of f)) fs else field m v (without_rivals gs (field_like (view_of f)) fs)) (rival_like f
    (field_of m gs))
    ∙ ap (λ (x : Fields). if is_rival_to f (field_of m gs) then x else field m v x) (rivals_like gs f fs)

-- ---- values

latest_like : (shape : Shape) (f : FieldShape) (old o : Option Val) → latest shape (field_like (view_of f)) old o ≡ latest shape f old o
latest_like shape f old None = refl
latest_like shape f old (Some v) = refl

single_like : (shape : Shape) (inner : InnerOnto) (f : FieldShape) (old : Option Val) (rs : List Rec)
    → singular_onto shape inner (field_like (view_of f)) f.kind old rs ≡ singular_onto shape inner f f.kind old rs
single_like shape inner f old rs = at (is_plain f.kind) refl
  where
    by : (o : Option (List Val)) → option_map (λ vs. latest shape (field_like (view_of f)) old (last_of vs)) o ≡ option_map (λ vs. latest shape f old
        (last_of vs)) o
    by None = refl
    by (Some vs) = ap (λ (x : Option Val). Some x) (latest_like shape f old (last_of vs))

    at : (b : Bool) → is_plain f.kind ≡ b → singular_onto shape inner (field_like (view_of f)) f.kind old rs ≡ singular_onto shape inner f f.kind old rs
    at true p =
        plain_onto shape inner (field_like (view_of f)) f.kind old rs p ∙ by (each (alone shape no_inner f.kind) rs)
        ∙ sym (plain_onto shape inner f f.kind old rs p)
    at false p = let m = no_plain f.kind p in rw m.1 refl

cardinality_like : (shape : Shape) (inner : InnerOnto) (f : FieldShape) (c : Cardinality) (old : Option Val) (rs : List Rec)
    → onto_by_cardinality shape inner (field_like (view_of f)) c old rs ≡ onto_by_cardinality shape inner f c old rs
cardinality_like shape inner f Singular old rs = single_like shape inner f old rs
cardinality_like shape inner f Repeated old rs = refl
cardinality_like shape inner f (Map key) old rs = refl

pub value_like : (shape : Shape) (inner : InnerOnto) (f : FieldShape) (old : Option Val) (rs : List Rec)
    → value_onto shape inner (field_like (view_of f)) old rs ≡ value_onto shape inner f old rs
value_like shape inner f old rs = at (is_float f.kind)
  where
    at : (b : Bool)
        → (if b then Some None else onto_by_cardinality shape inner (field_like (view_of f)) f.cardinality old rs)
        ≡ (if b then Some None else onto_by_cardinality shape inner f f.cardinality old rs)
    at true = refl
    at false = cardinality_like shape inner f f.cardinality old rs

-- ---- faults

breaks_like : (shape : Shape) (groups : ℕ) (f : FieldShape) (r : Rec) (e : DecodeError) → RecBreaks shape groups (field_like (view_of f)) r e
    → RecBreaks shape groups f r e
breaks_like shape groups f r (errors.Varint at) h = h
breaks_like shape groups f r (errors.Key at) h = h
breaks_like shape groups f r (errors.WireType at) h = h
breaks_like shape groups f r (errors.Underflow at) h = h
breaks_like shape groups f r (errors.Utf8 at) h = h
breaks_like shape groups f r (errors.EndGroup at) h = h
breaks_like shape groups f r (errors.TooDeep at) h = h
breaks_like shape groups f r errors.NoMemory h = h

pub fails_like : (shape : Shape) (groups messages : ℕ) (f : FieldShape) (at end : ℕ) (r : Rec) (e : DecodeError)
    → ValueFails shape groups messages (field_like (view_of f)) at end r e → ValueFails shape groups messages f at end r e
fails_like shape groups messages f at end r e (inl h) = inl (h.0, breaks_like shape groups f r h.0 h.1, h.2)
fails_like shape groups messages f at end r e (inr h) = inr h
