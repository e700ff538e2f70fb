-- Settling moves kept records alone: a content without any is the same as no other one.
use Rattle.std.proofs.Common.{◌≡◌, ℕ, Bool, true, false, if◌then◌else◌, nat_lt, List, [], ◌∷◌, refl, sym, ◌∙◌, subst}
use Rattle.pbx_wire.specs.declared.rec.Rec.{Rec}
use Rattle.pbx_content.specs.declared.shape.Shape.{Shape}
use Rattle.pbx_content.specs.declared.shape.FieldShape.{FieldShape}
use Rattle.pbx_content.specs.Content.{Content, content, Fields, no_fields, field, Val, number, truth, text, octets, message, many, keyed, Vals, no_vals, val}
use Rattle.pbx_content.specs.Content.{Pairs, no_pairs, pair}
use Rattle.pbx_content.specs.Records.{number_of, insert, sorted}
use Rattle.pbx_content.specs.Shape.{fields_of, keeps_order_of, field_of}
use Rattle.pbx_content.specs.Same.{settled_kept, type_in, settled, settled_fields, settled_val, settled_vals, settled_pairs, Same}
use Rattle.pbx_json_payload_laws.specs.Inside.{HasNoKept, FieldsHaveNoKept, ValHasNoKept, ValsHaveNoKept, PairsHaveNoKept}

-- ---- a content without kept records is settled

none_settled : (keeps_order : Bool) (ks : List Rec) → ks ≡ [] → settled_kept keeps_order ks ≡ ks
none_settled true ks e = refl
none_settled false ks e = rw e refl

mutual
  pub is_settled : (shape : Shape) (t : ℕ) (c : Content) → HasNoKept c → settled shape t c ≡ c
  is_settled shape t (content fs ks) h =
      rw (fields_settled shape (fields_of shape t) fs h.0, none_settled (keeps_order_of shape t) ks h.1) refl

  fields_settled : (shape : Shape) (gs : List FieldShape) (fs : Fields) → FieldsHaveNoKept fs → settled_fields shape gs fs ≡ fs
  fields_settled shape gs no_fields h = refl
  fields_settled shape gs (field n v fs) h = rw (val_settled shape (type_in (field_of n gs)) v h.0, fields_settled shape gs fs h.1) refl

  val_settled : (shape : Shape) (t : ℕ) (v : Val) → ValHasNoKept v → settled_val shape t v ≡ v
  val_settled shape t (number z) h = refl
  val_settled shape t (truth b) h = refl
  val_settled shape t (text s) h = refl
  val_settled shape t (octets b) h = refl
  val_settled shape t (message c) h = rw (is_settled shape t c h) refl
  val_settled shape t (many vs) h = rw (vals_settled shape t vs h) refl
  val_settled shape t (keyed ps) h = rw (pairs_settled shape t ps h) refl

  vals_settled : (shape : Shape) (t : ℕ) (vs : Vals) → ValsHaveNoKept vs → settled_vals shape t vs ≡ vs
  vals_settled shape t no_vals h = refl
  vals_settled shape t (val v vs) h = rw (val_settled shape t v h.0, vals_settled shape t vs h.1) refl

  pairs_settled : (shape : Shape) (t : ℕ) (ps : Pairs) → PairsHaveNoKept ps → settled_pairs shape t ps ≡ ps
  pairs_settled shape t no_pairs h = refl
  pairs_settled shape t (pair k v ps) h = rw (val_settled shape t v h.0, pairs_settled shape t ps h.1) refl

-- ---- settling drops no kept record

some_inserted : (r : Rec) (ss : List Rec) → insert r ss ≡ [] → ⊥
some_inserted r [] e = cc
some_inserted r (s ∷ ss) e = at (nat_lt (number_of s) (number_of r)) e
  where
    at : (b : Bool) → (if b then s ∷ insert r ss else r ∷ s ∷ ss) ≡ [] → ⊥
    at true e = cc
    at false e = cc

none_before : (keeps_order : Bool) (ks : List Rec) → settled_kept keeps_order ks ≡ [] → ks ≡ []
none_before true ks e = e
none_before false [] e = refl
none_before false (k ∷ ks) e = absurd (some_inserted k (sorted ks) e)

mutual
  pub had_none : (shape : Shape) (t : ℕ) (c : Content) → HasNoKept (settled shape t c) → HasNoKept c
  had_none shape t (content fs ks) h = (fields_had_none shape (fields_of shape t) fs h.0, none_before (keeps_order_of shape t) ks h.1)

  fields_had_none : (shape : Shape) (gs : List FieldShape) (fs : Fields) → FieldsHaveNoKept (settled_fields shape gs fs) → FieldsHaveNoKept fs
  fields_had_none shape gs no_fields h = tt
  fields_had_none shape gs (field n v fs) h = (val_had_none shape (type_in (field_of n gs)) v h.0, fields_had_none shape gs fs h.1)

  val_had_none : (shape : Shape) (t : ℕ) (v : Val) → ValHasNoKept (settled_val shape t v) → ValHasNoKept v
  val_had_none shape t (number z) h = tt
  val_had_none shape t (truth b) h = tt
  val_had_none shape t (text s) h = tt
  val_had_none shape t (octets b) h = tt
  val_had_none shape t (message c) h = had_none shape t c h
  val_had_none shape t (many vs) h = vals_had_none shape t vs h
  val_had_none shape t (keyed ps) h = pairs_had_none shape t ps h

  vals_had_none : (shape : Shape) (t : ℕ) (vs : Vals) → ValsHaveNoKept (settled_vals shape t vs) → ValsHaveNoKept vs
  vals_had_none shape t no_vals h = tt
  vals_had_none shape t (val v vs) h = (val_had_none shape t v h.0, vals_had_none shape t vs h.1)

  pairs_had_none : (shape : Shape) (t : ℕ) (ps : Pairs) → PairsHaveNoKept (settled_pairs shape t ps) → PairsHaveNoKept ps
  pairs_had_none shape t no_pairs h = tt
  pairs_had_none shape t (pair k v ps) h = (val_had_none shape t v h.0, pairs_had_none shape t ps h.1)

-- A content that is the same as one without kept records is that one.
pub same_is_equal : (shape : Shape) (t : ℕ) (c d : Content) → HasNoKept c → Same shape t d c → d ≡ c
same_is_equal shape t c d none same =
    let is : settled shape t d ≡ c = same ∙ is_settled shape t c none in
    sym (is_settled shape t d (had_none shape t d (subst HasNoKept (sym is) none))) ∙ is
