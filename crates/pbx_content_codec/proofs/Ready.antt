-- Contents that no records change, and what one record more changes in them.
use Rattle.std.proofs.Common.{◌≡◌, ℕ, zero, suc, Bool, true, false, if◌then◌else◌, List, [], ◌∷◌, ◌++◌, Option, Some, None, option_map, refl, sym, ap, ◌∙◌, subst, arith}
use Rattle.std.specs.Prelude.{◌⊎◌, option_and_then}
use Rattle.std.proofs.Common.{inl, inr}
use Rattle.std.specs.List.{filter}
use Rattle.pbx_wire.specs.declared.rec.Rec.{Rec}
use Rattle.pbx_wire.specs.declared.error.DecodeError.{DecodeError}
use Rattle.pbx_wire.specs.declared.error.DecodeError.TheVariants as errors
use Rattle.pbx_content.specs.declared.shape.Kind.TheVariants as kinds
use Rattle.pbx_content.specs.declared.shape.Cardinality.TheVariants.{Singular}
use Rattle.pbx_content.specs.declared.shape.Shape.{Shape}
use Rattle.pbx_content.specs.declared.shape.FieldShape.{FieldShape}
use Rattle.pbx_content.specs.Content.{Content, content, empty, fields, kept, Fields, Val, get, message, without, with_fields}
use Rattle.pbx_content.specs.Records.{number_of, bytes_of, those_of, each, any, after_last, records_in}
use Rattle.pbx_content.specs.Shape.{fields_of, field_of, is_float, is_kept, is_rival}
use Rattle.pbx_content.specs.Meaning.{value, records_of}
use Rattle.pbx_content.specs.Onto.{message_held, still, from_empty, joined_onto, value_onto, values_onto, meaning_onto}
use Rattle.pbx_content.specs.Sound.{IsProper}
use Rattle.pbx_content.specs.Laws.{AreFieldsOf, IsStableIn}
use Rattle.pbx_content.proofs.OntoFields.{AreAbove, values_got}
use Rattle.pbx_content.proofs.OntoLaw.{onto_at, onto_is, unbound}
use Rattle.pbx_content.proofs.OntoOne.{empty_is_stable, onto_is_stable}
use Rattle.pbx_content.proofs.OntoAppends.{onto_appends}
use Rattle.pbx_content.proofs.FaultyLaw.{are_above}
use Rattle.pbx_content.proofs.FaultyFirst.{found_number}
use Rattle.pbx_content_codec.specs.declared.fields.FieldView.{FieldView}
use Rattle.pbx_content_codec.specs.declared.fields.Owner.{Owner}
use Rattle.pbx_content_codec.specs.Fields.{view_of, field_like, fields_at}
use Rattle.pbx_content_codec.specs.Merging.{put_option, without_rivals, kept_more, onto_with, HasOrdered, ValueFails, RecFails}
use Rattle.pbx_content_codec.specs.Stability.{IsStableTo, HasStable, IsReady, IsStabilizedUnless}
use Rattle.pbx_content.specs.Onto.{pairs_held}
use Rattle.pbx_content_codec.specs.Keyed.{AreInOrder}
use Rattle.pbx_content_codec.proofs.Keyed.{ordered_held}
use Rattle.pbx_content_codec.proofs.Likeness.{found_view, no_view, fields_are, rivals_like, value_like, fails_like}
use Rattle.pbx_content_codec.proofs.Step.{got_one, are_stable, among_nothing, IsOf, IsUnread, field_step, kept_step}

-- ---- messages inside

payloads_stay : (shape : Shape) (d : ℕ) (hs : List FieldShape) (old new : Content) (bs : List (List ℕ))
    → ((x y : Content) (rs : List Rec) → IsStableTo shape d hs x → meaning_onto shape d hs x rs ≡ Some y → IsStableTo shape d hs y)
    → IsStableTo shape d hs old → onto_at shape (suc d) hs old bs ≡ Some new → IsStableTo shape d hs new
unfolding onto_at
payloads_stay shape d hs old new bs more h e = at (records_of d bs) e
  where
    at : (o : Option (List Rec)) → option_and_then (meaning_onto shape d hs old) o ≡ Some new → IsStableTo shape d hs new
    at None e = absurd cc
    at (Some rs) e = more old new rs h e

joined_stays : (shape : Shape) (d : ℕ) (hs : List FieldShape) (old o : Option Val) (a : Option (List (List ℕ)))
    → ((x y : Content) (rs : List Rec) → IsStableTo shape d hs x → meaning_onto shape d hs x rs ≡ Some y → IsStableTo shape d hs y)
    → IsStableTo shape d hs (message_held old) → option_and_then (joined_onto (onto_at shape (suc d)) hs old) a ≡ Some o
    → IsStableTo shape d hs (message_held o)
joined_stays shape d hs old o None more h e = absurd cc
joined_stays shape d hs old o (Some []) more h e =
    let is : old ≡ o = cc in
    subst (λ (x : Option Val). IsStableTo shape d hs (message_held x)) is h
joined_stays shape d hs old o (Some (b ∷ bs)) more h e = at (onto_at shape (suc d) hs (message_held old) (b ∷ bs)) refl e
  where
    at : (x : Option Content) → onto_at shape (suc d) hs (message_held old) (b ∷ bs) ≡ x → option_map (λ c. Some (message c)) x ≡ Some o
        → IsStableTo shape d hs (message_held o)
    at None q e = absurd cc
    at (Some c) q e =
        let is : Some (message c) ≡ o = cc in
        subst (λ (x : Option Val). IsStableTo shape d hs (message_held x)) is (payloads_stay shape d hs (message_held old) c (b ∷ bs) more h q)

value_got : (shape : Shape) (m : ℕ) (gs : List FieldShape) (c d : Content) (rs : List Rec) (f : FieldShape) → AreAbove 0 gs → field_of f.number gs ≡ Some f
    → meaning_onto shape m gs c rs ≡ Some d
    → value_onto shape (onto_at shape m) f (still gs f rs (get f.number (fields c))) (those_of f.number (after_last (is_rival gs f) rs))
    ≡ Some (get f.number (fields d))
value_got shape m gs c (content fs ks) rs f above l e = at (values_onto shape (onto_at shape m) gs gs (fields c) rs) refl (sym (onto_is shape m gs c rs) ∙ e)
  where
    at : (x : Option Fields) → values_onto shape (onto_at shape m) gs gs (fields c) rs ≡ x
        → option_map (λ vs. content vs (kept c ++ filter (is_kept gs) rs)) x ≡ Some (content fs ks)
        → value_onto shape (onto_at shape m) f (still gs f rs (get f.number (fields c))) (those_of f.number (after_last (is_rival gs f) rs))
        ≡ Some (get f.number fs)
    at None d e = absurd cc
    at (Some vs) d e =
        let is : vs ≡ fs = cc in
        let same : values_onto shape (onto_at shape m) gs gs (fields c) rs ≡ Some fs = d ∙ ap (λ (x : Fields). Some x) is in
        let got = got_one shape (onto_at shape m) gs (fields c) rs fs gs f.number f (values_got shape
        (onto_at shape m) gs (fields c) rs 0 gs fs above same) l in
        (unbound (value shape (from_empty (onto_at shape m)) f (those_of f.number rs)) (value_onto shape (onto_at shape m) f
        (still gs f rs (get f.number (fields c))) (those_of f.number (after_last (is_rival gs f) rs)))
        (get f.number fs) got).1

pub empty_stays : (shape : Shape) (m : ℕ) (gs : List FieldShape) → IsStableTo shape m gs empty
unfolding IsStableTo
empty_stays shape zero gs = empty_is_stable shape zero gs
empty_stays shape (suc m) gs = (empty_is_stable shape (suc m) gs, λ f t l once kind. empty_stays shape m (fields_of shape t))

still_stays : (shape : Shape) (d : ℕ) (hs gs : List FieldShape) (f : FieldShape) (rs : List Rec) (old : Option Val)
    → IsStableTo shape d hs (message_held old) → IsStableTo shape d hs (message_held (still gs f rs old))
still_stays shape d hs gs f rs old h = at (any (is_rival gs f) rs)
  where
    at : (b : Bool) → IsStableTo shape d hs (message_held (if b then None else old))
    at true = empty_stays shape d hs
    at false = h

inner_stays : (shape : Shape) (m : ℕ) (gs : List FieldShape) (c d : Content) (rs : List Rec) (f : FieldShape) (t : ℕ) → AreAbove 0 gs
    → field_of f.number gs ≡ Some f → f.cardinality ≡ Singular → f.kind ≡ kinds.Message t
    → ((x y : Content) (ss : List Rec) → IsStableTo shape m (fields_of shape t) x → meaning_onto shape m (fields_of shape t) x ss ≡ Some y
    → IsStableTo shape m (fields_of shape t) y)
    → IsStableTo shape m (fields_of shape t) (message_held (get f.number (fields c))) → meaning_onto shape (suc m) gs c rs ≡ Some d
    → IsStableTo shape m (fields_of shape t) (message_held (get f.number (fields d)))
inner_stays shape m gs c d rs f t above l once kind more h e =
    let was : Option Val = still gs f rs (get f.number (fields c)) in
    let counting : List Rec = those_of f.number (after_last (is_rival gs f) rs) in
    joined_stays shape m (fields_of shape t) was (get f.number (fields d)) (each bytes_of counting) more
    (still_stays shape m (fields_of shape t) gs f rs (get f.number (fields c)) h)
    (single was counting ∙ value_got shape (suc m) gs c d rs f above l e)
  where
    single : (was : Option Val) (counting : List Rec)
        → option_and_then (joined_onto (onto_at shape (suc m)) (fields_of shape t) was) (each bytes_of counting)
        ≡ value_onto shape (onto_at shape (suc m)) f was counting
    single was counting = rw (kind, once) refl

-- what records mean behind a content that stays, stays
stays_more : (shape : Shape) (m : ℕ) (gs : List FieldShape) (c d : Content) (rs : List Rec) → IsProper shape → AreFieldsOf shape gs
    → IsStableTo shape m gs c → meaning_onto shape m gs c rs ≡ Some d → IsStableTo shape m gs d
unfolding IsStableTo
stays_more shape zero gs c d rs proper are h e = onto_is_stable shape zero gs c d rs proper are e
stays_more shape (suc m) gs c d rs proper are h e = (
  onto_is_stable shape (suc m) gs c d rs proper are e,
  λ f t l once kind. inner_stays shape m gs c d rs f t (are_above shape proper gs are) l once kind
      (λ x y ss k q. stays_more shape m (fields_of shape t) x y ss proper (inl (t, refl)) k q) (h.1 f t l once kind) e,
)

inner_held : (shape : Shape) (m d t : ℕ) (gs : List FieldShape) (c : Content) (f : FieldShape) → m ≡ suc d → field_of f.number gs ≡ Some f
    → f.cardinality ≡ Singular → f.kind ≡ kinds.Message t → IsStableTo shape m gs c
    → IsStableTo shape d (fields_of shape t) (message_held (get f.number (fields c)))
unfolding IsStableTo
inner_held shape zero d t gs c f deep l once kind h = absurd (omega arith)
inner_held shape (suc m) d t gs c f deep l once kind h =
    let same : m ≡ d = omega arith in
    subst (λ (x : ℕ). IsStableTo shape x (fields_of shape t) (message_held (get f.number (fields c)))) same (h.1 f t l once kind)

-- ---- contents that are ready

pub stable_first : (shape : Shape) (m : ℕ) (gs : List FieldShape) (c : Content) → IsStableTo shape m gs c → IsStableIn shape m gs c
unfolding IsStableTo
stable_first shape zero gs c h = h
stable_first shape (suc m) gs c h = h.0

pub nothing_ready : (stable : Bool) (shape : Shape) (m : ℕ) (gs : List FieldShape) → IsReady stable shape m gs empty
nothing_ready stable shape m gs = (empty_is_stable shape m gs, λ s. empty_stays shape m gs)

pub ready_more : (stable : Bool) (shape : Shape) (m : ℕ) (gs : List FieldShape) (c d : Content) (rs : List Rec) → IsProper shape → AreFieldsOf shape gs
    → IsReady stable shape m gs c → meaning_onto shape m gs c rs ≡ Some d → IsReady stable shape m gs d
ready_more stable shape m gs c d rs proper are h e =
    (onto_is_stable shape m gs c d rs proper are e, λ s. stays_more shape m gs c d rs proper are (h.1 s) e)

-- behind a content and behind what no records leave of it records mean the same
pub ready_unless : (stable : Bool) (shape : Shape) (m : ℕ) (gs : List FieldShape) (old new : Content) → IsProper shape → AreFieldsOf shape gs
    → (stable ≡ true → IsStableTo shape m gs old) → IsStabilizedUnless stable shape gs old new
    → IsReady stable shape m gs new × ((rs : List Rec) → meaning_onto shape m gs new rs ≡ meaning_onto shape m gs old rs)
ready_unless true shape m gs old new proper are stable is =
    let all : IsStableTo shape m gs new = subst (IsStableTo shape m gs) (sym is) (stable refl) in
    ((stable_first shape m gs new all, λ s. all), λ rs. ap (λ (x : Content). meaning_onto shape m gs x rs) is)
ready_unless false shape m gs old new proper are stable is = (
  (onto_is_stable shape m gs old new [] proper are (is m), λ s. absurd cc),
  λ rs. sym (onto_appends shape m gs old new [] rs proper are (is m)),
)

pub onto_unless : (stable : Bool) (shape : Shape) (groups m : ℕ) (gs : List FieldShape) (old new : Content) (bytes : List ℕ) → IsProper shape
    → AreFieldsOf shape gs → (stable ≡ true → IsStableTo shape m gs old) → IsStabilizedUnless stable shape gs old new
    → onto_with shape groups m gs old bytes ≡ onto_with shape groups m gs new bytes
onto_unless stable shape groups m gs old new bytes proper are stays is = at (records_in groups bytes)
  where
    at : (o : Option (List Rec)) → option_and_then (meaning_onto shape m gs old) o ≡ option_and_then (meaning_onto shape m gs new) o
    at None = refl
    at (Some rs) = sym ((ready_unless stable shape m gs old new proper are stays is).1 rs)

-- ---- one record

-- the field that was found
pub record IsFound (shape : Shape) (owner : Owner) (r : Rec) (v : FieldView) : Type 0 where
  pub f : FieldShape
  pub view : v ≡ view_of f
  pub of : IsOf (fields_at shape owner) r f
  pub own : field_of f.number (fields_at shape owner) ≡ Some f

pub found : (shape : Shape) (owner : Owner) (r : Rec) (v : FieldView) → IsProper shape
    → Some v ≡ option_map view_of (field_of (number_of r) (fields_at shape owner))
    → is_float v.kind ≡ false → IsFound shape owner r v
found shape owner r v proper e plain =
    let gs = fields_at shape owner in
    let t = found_view (field_of (number_of r) gs) v e in
    record {
      f = t.0;
      view = t.2;
      of = record {
        above = are_above shape proper gs (fields_are shape owner);
        listed = t.1;
        plain = ap (λ (x : FieldView). is_float x.kind) (sym t.2)
            ∙ plain;
      };
      own = ap (λ (n : ℕ). field_of n gs) (sym (found_number (number_of r) gs t.0 t.1)) ∙ t.1;
    }

pub has_stable : (stable : Bool) (shape : Shape) (m : ℕ) (owner : Owner) (c : Content) (r : Rec) (v : FieldView) (old : Option Val) → IsProper shape
    → Some v ≡ option_map view_of (field_of (number_of r) (fields_at shape owner)) → is_float v.kind ≡ false
    → IsReady stable shape m (fields_at shape owner) c → old ≡ get v.number (fields c) → HasStable stable shape m (field_like v) old
has_stable stable shape m owner c r v old proper e plain h is = λ t d once kind deep s.
    let f = found shape owner r v proper e plain in
    subst (λ (x : Option Val). IsStableTo shape d (fields_of shape t) (message_held x))
    (sym (is ∙ ap (λ (x : FieldView). get x.number (fields c)) f.view))
    (inner_held shape m d t (fields_at shape owner) c f.f deep f.own (sym (ap (λ (x : FieldView). x.cardinality) f.view) ∙ once)
    (sym (ap (λ (x : FieldView). x.kind) f.view) ∙ kind) (h.1 s))

pub field_merges : (stable : Bool) (shape : Shape) (m : ℕ) (owner : Owner) (c mid new : Content) (r : Rec) (v : FieldView) (old o : Option Val) → IsProper shape
    → Some v ≡ option_map view_of (field_of (number_of r) (fields_at shape owner)) → is_float v.kind ≡ false
    → IsReady stable shape m (fields_at shape owner) c → old ≡ get v.number (fields c)
    → mid ≡ with_fields c (without_rivals (fields_at shape owner) (field_like v) (without v.number (fields c)))
    → value_onto shape (onto_at shape m) (field_like v) old (r ∷ []) ≡ Some o
    → new ≡ with_fields mid (put_option v.number o (fields mid))
    → meaning_onto shape m (fields_at shape owner) c (r ∷ []) ≡ Some new
field_merges stable shape m owner c mid new r v old o proper e plain h is put gives ends =
    let gs = fields_at shape owner in
    let t = found shape owner r v proper e plain in
    let now : value_onto shape (onto_at shape m) t.f (get t.f.number (fields c)) (r ∷ []) ≡ Some o =
    sym (value_like shape (onto_at shape m) t.f (get t.f.number (fields c)) (r ∷ []))
    ∙ ap (λ (x : FieldView). value_onto shape (onto_at shape m) (field_like x) (get x.number (fields c)) (r ∷ [])) (sym t.view)
    ∙ ap (λ (x : Option Val). value_onto shape (onto_at shape m) (field_like v) x (r ∷ [])) (sym is) ∙ gives in
    let step = field_step shape m gs c r t.f o t.of h.0 now in
    let cleared : without_rivals gs (field_like v) (without v.number (fields c)) ≡ without_rivals gs t.f (without t.f.number (fields c)) =
    ap (λ (x : FieldView). without_rivals gs (field_like x) (without x.number (fields c))) t.view ∙ rivals_like gs t.f (without t.f.number (fields c)) in
    step ∙ ap (λ (x : Content). Some x) (sym (ends ∙ whole c mid (without_rivals gs (field_like v) (without v.number (fields c))) (without_rivals gs t.f
    (without t.f.number (fields c))) v.number t.f.number o put cleared
    (ap (λ (x : FieldView). x.number) t.view)))
  where
    whole : (c mid : Content) (a b : Fields) (n k : ℕ) (o : Option Val) → mid ≡ with_fields c a → a ≡ b → n ≡ k
        → with_fields mid (put_option n o (fields mid)) ≡ content (put_option k o b) (kept c)
    whole (content fs ks) mid a b n k o p q e = rw (p, q, e) refl

pub unread_merges : (stable : Bool) (shape : Shape) (m : ℕ) (owner : Owner) (c new : Content) (r : Rec) → IsProper shape
    → None ≡ option_map view_of (field_of (number_of r) (fields_at shape owner)) → IsReady stable shape m (fields_at shape owner) c → new ≡ kept_more c r
    → meaning_onto shape m (fields_at shape owner) c (r ∷ []) ≡ Some new
unread_merges stable shape m owner c new r proper e h is =
    let gs = fields_at shape owner in
    let none = no_view (field_of (number_of r) gs) e in
    let unread : IsUnread gs r = record {
      above = are_above shape proper gs (fields_are shape owner);
      floats = λ f l. absurd
          (let bad : None ≡ Some f = sym none ∙ l in cc);
    } in
    kept_step shape m gs c r unread h.0 ∙ ap (λ (x : Content). Some x) (sym is)

pub float_merges : (stable : Bool) (shape : Shape) (m : ℕ) (owner : Owner) (c new : Content) (r : Rec) (v : FieldView) → IsProper shape
    → Some v ≡ option_map view_of (field_of (number_of r) (fields_at shape owner)) → is_float v.kind ≡ true
    → IsReady stable shape m (fields_at shape owner) c → new ≡ kept_more c r
    → meaning_onto shape m (fields_at shape owner) c (r ∷ []) ≡ Some new
float_merges stable shape m owner c new r v proper e float h is =
    let gs = fields_at shape owner in
    let t = found_view (field_of (number_of r) gs) v e in
    let floats : (f : FieldShape) → field_of (number_of r) gs ≡ Some f → is_float f.kind ≡ true =
    λ f l. (let same : t.0 ≡ f = cc in ap (λ (x : FieldShape). is_float x.kind) (sym same) ∙ ap (λ (x : FieldView). is_float x.kind) (sym t.2) ∙ float) in
    kept_step shape m gs c r (record { above = are_above shape proper gs (fields_are shape owner); floats = floats }) h.0
    ∙ ap (λ (x : Content). Some x) (sym is)

pub rec_fails : (shape : Shape) (groups m : ℕ) (owner : Owner) (at end : ℕ) (r : Rec) (v : FieldView) (e : DecodeError) → IsProper shape
    → Some v ≡ option_map view_of (field_of (number_of r) (fields_at shape owner)) → is_float v.kind ≡ false
    → ValueFails shape groups m (field_like v) at end r e → RecFails shape groups m (fields_at shape owner) at end r e
rec_fails shape groups m owner at end r v e proper l plain h =
    let t = found shape owner r v proper l plain in (
      t.f,
      t.of.listed,
      t.of.plain,
      fails_like shape groups m t.f at end r e (subst (λ (x : FieldView). ValueFails shape groups m
          (field_like x) at end r e) t.view h),
    )

pub rec_told : (shape : Shape) (groups m : ℕ) (owner : Owner) (at end : ℕ) (r : Rec) (v : FieldView) (e : DecodeError) → IsProper shape
    → Some v ≡ option_map view_of (field_of (number_of r) (fields_at shape owner)) → is_float v.kind ≡ false
    → (e ≡ errors.NoMemory) ⊎ ValueFails shape groups m (field_like v) at end r e
    → (e ≡ errors.NoMemory) ⊎ RecFails shape groups m (fields_at shape owner) at end r e
rec_told shape groups m owner at end r v e proper l plain (inl none) = inl none
rec_told shape groups m owner at end r v e proper l plain (inr h) = inr (rec_fails shape groups m owner at end r v e proper l plain h)

pub has_ordered : (stable : Bool) (shape : Shape) (m : ℕ) (owner : Owner) (c : Content) (r : Rec) (v : FieldView) (old : Option Val) → IsProper shape
    → Some v ≡ option_map view_of (field_of (number_of r) (fields_at shape owner)) → is_float v.kind ≡ false
    → IsReady stable shape m (fields_at shape owner) c → old ≡ get v.number (fields c) → HasOrdered (field_like v) old
has_ordered stable shape m owner c r v old proper e plain h is = λ key map_is.
    let t = found shape owner r v proper e plain in
    let gs = fields_at shape owner in
    let stays = (are_stable shape m gs c t.of.above h.0).gives t.f.number t.f t.own in
    let ordered = ordered_held shape (onto_at shape m) t.f key (get t.f.number (fields c)) [] (get t.f.number (fields c)) t.of.plain
    (sym (ap (λ (x : FieldView). x.cardinality) t.view) ∙ map_is)
    (sym (among_nothing shape (onto_at shape m) gs t.f (get t.f.number (fields c))) ∙ stays) in
    subst (λ (x : Option Val). AreInOrder (pairs_held x)) (sym (is ∙ ap (λ (x : FieldView). get x.number (fields c)) t.view)) ordered
