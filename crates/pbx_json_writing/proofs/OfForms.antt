-- Messages of well-known types that are told by a value of their own.
use Rattle.std.proofs.Common.{◌≡◌, ◌⊎◌, inl, inr, ℕ, ◌+◌, ◌^◌, ◌<◌, ◌≤◌, ◌≤ℤ◌, ℤ, pos, negsuc, unsigned_abs, nat_le}
use Rattle.std.proofs.Common.{List, [], ◌∷◌, ◌++◌, map, length, take, get_or, Bool, true, false, ◌&&◌}
use Rattle.std.proofs.Common.{if◌then◌else◌, Option, Some, None, Result, Ok, Err, IfOk, IfErr, reverse, refl, sym, ap, subst, ◌∙◌, arith}
use lib.Signed.{le_z_yes}
use lib.Dec.{T}
use Rattle.std.specs.Prelude.{int_le}
use Rattle.std.specs.Int.{w32, w64}
use Rattle.std.specs.Int.RustNames.{FitsSigned}
use Rattle.std.proofs.lemmas.Bool.Decides.{nat_tests}
use Rattle.serde_json.specs.Data.{Data}
use Rattle.serde_json.specs.View.{view}
use Rattle.serde_json.specs.declared.value.Value.{Value}
use Rattle.pbx_wire.proofs.Written.{both}
use Rattle.pbx_content.specs.Content as content
use Rattle.pbx_content.specs.Content.{Content, Fields, Val, message, fields, kept, get, vals_of}
use Rattle.pbx_content.specs.Encoding.{type_of}
use Rattle.pbx_content.specs.Shape.{fields_of, field_of}
use Rattle.pbx_content.specs.Sound.{IsSoundAt}
use Rattle.pbx_content.specs.declared.shape.Kind.{Kind}
use Rattle.pbx_content.specs.declared.shape.Shape.{Shape}
use Rattle.pbx_content.specs.declared.shape.FieldShape.{FieldShape}
use Rattle.pbx_content.proofs.SoundValues.{get_sound}
use Rattle.pbx_content_codec.specs.View.{val_of}
use Rattle.pbx_content_codec.specs.declared.contents.Held.{Held}
use Rattle.pbx_text.specs.Decimal.{or_range}
use Rattle.pbx_text.specs.Timestamp.{is_timestamp_second, timestamp_text, timestamp_written}
use Rattle.pbx_text.specs.Duration.{is_duration_second, signs_agree, duration_text, duration_written}
use Rattle.pbx_text.specs.declared.fault.TextFault.{TextFault}
use Rattle.pbx_text.specs.declared.fault.TextFault.TheVariants.{Range, NoMemory as OutOfMemory}
use Rattle.pbx_wkt_types.specs.Shapes.{form_of}
use Rattle.pbx_wkt_types.specs.declared.form.Form.{Form}
use Rattle.pbx_wkt_types.specs.declared.form.Form.TheVariants as forms
use Rattle.pbx_json_meaning.specs.Asked.{one}
use Rattle.pbx_json_meaning.specs.Canonical.{tells, scalar_tree, form_tree, fields_tell}
use Rattle.pbx_json_meaning.specs.Faults.{SomeWith}
use Rattle.pbx_json_meaning.specs.Forms.{is_object_form, kind_in, kind_at, text_in, texts_of}
use Rattle.pbx_json_meaning.specs.Stands.{ok_of}
use Rattle.pbx_json_meaning.specs.WriteFaults.{WriteFaultAt, IsKeyFault, leaf, as_leaf, form_parts, parts_of, into_written}
use Rattle.pbx_json_meaning.specs.declared.kind.JsonKind.{JsonKind}
use Rattle.pbx_json_meaning.specs.Canonical.{Writing}
use Rattle.pbx_json_meaning.specs.declared.place.Step.{Step}
use Rattle.pbx_json_meaning.specs.declared.place.Step.TheVariants.{Key, Index}
use Rattle.pbx_json_writing.specs.Kinds.{is_scalar}
use Rattle.pbx_json_writing.specs.Refusals.{Holds, Refused, IsAnswer, IsTextRefused, IsHeldRefused, IsOutOfTime}
use Rattle.pbx_json_writing.specs.declared.refusal.Refusal.{Refusal}
use Rattle.pbx_json_writing.specs.declared.refusal.Refusal.TheVariants as refused
use Rattle.pbx_json_writing.proofs.Collected.{take_more, take_all, map-append}
use Rattle.pbx_json_writing.proofs.OfFields.{holds_field}
use Rattle.pbx_json_writing.proofs.Refusing.{Stops, refused_here}

-- ---- seconds and nanoseconds

in_order : (a b : ℤ) → int_le a b ≡ true → a ≤ℤ b
in_order a b h = le_z_yes (subst T (sym h) tt)

timestamp_fits : (z : ℤ) → is_timestamp_second z ≡ true → FitsSigned w64 z
timestamp_fits (pos n) h =
    let high : pos n ≤ℤ pos 253402300799 = in_order (pos n) (pos 253402300799) (both (int_le (negsuc 62135596799) (pos n)) _ h).1 in
    let small : n < 2 ^ 63 = grind (arith, nat_tests) in record { sfits = small }
timestamp_fits (negsuc n) h =
    let low : negsuc 62135596799 ≤ℤ negsuc n = in_order (negsuc 62135596799) (negsuc n) (both (int_le (negsuc 62135596799) (negsuc n)) _ h).0 in
    let small : n < 2 ^ 63 = grind (arith, nat_tests) in record { sfits = small }

duration_fits : (z : ℤ) → is_duration_second z ≡ true → FitsSigned w64 z
duration_fits (pos n) h = let small : n < 2 ^ 63 = grind (arith, nat_tests) in record { sfits = small }
duration_fits (negsuc n) h = let small : n < 2 ^ 63 = grind (arith, nat_tests) in record { sfits = small }

nanos_fit : (z : ℤ) → int_le (pos 0) z ≡ true → int_le z (pos 999999999) ≡ true → FitsSigned w32 z
nanos_fit (pos n) l h =
    let high : pos n ≤ℤ pos 999999999 = in_order (pos n) (pos 999999999) h in
    let small : n < 2 ^ 31 = grind (arith, nat_tests) in record { sfits = small }
nanos_fit (negsuc n) l h = absurd cc

signed_nanos_fit : (z : ℤ) → nat_le (unsigned_abs z) 999999999 ≡ true → FitsSigned w32 z
signed_nanos_fit (pos n) h = let small : n < 2 ^ 31 = grind (arith, nat_tests) in record { sfits = small }
signed_nanos_fit (negsuc n) h = let small : n < 2 ^ 31 = grind (arith, nat_tests) in record { sfits = small }

out : (a : Bool) (x : List ℕ) → (a ≡ true → ⊥) → or_range (if a then Some x else None) ≡ Err Range
out a x unfit = at a refl
  where
    at : (b : Bool) → a ≡ b → or_range (if b then Some x else None) ≡ Err Range
    at true e = absurd (unfit e)
    at false e = refl

timestamp_out : (s n : ℤ) → ((is_timestamp_second s && int_le (pos 0) n && int_le n (pos 999999999)) ≡ true → ⊥) → timestamp_written s n ≡ Err Range
unfolding timestamp_text
timestamp_out s n unfit = out (is_timestamp_second s && int_le (pos 0) n && int_le n (pos 999999999)) _ unfit

duration_out : (s n : ℤ) → ((is_duration_second s && nat_le (unsigned_abs n) 999999999 && signs_agree s n) ≡ true → ⊥) → duration_written s n ≡ Err Range
unfolding duration_text
duration_out s n unfit = out (is_duration_second s && nat_le (unsigned_abs n) 999999999 && signs_agree s n) _ unfit

pub seconds_out : (s n : ℤ) → (FitsSigned w64 s → ⊥) → IsOutOfTime s n
seconds_out s n unfit = (
  timestamp_out s n (λ h. unfit (timestamp_fits s (both (is_timestamp_second s) (int_le (pos 0) n) (both _ (int_le n (pos 999999999)) h).0).0)),
  duration_out s n (λ h. unfit (duration_fits s (both (is_duration_second s) (nat_le (unsigned_abs n) 999999999) (both _ (signs_agree s n) h).0).0)),
)

pub nanos_out : (s n : ℤ) → (FitsSigned w32 n → ⊥) → IsOutOfTime s n
nanos_out s n unfit = (
  timestamp_out s n (λ h.
      let last = both (is_timestamp_second s && int_le (pos 0) n) (int_le n (pos 999999999)) h in
      unfit (nanos_fit n (both (is_timestamp_second s) (int_le (pos 0) n) last.0).1 last.1)),
  duration_out s n (λ h. unfit (signed_nanos_fit n (both (is_duration_second s) (nat_le (unsigned_abs n) 999999999) (both _ (signs_agree s n) h).0).1)),
)

-- ---- paths

texts_are : (hs : List Held) → texts_of (vals_of (map val_of hs)) ≡ map (λ h. text_in (val_of h)) hs
texts_are [] = refl
texts_are (h ∷ hs) = ap (λ ts. text_in (val_of h) ∷ ts) (texts_are hs)

pub texts_more : (hs : List Held) (i : ℕ) (h : Held) (ts us : List (List ℕ)) (t : List ℕ) → i < length hs → h ≡ get_or hs i h
    → ts ≡ texts_of (vals_of (map val_of (take i hs))) → t ≡ text_in (val_of h) → us ≡ ts ++ t ∷ []
    → us ≡ texts_of (vals_of (map val_of (take (i + 1) hs)))
texts_more hs i h ts us t within is so own more =
    more ∙ ap (λ xs. xs ++ t ∷ []) (so ∙ texts_are (take i hs)) ∙ ap (λ x. map (λ g. text_in (val_of g)) (take i hs) ++ x ∷ []) own
    ∙ sym (map-append (λ g. text_in (val_of g)) (take i hs) (h ∷ [])) ∙ sym (texts_are (take i hs ++ h ∷ []))
    ∙ ap (λ xs. texts_of (vals_of (map val_of xs))) (sym (take_more hs i h within is))

pub texts_done : (hs : List Held) (i : ℕ) (ts : List (List ℕ)) → length hs ≤ i → ts ≡ texts_of (vals_of (map val_of (take i hs)))
    → ts ≡ texts_of (vals_of (map val_of hs))
texts_done hs i ts past so = so ∙ ap (λ xs. texts_of (vals_of (map val_of xs))) (take_all hs i past)

-- ---- answers

pub answer_of : (wanted written : Result (List ℕ) TextFault) → IfOk written (λ s. wanted ≡ Ok s)
    → IfErr written (λ e. (e ≡ OutOfMemory) ⊎ (wanted ≡ Err e)) → IsAnswer wanted written
answer_of wanted (Ok s) ok err = ok
answer_of wanted (Err e) ok err = err

module _ (shape : Shape) (o : Writing) where
  -- ---- what a form says of its messages

  pub own_told : (f : Form) (k : Kind) (c : Content) → form_of shape (type_of k) ≡ f → is_object_form f ≡ false
      → tells shape o (message c) (one k) ≡ form_tree shape o (type_of k) f (fields c) (kept c) (fields_tell shape o (fields c))
  own_told f k (content.content fs ks) is own = rw (is, own) refl

  pub own_parts : (f : Form) (k : Kind) (c : Content) → form_of shape (type_of k) ≡ f → is_object_form f ≡ false
      → parts_of shape (message c) (one k) ≡ form_parts shape (type_of k) f (fields c) (kept c)
  own_parts f k (content.content fs ks) is own = rw (is, own) refl

  pub own_stops : (f : Form) (k : Kind) (c : Content) (rule : JsonKind) → form_of shape (type_of k) ≡ f → is_object_form f ≡ false
      → form_tree shape o (type_of k) f (fields c) (kept c) (fields_tell shape o (fields c)) ≡ None → form_parts shape (type_of k) f (fields c) (kept c) ≡ Err rule → Stops shape o (message c) k rule []
  own_stops f k c rule is own none parts = (own_told f k c is own ∙ none, λ sound. own_parts f k c is own ∙ parts)

  pub text_told : (f : Form) (k : Kind) (c : Content) (d : Result Data JsonKind) (r : Result Value Refusal) → form_of shape (type_of k) ≡ f
      → is_object_form f ≡ false → form_tree shape o (type_of k) f (fields c) (kept c) (fields_tell shape o (fields c)) ≡ ok_of d → IfOk r (λ tree. d ≡ Ok (view tree))
      → IfOk r (λ tree. tells shape o (message c) (one k) ≡ Some (view tree))
  text_told f k c d (Err e) is own tree h = tt
  text_told f k c d (Ok v) is own tree h = own_told f k c is own ∙ tree ∙ ap ok_of h

  pub text_refused : (f : Form) (k : Kind) (c : Content) (d : Result Data JsonKind) (r : Result Value Refusal) → form_of shape (type_of k) ≡ f
      → is_object_form f ≡ false → form_tree shape o (type_of k) f (fields c) (kept c) (fields_tell shape o (fields c)) ≡ ok_of d → form_parts shape (type_of k) f (fields c) (kept c) ≡ as_leaf d → IfErr r (IsTextRefused d)
      → IfErr r (Refused shape o (message c) k)
  text_refused f k c d (Ok v) is own tree parts h = tt
  text_refused f k c d (Err refused.Memory) is own tree parts h = tt
  text_refused f k c d (Err (refused.Rule rule steps)) is own tree parts h =
      refused_here shape o (message c) k rule (refused.Rule rule steps) (ap (refused.Rule rule) h.1)
      (own_stops f k c rule is own (tree ∙ ap ok_of h.0) (parts ∙ ap as_leaf h.0))

  -- ---- the value of a wrapper

  leaf_key : (step : Step) (place : List Step) (rule : JsonKind) → IsKeyFault o leaf step place rule → ⊥
  leaf_key (Key s) place rule h = h.1
  leaf_key (Index i) place rule h = h

  leaf_below : (step : Step) (place : List Step) (rule : JsonKind)
      → IsKeyFault o leaf step place rule ⊎ SomeWith (into_written o leaf step) (λ next. WriteFaultAt shape o place next.0 next.1 rule) → ⊥
  leaf_below step place rule (inl h) = leaf_key step place rule h
  leaf_below step place rule (inr h) = h

  -- nothing is written below a value of one part, and it breaks no rule
  leaf_at : (k : Kind) (v : Val) (place : List Step) (rule : JsonKind) → parts_of shape v (one k) ≡ Ok leaf → WriteFaultAt shape o place v (one k) rule → ⊥
  leaf_at k v [] rule p h = absurd (let e : Ok leaf ≡ Err rule = sym p ∙ h in cc)
  leaf_at k v (step ∷ place) rule p h = leaf_below step place rule (rw p at h)

  scalar_parts : (k : Kind) (v : Val) → is_scalar v ≡ true → parts_of shape v (one k) ≡ Ok leaf
  scalar_parts k (content.number z) s = refl
  scalar_parts k (content.truth b) s = refl
  scalar_parts k (content.text t) s = refl
  scalar_parts k (content.octets b) s = refl
  scalar_parts k (content.message c) s = absurd cc
  scalar_parts k (content.many vs) s = absurd cc
  scalar_parts k (content.keyed ps) s = absurd cc

  scalar_told : (k : Kind) (v : Val) → is_scalar v ≡ true → scalar_tree shape o k (Some v) ≡ tells shape o v (one k)
  scalar_told k (content.number z) s = refl
  scalar_told k (content.truth b) s = refl
  scalar_told k (content.text t) s = refl
  scalar_told k (content.octets b) s = refl
  scalar_told k (content.message c) s = absurd cc
  scalar_told k (content.many vs) s = absurd cc
  scalar_told k (content.keyed ps) s = absurd cc

  pub held_told : (k : Kind) (v : Option Val) (h : Val) (r : Result Value Refusal) → Some h ≡ v → (is_scalar h ≡ true) ⊎ (r ≡ Err refused.Memory)
      → IfOk r (λ tree. tells shape o h (one k) ≡ Some (view tree)) → IfOk r (λ tree. scalar_tree shape o k v ≡ Some (view tree))
  held_told k v h (Err e) is alone t = tt
  held_told k v h (Ok tree) is (inl s) t = ap (scalar_tree shape o k) (sym is) ∙ scalar_told k h s ∙ t
  held_told k v h (Ok tree) is (inr bad) t = absurd cc

  pub held_refused : (k : Kind) (v : Option Val) (h : Val) (r : Result Value Refusal) → Some h ≡ v → (is_scalar h ≡ true) ⊎ (r ≡ Err refused.Memory)
      → IfErr r (Refused shape o h k) → IfErr r (IsHeldRefused shape o k v)
  held_refused k v h (Ok tree) is alone t = tt
  held_refused k v h (Err refused.Memory) is alone t = tt
  held_refused k v h (Err (refused.Rule rule steps)) is (inl s) t =
      subst (λ (w : Option Val). (scalar_tree shape o k w ≡ None) × SomeWith w (λ held. Holds shape k held → ⊥)) is
      (scalar_told k h s ∙ t.0, λ holds. leaf_at k h (reverse steps) rule (scalar_parts k h s) (t.1 holds))
  held_refused k v h (Err (refused.Rule rule steps)) is (inr bad) t = absurd (let same : refused.Rule rule steps ≡ refused.Memory = cc in cc)

  pub fits_field : (f : Option FieldShape) (v : Val) → IsSoundAt shape f v → Holds shape (kind_in f) v
  fits_field None v h = absurd h
  fits_field (Some f) v h = holds_field shape f v h

  sound_held : (k : Kind) (c : Content) → SomeWith (get 1 (fields c)) (λ held. Holds shape (kind_at shape (type_of k) 1) held → ⊥)
      → Holds shape k (message c) → ⊥
  sound_held k (content.content fs ks) unfit holds = at (get 1 fs) refl unfit
    where
      at : (v : Option Val) → get 1 fs ≡ v → SomeWith v (λ held. Holds shape (kind_at shape (type_of k) 1) held → ⊥) → ⊥
      at None is h = h
      at (Some v) is h =
          let own : type_of k ≡ holds.0 = ap type_of holds.1 in
          let sound : IsSoundAt shape (field_of 1 (fields_of shape holds.0)) v = (get_sound shape (fields_of shape holds.0) 1 fs v holds.2.1 is).0 in
          h (subst (λ t. Holds shape (kind_at shape t 1) v) (sym own) (fits_field (field_of 1 (fields_of shape holds.0)) v sound))

  pub wrapper_told : (k : Kind) (c : Content) (own : Kind) (r : Result Value Refusal) → form_of shape (type_of k) ≡ forms.Wrapper
      → own ≡ kind_at shape (type_of k) 1 → IfOk r (λ tree. scalar_tree shape o own (get 1 (fields c)) ≡ Some (view tree))
      → IfOk r (λ tree. tells shape o (message c) (one k) ≡ Some (view tree))
  wrapper_told k c own (Err e) is same h = tt
  wrapper_told k c own (Ok v) is same h =
      own_told forms.Wrapper k c is refl ∙ ap (λ l. scalar_tree shape o l (get 1 (fields c))) (sym same) ∙ h

  pub wrapper_refused : (k : Kind) (c : Content) (own : Kind) (r : Result Value Refusal) → form_of shape (type_of k) ≡ forms.Wrapper
      → own ≡ kind_at shape (type_of k) 1 → IfErr r (IsHeldRefused shape o own (get 1 (fields c))) → IfErr r (Refused shape o (message c) k)
  wrapper_refused k c own (Ok v) is same h = tt
  wrapper_refused k c own (Err refused.Memory) is same h = tt
  wrapper_refused k c own (Err (refused.Rule rule steps)) is same h = (
    own_told forms.Wrapper k c is refl ∙ ap (λ l. scalar_tree shape o l (get 1 (fields c))) (sym same) ∙ h.0,
    λ holds. absurd (sound_held k c (subst (λ l. SomeWith (get 1 (fields c)) (λ held. Holds shape l held → ⊥)) same h.1) holds),
  )
