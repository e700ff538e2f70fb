-- The contents that a wrapper, or the empty message, may have.
use Rattle.std.proofs.Common.{◌≡◌, Vec, Global, ℕ, pos, negsuc, ◌≤◌, Bool, true, false, if◌then◌else◌, List, [], Option, Some, None, refl, sym, ap, ◌∙◌, subst, arith, inl, inr}
use Rattle.std.specs.Prelude.{◌==◌, ◌⊎◌, option_map, IsTrue, ℤ, Result, Ok, Err, IfOk}
use Rattle.std.proofs.lemmas.Bool.Decides.{nat_tests}
use Rattle.pbx_wire.specs.declared.error.DecodeError.{DecodeError}
use Rattle.pbx_content.specs.declared.shape.Kind.{Kind}
use Rattle.pbx_content.specs.declared.shape.Kind.TheVariants as kind
use Rattle.pbx_content.specs.declared.shape.FieldShape.{FieldShape}
use Rattle.pbx_content.specs.Content.{Content, content, fields, empty, without_kept, Fields, no_fields, field, get, Val, number, truth, text, octets, message, many, keyed, IsAscending}
use Rattle.pbx_content.specs.Meaning.{with_field, or_else, zero_of}
use Rattle.pbx_content.specs.Shape.{fields_of}
use Rattle.pbx_content.specs.declared.shape.Shape.{Shape}
use Rattle.pbx_content.specs.Same.{Decodes, DecodesParts}
use Rattle.pbx_content.specs.Sound.{IsSound, AreSound, IsSoundAt, IsShown, IsNumber, PartsFit, depth}
use Rattle.pbx_content.specs.Faults.{IsToldFault}
use Rattle.pbx_desc_shapes.specs.TypesShape.{types_shape, wrapped, wrapper_field}
use Rattle.pbx_desc_wrappers.specs.Scalars.{is_zero, wrapper_content}
use Rattle.pbx_desc_wrappers.specs.Wrapped.{IsOf, MayBeOf, is_scalar, IsWrapper, MayHold, IsRead}

-- ---- what is written

sound_at : (k : Kind) (v : Val) → IsOf k v → is_zero v ≡ false → IsSoundAt types_shape (Some (wrapper_field k)) v
sound_at kind.Int32 (number z) h e = (refl, inr e, h)
sound_at kind.Int64 (number z) h e = (refl, inr e, h)
sound_at kind.Uint32 (number (pos n)) h e = (refl, inr e, h)
sound_at kind.Uint64 (number (pos n)) h e = (refl, inr e, h)
sound_at kind.Bool (truth b) h e = (refl, inr e, refl)
sound_at kind.String (text s) h e = (refl, inr e, refl, h)
sound_at kind.Bytes (octets b) h e = (refl, inr e, refl)
sound_at _ _ h e = absurd h

empty_sound : (k : Kind) → AreSound types_shape (wrapped k) no_fields
empty_sound k = tt

pub wrapper_sound : (t : ℕ) (v : Val) → MayHold t v → IsSound types_shape t (wrapper_content v)
wrapper_sound t v (k, is, of) = at (is_zero v) refl
  where
    at : (b : Bool) → is_zero v ≡ b → IsSound types_shape t (if b then empty else content (field 1 v no_fields) [])
    at true e = rw is.0 (tt, tt, refl, record { unread = refl; numbered = refl; fit = refl })
    at false e = rw is.0 (tt, (sound_at k v of e, tt), refl, record { unread = refl; numbered = refl; fit = refl })

pub nothing_sound : (t : ℕ) → fields_of types_shape t ≡ [] → IsSound types_shape t empty
nothing_sound t is = rw is (tt, tt, refl, record { unread = refl; numbered = refl; fit = refl })

-- ---- what is read

shown : {P : Type 0} → (IsTrue false ⊎ P) → P
shown (inl h) = absurd cc
shown (inr h) = h

number_is : (k : Kind) (z : ℤ) → is_scalar k ≡ true → IsShown types_shape (wrapper_field k) (number z) → IsNumber k z → IsOf k (number z) × (is_zero (number z) ≡ false)
number_is kind.Int32 z s e h = (h, shown e)
number_is kind.Int64 z s e h = (h, shown e)
number_is kind.Uint32 (pos n) s e h = (h, shown e)
number_is kind.Uint32 (negsuc n) s e h = absurd h
number_is kind.Uint64 (pos n) s e h = (h, shown e)
number_is kind.Uint64 (negsuc n) s e h = absurd h
number_is kind.Bool z s e h = absurd h
number_is kind.String z s e h = absurd h
number_is kind.Bytes z s e h = absurd h
number_is _ z s e h = absurd cc

truth_is : (k : Kind) (b : Bool) → k ≡ kind.Bool → IsShown types_shape (wrapper_field k) (truth b) → IsOf k (truth b) × (is_zero (truth b) ≡ false)
truth_is kind.Bool b is e = (tt, shown e)
truth_is _ b is e = absurd cc

text_is : (k : Kind) (s : List ℕ) → k ≡ kind.String → IsShown types_shape (wrapper_field k) (text s) → IsOf kind.String (text s) → IsOf k (text s) × (is_zero (text s) ≡ false)
text_is kind.String s is e h = (h, shown e)
text_is _ s is e h = absurd cc

octets_is : (k : Kind) (b : List ℕ) → k ≡ kind.Bytes → IsShown types_shape (wrapper_field k) (octets b) → IsOf k (octets b) × (is_zero (octets b) ≡ false)
octets_is kind.Bytes b is e = (tt, shown e)
octets_is _ b is e = absurd cc

value_is : (k : Kind) (v : Val) → is_scalar k ≡ true → IsSoundAt types_shape (Some (wrapper_field k)) v → IsOf k v × (is_zero v ≡ false)
value_is k (number z) s h = number_is k z s h.1 h.2
value_is k (truth b) s h = truth_is k b h.2 h.1
value_is k (text t) s h = text_is k t h.2 h.1 h.3
value_is k (octets b) s h = octets_is k b h.2 h.1
value_is k (message c) s h = absurd (let bad : true ≡ false = sym s ∙ ap is_scalar h.1.1 in cc)
value_is k (many vs) s h = absurd (let bad = h.0 in cc)
value_is k (keyed ps) s h = absurd (let bad = h.1.1 in cc)

-- the one field that a wrapper may have
one_field : (k : Kind) (fs : Fields) → IsAscending fs → AreSound types_shape (wrapped k) fs → fs ≡ with_field 1 (get 1 fs) no_fields
one_field k no_fields a h = refl
one_field k (field n v no_fields) a h = at (n == 1) refl h.0
  where
    at : (b : Bool) → (n == 1) ≡ b → IsSoundAt types_shape (if b then Some (wrapper_field k) else None) v → field n v no_fields ≡ with_field 1 (get 1 (field n v no_fields)) no_fields
    at true e s = let is : n ≡ 1 = grind (arith, nat_tests) in rw is refl
    at false e s = absurd s
one_field k (field n v (field m w fs)) a h = absurd (at (n == 1) refl h.0 (m == 1) refl h.1.0)
  where
    at : (b : Bool) → (n == 1) ≡ b → IsSoundAt types_shape (if b then Some (wrapper_field k) else None) v → (d : Bool) → (m == 1) ≡ d → IsSoundAt types_shape (if d then Some (wrapper_field k) else None) w → ⊥
    at true e s true f r = grind (arith, nat_tests, a.0)
    at true e s false f r = r
    at false e s d f r = s

value_sound : (k : Kind) (fs : Fields) (v : Val) → AreSound types_shape (wrapped k) fs → get 1 fs ≡ Some v → IsSoundAt types_shape (Some (wrapper_field k)) v
value_sound k no_fields v h e = absurd cc
value_sound k (field n w fs) v h e = at (1 == n) refl e (value_sound k fs v h.1)
  where
    at : (b : Bool) → (1 == n) ≡ b → (if b then Some w else get 1 fs) ≡ Some v → (get 1 fs ≡ Some v → IsSoundAt types_shape (Some (wrapper_field k)) v)
        → IsSoundAt types_shape (Some (wrapper_field k)) v
    at true is e ih = let same : w ≡ v = cc in let one : (n == 1) ≡ true = grind (arith, nat_tests) in subst (IsSoundAt types_shape (Some (wrapper_field k))) same (rw one at h.0)
    at false is e ih = ih e

no_value : (k : Kind) → is_scalar k ≡ true → wrapper_content (zero_of types_shape k) ≡ empty
no_value kind.Int32 s = refl
no_value kind.Int64 s = refl
no_value kind.Uint32 s = refl
no_value kind.Uint64 s = refl
no_value kind.Bool s = refl
no_value kind.String s = refl
no_value kind.Bytes s = refl
no_value _ s = absurd cc

-- a value of the field, or none, in a content with no kept records
option_read : (k : Kind) (v : Option Val) → is_scalar k ≡ true → ((w : Val) → v ≡ Some w → IsSoundAt types_shape (Some (wrapper_field k)) w) → IsRead k v (Some (content (with_field 1 v no_fields) []))
option_read k None s h = record { value = tt; whole = ap Some (sym (no_value k s)) }
option_read k (Some v) s h =
    let is = value_is k v s (h v refl) in
    record { value = is.0; whole = rw is.1 refl }

content_read : (t : ℕ) (k : Kind) (c : Content) → IsWrapper t k → IsSound types_shape t c → IsRead k (get 1 (fields c)) (Some (without_kept c))
content_read t k (content fs ks) is sound =
    let values = subst (λ (gs : List FieldShape). AreSound types_shape gs fs) is.0 sound.1 in
    rw (← one_field k fs sound.0 values) at (option_read k (get 1 fs) is.1 (λ w e. value_sound k fs w values e))

pub meaning_read : (t : ℕ) (k : Kind) (v : Option Val) (c : Content) (meant : Option Content) → IsWrapper t k → IsSound types_shape t c → meant ≡ Some c → v ≡ get 1 (fields c) → IsRead k v (option_map without_kept meant)
meaning_read t k v c meant is sound e read = rw (e, read) (content_read t k c is sound)

pub nothing_read : (t : ℕ) (c : Content) (meant : Option Content) → fields_of types_shape t ≡ [] → IsSound types_shape t c → meant ≡ Some c → option_map without_kept meant ≡ Some empty
nothing_read t (content no_fields ks) meant is sound e = rw e refl
nothing_read t (content (field n v fs) ks) meant is sound e = absurd (subst (λ (gs : List FieldShape). AreSound types_shape gs (field n v fs)) is sound.1).0

-- ---- the value that is read

-- the value is that of the field, or the default
pub value_read : {k : Kind} {v : Option Val} {w : Val} {meant : Option Content} → IsRead k v meant → (MayBeOf k v → or_else v (zero_of types_shape k) ≡ w) → meant ≡ Some (wrapper_content w)
value_read h is = h.whole ∙ ap (λ u. Some (wrapper_content u)) (is h.value)

-- where bytes mean nothing, they mean nothing without their kept records
pub told_without : (meant : Option Content) (faults : DecodeError → Type 0) (e : DecodeError) → IsToldFault meant faults e → IsToldFault (option_map without_kept meant) faults e
told_without meant faults e (inl refused) = inl refused
told_without meant faults e (inr first) = inr (rw first.0 refl, first.1, first.2)

-- ---- results

-- what is written of a content that a message may have decodes to it
pub decodes_as : {E : Type 0} (t : ℕ) (shape : Shape) (c d : Content) (r : Result (Vec ℕ Global) E) → shape ≡ types_shape → c ≡ d → IsSound types_shape t d
    → IfOk r (λ v. IsSound shape t c → depth c ≤ 100 → Decodes shape t v.items c) → IfOk r (λ v. depth d ≤ 100 → Decodes types_shape t v.items d)
decodes_as t shape c d (Ok v) type is sound h = rw (← type, ← is) (h (rw (type, is) sound))
decodes_as t shape c d (Err e) type is sound h = tt

pub decodes_parts_as : {E : Type 0} (t : ℕ) (shape : Shape) (c d : Content) (r : Result (Vec ℕ Global) E) → shape ≡ types_shape → c ≡ d → IsSound types_shape t d
    → IfOk r (λ v. IsSound shape t c → PartsFit c → DecodesParts shape t v.items c) → IfOk r (λ v. PartsFit d → DecodesParts types_shape t v.items d)
decodes_parts_as t shape c d (Ok v) type is sound h = rw (← type, ← is) (h (rw (type, is) sound))
decodes_parts_as t shape c d (Err e) type is sound h = tt
