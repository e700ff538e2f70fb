-- A sound content is made of the values of its fields and its kept records.
use Rattle.std.proofs.Common.{◌≡◌, ℕ, ◌<◌, ◌≤◌, Bool, true, false, if◌then◌else◌, List, [], ◌∷◌, map, Option, Some, None, refl, sym, ap, ◌∙◌, subst, arith, inl, inr}
use Rattle.std.specs.Prelude.{◌==◌, ◌⊎◌, ◌||◌, not}
use Rattle.std.proofs.lemmas.Bool.Decides.{nat_tests}
use Rattle.std.proofs.lemmas.Bool.{cases_lt}
use Rattle.pbx_wire.specs.Text.{all_true, is_numbered, are_numbered}
use Rattle.pbx_wire.proofs.Written.{both}
use Rattle.pbx_wire.specs.declared.rec.Rec.{Rec}
use Rattle.pbx_content.specs.declared.shape.FieldShape.{FieldShape}
use Rattle.pbx_content.specs.Content.{Content, content, fields, kept, Fields, no_fields, field, Val, number, truth, text, octets, message, many, keyed, get, IsAbove, IsAscending}
use Rattle.pbx_content.specs.Shape.{fields_of, field_of, is_kept}
use Rattle.pbx_content.specs.Meaning.{with_field, shown, is_default}
use Rattle.pbx_content.specs.Sound.{IsSound, AreSound, IsSoundAt, AreKept}
use Rattle.pbx_content.proofs.WrittenOrder.{AreAbove, AreListed, all_listed, known_above, fields_above}
use Rattle.pbx_content.proofs.WrittenFields.{get-above}
use Rattle.pbx_desc_shapes.specs.TypesShape.{types_shape}
use Rattle.pbx_desc_shapes.proofs.WellKnownProper.{types_shape_proper}
use Rattle.pbx_types.specs.FieldContent.{writable, fields_from, record_content}
use Rattle.pbx_desc.specs.Exact.{are_writable}
use Rattle.pbx_types.specs.Exact.{is_shown}
use Rattle.pbx_types.specs.Taking.{IsAt}

-- ---- values by number

-- the values that the fields have, as they stand
abbrev pub fields_at : List FieldShape → Fields → Fields
fields_at [] fs = no_fields
fields_at (g ∷ gs) fs = with_field g.number (get g.number fs) (fields_at gs fs)

-- each number is one of a field
abbrev AreKnown : List FieldShape → Fields → Type 0
AreKnown gs no_fields = Unit {0}
AreKnown gs (field n v fs) = (field_of n gs ≡ None → ⊥) × AreKnown gs fs

known_from : (gs : List FieldShape) (fs : Fields) → AreSound types_shape gs fs → AreKnown gs fs
known_from gs no_fields h = tt
known_from gs (field n v fs) h = (λ none. subst (λ (o : Option FieldShape). IsSoundAt types_shape o v) none h.0, known_from gs fs h.1)

known_less : (g : FieldShape) (gs : List FieldShape) (n : ℕ) (fs : Fields) → g.number ≤ n → IsAbove n fs → AreKnown (g ∷ gs) fs → AreKnown gs fs
known_less g gs n no_fields le a h = tt
known_less g gs n (field m v fs) le a h =
    let apart : (m == g.number) ≡ false = grind (arith, nat_tests, a.0) in
    (rw apart at h.0, known_less g gs m fs (omega (arith, a.0)) a.1 h.1)

no_values : (gs : List FieldShape) → fields_at gs no_fields ≡ no_fields
no_values [] = refl
no_values (g ∷ gs) = no_values gs

-- a lesser number in front is none of theirs
values_behind : (n m : ℕ) (v : Val) (gs : List FieldShape) (fs : Fields) → m ≤ n → AreAbove n gs → fields_at gs (field m v fs) ≡ fields_at gs fs
values_behind n m v [] fs le a = refl
values_behind n m v (g ∷ gs) fs le a =
    let apart : (g.number == m) ≡ false = grind (arith, nat_tests, a.0) in
    rw (apart, values_behind g.number m v gs fs (omega (arith, a.0)) a.2) refl

above_tail : (n : ℕ) (fs : Fields) → IsAbove n fs → IsAscending fs
above_tail n no_fields h = tt
above_tail n (field m v fs) h = h.1

fields_again : (n : ℕ) (gs : List FieldShape) (fs : Fields) → AreAbove n gs → IsAscending fs → AreKnown gs fs → fields_at gs fs ≡ fs
fields_again n [] no_fields a h known = refl
fields_again n [] (field m v fs) a h known = absurd (known.0 refl)
fields_again n (g ∷ gs) no_fields a h known = no_values gs
fields_again n (g ∷ gs) (field m v fs) a h known =
    at (g.number == m) refl (λ known. fields_again g.number gs fs a.2 (above_tail m fs h) known)
    (λ known. fields_again g.number gs (field m v fs) a.2 h known)
  where
    at : (b : Bool) → (g.number == m) ≡ b → (AreKnown gs fs → fields_at gs fs ≡ fs)
        → (AreKnown gs (field m v fs) → fields_at gs (field m v fs) ≡ field m v fs)
        → with_field g.number (if b then Some v else get g.number fs) (fields_at gs (field m v fs)) ≡ field m v fs
    at true e less all =
        let same : g.number ≡ m = grind (arith, nat_tests) in
        let above : IsAbove g.number fs = let P : ℕ → Type 0 = λ k. IsAbove k fs in subst P (sym same) h in
        rw (values_behind g.number m v gs fs (omega (arith, same)) a.2, less (known_less g gs g.number fs (omega arith) above known.1), same) refl
    at false e less all =
        let apart : (m == g.number) ≡ false = grind (arith, nat_tests) in
        let later : field_of m gs ≡ None → ⊥ = rw apart at known.0 in
        let above : g.number < m = above_from later in
        let none : get g.number fs ≡ None = get-above g.number m fs h (omega arith) in
        rw none (all (known_less g gs g.number (field m v fs) (omega arith) (above, h) known))
      where
        above_from : (field_of m gs ≡ None → ⊥) → g.number < m
        above_from later = elim (cases_lt g.number m) [
          | inl lt ↦ lt
          | inr le ↦ absurd (later (known_above g.number m gs a.2 (omega arith)))
        ]

-- ---- kept records

kept_again : (gs : List FieldShape) (rs : List Rec) → all_true (map (is_kept gs) rs) ≡ true → are_numbered rs ≡ true → writable gs rs ≡ rs
kept_again gs [] u n = refl
kept_again gs (r ∷ rs) u n =
    let us = both (is_kept gs r) (all_true (map (is_kept gs) rs)) u in
    let ns = both (is_numbered r) (are_numbered rs) n in
    rw (ns.0, us.0, kept_again gs rs us.1 ns.1) refl

written_all : (gs : List FieldShape) (rs : List Rec) → all_true (map (is_kept gs) rs) ≡ true → are_numbered rs ≡ true → are_writable gs rs ≡ true
written_all gs [] u n = refl
written_all gs (r ∷ rs) u n =
    let us = both (is_kept gs r) (all_true (map (is_kept gs) rs)) u in
    let ns = both (is_numbered r) (are_numbered rs) n in
    rw (ns.0, us.0) (written_all gs rs us.1 ns.1)

-- the kept records of a sound content may all be written
pub written : (t : ℕ) (gs : List FieldShape) (rs : List Rec) (c : Content) → fields_of types_shape t ≡ gs → rs ≡ kept c → IsSound types_shape t c → are_writable gs rs ≡ true
written t gs rs (content fs ks) e same sound =
    let unread = subst (λ (hs : List FieldShape). AreKept hs ks) e sound.3 in
    ap (are_writable gs) same ∙ written_all gs ks unread.unread unread.numbered

-- ---- sound values

-- the value of a field is a sound one
got_sound : (all : List FieldShape) (g : FieldShape) (fs : Fields) → field_of g.number all ≡ Some g → AreSound types_shape all fs → IsAt g (get g.number fs)
got_sound all g no_fields e h = tt
got_sound all g (field n v fs) e h = at (g.number == n) refl (got_sound all g fs e h.1)
  where
    at : (b : Bool) → (g.number == n) ≡ b → IsAt g (get g.number fs) → IsAt g (if b then Some v else get g.number fs)
    at false same ih = ih
    at true same ih =
        let is : g.number ≡ n = grind (arith, nat_tests) in
        let own : field_of n all ≡ Some g = subst (λ (m : ℕ). field_of m all ≡ Some g) is e in
        subst (λ (o : Option FieldShape). IsSoundAt types_shape o v) own h.0

-- the value of each field is sound
abbrev pub AreAt : List FieldShape → Fields → Type 0
AreAt [] fs = Unit {0}
AreAt (g ∷ gs) fs = IsAt g (get g.number fs) × AreAt gs fs

pub all_at : (all gs : List FieldShape) (fs : Fields) → AreListed all gs → AreSound types_shape all fs → AreAt gs fs
all_at all [] fs l h = tt
all_at all (g ∷ gs) fs l h = (got_sound all g fs l.0 h, all_at all gs fs l.1 h)

-- a value that is shown, or no default, is there
shown_is : (g : FieldShape) (v : Val) → (g.presence ≡ true) ⊎ (is_default types_shape g.kind v ≡ false) → shown types_shape g.presence g.kind (Some v) ≡ Some v
shown_is g v (inl e) = rw e refl
shown_is g v (inr e) = rw e (at g.presence)
  where
    at : (b : Bool) → (if b then Some v else Some v) ≡ Some v
    at true = refl
    at false = refl

pub shown_again : (g : FieldShape) (v : Option Val) → IsAt g v → shown types_shape g.presence g.kind v ≡ v
shown_again g None h = refl
shown_again g (Some (number z)) h = shown_is g (number z) h.1
shown_again g (Some (truth b)) h = shown_is g (truth b) h.1
shown_again g (Some (text t)) h = shown_is g (text t) h.1
shown_again g (Some (octets b)) h = shown_is g (octets b) h.1
shown_again g (Some (message c)) h = shown_is g (message c) (inr refl)
shown_again g (Some (many vs)) h = shown_is g (many vs) (inr h.1)
shown_again g (Some (keyed ps)) h = shown_is g (keyed ps) (inr h.0)

told_if : (presence default : Bool) → (presence ≡ true) ⊎ (default ≡ false) → presence || not default ≡ true
told_if true default h = refl
told_if false default (inl e) = absurd cc
told_if false default (inr e) = rw e refl

-- a sound value is no default
pub value_shown : (g : FieldShape) (v : Option Val) → IsAt g v → is_shown g v ≡ true
value_shown g None h = refl
value_shown g (Some (number z)) h = told_if g.presence (is_default types_shape g.kind (number z)) h.1
value_shown g (Some (truth b)) h = told_if g.presence (is_default types_shape g.kind (truth b)) h.1
value_shown g (Some (text t)) h = told_if g.presence (is_default types_shape g.kind (text t)) h.1
value_shown g (Some (octets b)) h = told_if g.presence (is_default types_shape g.kind (octets b)) h.1
value_shown g (Some (message c)) h = told_if g.presence false (inr refl)
value_shown g (Some (many vs)) h = refl
value_shown g (Some (keyed ps)) h = refl

-- ---- the whole content

-- these values are shown as those of the fields
abbrev pub AreTaken : List FieldShape → List (Option Val) → Fields → Type 0
AreTaken [] [] fs = Unit {0}
AreTaken [] (v ∷ vs) fs = ⊥
AreTaken (g ∷ gs) [] fs = ⊥
AreTaken (g ∷ gs) (v ∷ vs) fs = (IsAt g (get g.number fs) → shown types_shape g.presence g.kind v ≡ get g.number fs) × AreTaken gs vs fs

taken_at : (gs : List FieldShape) (vs : List (Option Val)) (fs : Fields) → AreAt gs fs → AreTaken gs vs fs → fields_from gs vs ≡ fields_at gs fs
taken_at [] [] fs h t = refl
taken_at [] (v ∷ vs) fs h t = absurd t
taken_at (g ∷ gs) [] fs h t = absurd t
taken_at (g ∷ gs) (v ∷ vs) fs h t = rw (t.0 h.0, taken_at gs vs fs h.1 t.1) refl

pub whole : (t : ℕ) (gs : List FieldShape) (vs : List (Option Val)) (rs : List Rec) (c : Content) → fields_of types_shape t ≡ gs → AreTaken gs vs (fields c) → rs ≡ kept c → IsSound types_shape t c
    → record_content gs vs rs ≡ c
whole t gs vs rs (content fs ks) e taken same sound =
    let ascending = subst (AreAbove 0) e (fields_above types_shape t types_shape_proper) in
    let values = subst (λ (hs : List FieldShape). AreSound types_shape hs fs) e sound.1 in
    let unread = subst (λ (hs : List FieldShape). AreKept hs ks) e sound.3 in
    ap (λ hs. content hs (writable gs rs)) (taken_at gs vs fs (all_at gs gs fs (all_listed 0 gs ascending) values) taken ∙ fields_again 0 gs fs ascending sound.0 (known_from gs fs values))
    ∙ ap (content fs) (ap (writable gs) same ∙ kept_again gs ks unread.unread unread.numbered)

pub sound_at : (t : ℕ) (gs : List FieldShape) (c : Content) → fields_of types_shape t ≡ gs → IsSound types_shape t c → AreAt gs (fields c)
sound_at t gs (content fs ks) e sound =
    let ascending = subst (AreAbove 0) e (fields_above types_shape t types_shape_proper) in
    all_at gs gs fs (all_listed 0 gs ascending) (subst (λ (hs : List FieldShape). AreSound types_shape hs fs) e sound.1)
