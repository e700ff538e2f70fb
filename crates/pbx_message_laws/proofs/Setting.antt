-- A message may hold what is there after a field is set or cleared.
use Rattle.std.proofs.Common.{◌≡◌, ◌∙◌, ◌⊎◌, inl, inr, ℕ, Bool, true, false, ◌&&◌, if◌then◌else◌, nat_lt, List, [], ◌∷◌, Option, Some, None, refl, sym, ap}
use Rattle.std.proofs.Common.{subst, arith}
use Rattle.std.specs.Prelude.{◌==◌, is_some, Contains, IsTrue}
use Rattle.std.proofs.lemmas.Bool.{eqb-true}
use Rattle.std.proofs.lemmas.Bool.Decides.{nat_tests}
use Rattle.pbx_content.specs.declared.shape.Shape.{Shape}
use Rattle.pbx_content.specs.declared.shape.FieldShape.{FieldShape}
use Rattle.pbx_content.specs.Content.{content, empty, Fields, no_fields, field, Val, get, has, added, without, with_option, IsAscending}
use Rattle.pbx_content.specs.Shape.{fields_of, field_of, is_other}
use Rattle.pbx_content.specs.Sound.{has_one_member, AreSound, IsSoundAt}
use Rattle.pbx_content.proofs.OntoFields.{AreAbove}
use Rattle.pbx_content.proofs.SoundValues.{nothing_sound, sound_of}
use Rattle.pbx_message_laws.specs.Fields.{cleared_others, is_number_of_other, value_kept}
use Rattle.pbx_message_laws.specs.Laws.{EmptyIsSound, SettingIsSound, ClearingIsSound}
use Rattle.pbx_message_laws.proofs.Changes.{ascending-without, get-without, get-with_option, ascending-with_option}
use Rattle.pbx_message_laws.proofs.Members.{any_at, listed, found, other_swap, apart, OneMember, one_member, one_member_from}
use Rattle.pbx_message_laws.proofs.Listed.{type_ascends}
use Rattle.pbx_message_laws.proofs.Changed.{has_is_get, ascending-cleared, get-cleared}
use Rattle.pbx_message_laws.proofs.Settable.{kept_sound}

pub empty_is_sound : EmptyIsSound
empty_is_sound shape t = sound_of shape t empty (nothing_sound shape (fields_of shape t))

-- ---- values of their fields

sound-without : (shape : Shape) (gs : List FieldShape) (n : ℕ) (fs : Fields) → AreSound shape gs fs → AreSound shape gs (without n fs)
sound-without shape gs n no_fields h = tt
sound-without shape gs n (field m v fs) h = at (n == m) (sound-without shape gs n fs h.1)
  where
    at : (b : Bool) → AreSound shape gs (without n fs) → AreSound shape gs (if b then fs else field m v (without n fs))
    at true ih = h.1
    at false ih = (h.0, ih)

sound-added : (shape : Shape) (gs : List FieldShape) (n : ℕ) (v : Val) (fs : Fields) → IsSoundAt shape (field_of n gs) v → AreSound shape gs fs
    → AreSound shape gs (added n v fs)
sound-added shape gs n v no_fields s h = (s, tt)
sound-added shape gs n v (field m w fs) s h = at (nat_lt n m) (sound-added shape gs n v fs s h.1)
  where
    at : (b : Bool) → AreSound shape gs (added n v fs) → AreSound shape gs (if b then field n v (field m w fs) else field m w (added n v fs))
    at true ih = (s, h)
    at false ih = (h.0, ih)

sound-cleared : (shape : Shape) (all : List FieldShape) (f : FieldShape) (gs : List FieldShape) (fs : Fields) → AreSound shape all fs
    → AreSound shape all (cleared_others f gs fs)
sound-cleared shape all f [] fs h = h
sound-cleared shape all f (g ∷ gs) fs h = at (is_other f g) (sound-cleared shape all f gs)
  where
    at : (b : Bool) → ((ks : Fields) → AreSound shape all ks → AreSound shape all (cleared_others f gs ks))
        → AreSound shape all (cleared_others f gs (if b then without g.number fs else fs))
    at true ih = ih (without g.number fs) (sound-without shape all g.number fs h)
    at false ih = ih fs h

sound-option : (shape : Shape) (gs : List FieldShape) (n : ℕ) (o : Option Val) (fs : Fields)
    → ((v : Val) → o ≡ Some v → IsSoundAt shape (field_of n gs) v) → AreSound shape gs fs → AreSound shape gs (with_option n o fs)
sound-option shape gs n None fs s h = sound-without shape gs n fs h
sound-option shape gs n (Some v) fs s h = sound-added shape gs n v (without n fs) (s v refl) (sound-without shape gs n fs h)

-- ---- members of oneofs

-- a field that has a value now had one
fewer_members : (gs : List FieldShape) (fs new : Fields) → ((n : ℕ) → has n new ≡ true → has n fs ≡ true) → IsTrue (has_one_member gs fs)
    → IsTrue (has_one_member gs new)
fewer_members gs fs new before h =
    let one = one_member gs fs h in
    one_member_from gs new (λ f g c d o p q. one f g c d o (before f.number p) (before g.number q))

had : (n m : ℕ) (fs : Fields) → IsAscending fs → has n (without m fs) ≡ true → has n fs ≡ true
had n m fs h e =
    has_is_get n fs ∙ at (n == m) (sym (ap is_some (get-without n m fs h)) ∙ sym (has_is_get n (without m fs)) ∙ e)
  where
    at : (b : Bool) → is_some (if b then None else get n fs) ≡ true → is_some (get n fs) ≡ true
    at true e = absurd cc
    at false e = e

pub clearing_is_sound : ClearingIsSound
clearing_is_sound shape t n (content fs ks) h = (
  ascending-without n fs h.0,
  sound-without shape (fields_of shape t) n fs h.1,
  fewer_members (fields_of shape t) fs (without n fs) (λ m e. had m n fs h.0 e) h.2,
  h.3,
)

-- of a field that is set, or it had a value and is no other member of the oneof
abbrev Remains : FieldShape → List FieldShape → Fields → ℕ → Type 0
Remains f gs fs n = (n ≡ f.number) ⊎ ((is_number_of_other f gs n ≡ false) × (has n fs ≡ true))

module _ (shape : Shape) (gs : List FieldShape) (f : FieldShape) (o : Option Val) (fs : Fields) (ascends : IsAscending fs) where
  abbrev new : Fields
  new = with_option f.number o (cleared_others f gs fs)

  get_new : (n : ℕ) → get n new ≡ (if n == f.number then o else (if is_number_of_other f gs n then None else get n fs))
  get_new n =
      get-with_option n f.number o (cleared_others f gs fs) (ascending-cleared f gs fs ascends)
      ∙ ap (λ (x : Option Val). if n == f.number then o else x) (get-cleared f gs n fs ascends)

  remains : (n : ℕ) → has n new ≡ true → Remains f gs fs n
  remains n e = at (n == f.number) refl (is_number_of_other f gs n) refl (sym (ap is_some (get_new n)) ∙ sym (has_is_get n new) ∙ e)
    where
      at : (a : Bool) → (n == f.number) ≡ a → (b : Bool) → is_number_of_other f gs n ≡ b
          → is_some (if a then o else (if b then None else get n fs)) ≡ true → Remains f gs fs n
      at true d b c e = inl (eqb-true n f.number d)
      at false d true c e = absurd cc
      at false d false c e = inr (c, has_is_get n fs ∙ e)

  module _ (above : AreAbove 0 gs) (own : field_of f.number gs ≡ Some f) where
    is_f : (g : FieldShape) → Contains gs g → g.number ≡ f.number → g ≡ f
    is_f g c e =
        let here : Some g ≡ Some f = sym (listed 0 gs g above c) ∙ ap (λ (n : ℕ). field_of n gs) e ∙ own in
        cc

    -- a member of the oneof of f that is not f has no value
    cleared : (g h : FieldShape) → Contains gs g → Contains gs h → g.number ≡ f.number → is_other g h ≡ true → is_number_of_other f gs h.number ≡ false → ⊥
    cleared g h c d e other none =
        let same : is_other f h ≡ true = ap (λ (x : FieldShape). is_other x h) (sym (is_f g c e)) ∙ other in
        let here : (h.number == h.number) ≡ true = grind (arith, nat_tests) in
        let there : (is_other f h && h.number == h.number) ≡ true = rw (same, here) refl in
        let some = any_at (λ (x : FieldShape). is_other f x && h.number == x.number) gs h d there in
        cc

    set_members : IsTrue (has_one_member gs fs) → OneMember gs new
    set_members one g h c d other p q = at (remains g.number p) (remains h.number q)
      where
        at : Remains f gs fs g.number → Remains f gs fs h.number → ⊥
        at (inl x) (inl y) =
            let far = apart g h other in
            let near : (g.number == h.number) ≡ true = grind (arith, nat_tests) in
            cc
        at (inl x) (inr y) = cleared g h c d x other y.0
        at (inr x) (inl y) = cleared h g d c y (other_swap g h other) x.0
        at (inr x) (inr y) = one_member gs fs one g h c d other x.1 y.1

pub setting_is_sound : SettingIsSound
setting_is_sound shape t n f v (content fs ks) proper h e s =
    let gs : List FieldShape = fields_of shape t in
    let own : field_of f.number gs ≡ Some f = ap (λ (m : ℕ). field_of m gs) (found n gs f e).is ∙ e in (
      ascending-with_option f.number (value_kept shape f v) (cleared_others f gs fs) (ascending-cleared f gs fs h.0),
      sound-option shape gs f.number (value_kept shape f v) (cleared_others f gs fs)
          (λ w d. subst (λ (x : Option FieldShape). IsSoundAt shape x w) (sym own) (kept_sound shape f v w s d)) (sound-cleared shape gs f gs fs h.1),
      one_member_from gs (new shape gs f (value_kept shape f v) fs h.0)
          (set_members shape gs f (value_kept shape f v) fs h.0 (type_ascends shape t proper) own h.2),
      h.3,
    )
