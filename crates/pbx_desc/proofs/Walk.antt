-- Values that are taken out one after another.
use Rattle.std.proofs.Common.{◌≡◌, ℕ, Bool, true, false, not, ◌&&◌, if◌then◌else◌, List, [], ◌∷◌, Option, Some, refl, sym, ap, ◌∙◌, subst, arith}
use Rattle.std.specs.Prelude.{◌==◌}
use Rattle.std.proofs.lemmas.Bool.Decides.{nat_tests}
use Rattle.pbx_wire.specs.Text.{all_true}
use Rattle.pbx_wire.proofs.Written.{both}
use Rattle.pbx_wire.specs.declared.rec.Rec.{Rec}
use Rattle.pbx_content.specs.declared.shape.Cardinality.{Cardinality}
use Rattle.pbx_content.specs.declared.shape.FieldShape.{FieldShape}
use Rattle.pbx_content.specs.declared.shape.Kind.{Kind}
use Rattle.pbx_content.specs.Content.{Content, content, fields, kept, Fields, no_fields, field, Val, get, without, with_fields}
use Rattle.pbx_content.specs.Shape.{fields_of}
use Rattle.pbx_content.specs.Sound.{IsSound}
use Rattle.pbx_content.proofs.WrittenOrder.{fields_above}
use Rattle.pbx_desc_shapes.specs.DescriptorShape.{descriptor_shape}
use Rattle.pbx_desc_shapes.proofs.DescriptorsProper.{descriptor_shape_proper}
use Rattle.pbx_desc_encoding.specs.Content.{record_content}
use Rattle.pbx_desc_encoding.specs.Sound.{MayBe}
use Rattle.pbx_desc.specs.Exact.{is_exact_with, are_writable}
use Rattle.pbx_desc.specs.Taking.{AreRead, AreTold, Takes, AreTaken}
use Rattle.pbx_desc.proofs.Sound.{are_simple, values_at, MayHave, made_of}

get_other : (n m : ℕ) (fs : Fields) → (n == m) ≡ false → get n (without m fs) ≡ get n fs
get_other n m no_fields e = refl
get_other n m (field k v fs) e = at (m == k) (n == k) refl refl (get_other n m fs e)
  where
    at : (a b : Bool) → (m == k) ≡ a → (n == k) ≡ b → get n (without m fs) ≡ get n fs
        → get n (if a then fs else field k v (without m fs)) ≡ (if b then Some v else get n fs)
    at true true d f ih = absurd (let bad : (n == m) ≡ true = grind (arith, nat_tests) in let worse : true ≡ false = sym bad ∙ e in cc)
    at true false d f ih = refl
    at false true d f ih = rw f refl
    at false false d f ih = rw f ih

pub fields_with : (c : Content) (fs : Fields) → fields (with_fields c fs) ≡ fs
fields_with (content gs ks) fs = refl

pub kept_with : (c : Content) (fs : Fields) → kept (with_fields c fs) ≡ kept c
kept_with (content gs ks) fs = refl

-- no field has the number
abbrev pub are_apart : ℕ → List FieldShape → Bool
are_apart n [] = true
are_apart n (g ∷ gs) = not (g.number == n) && are_apart n gs

not-true : (b : Bool) → not b ≡ true → b ≡ false
not-true true h = absurd cc
not-true false h = refl

-- both have the same values of these fields
abbrev pub AreAlike : List FieldShape → Content → Content → Type 0
AreAlike [] c d = Unit {0}
AreAlike (g ∷ gs) c d = (get g.number (fields c) ≡ get g.number (fields d)) × AreAlike gs c d

alike_self : (gs : List FieldShape) (c : Content) → AreAlike gs c c
alike_self [] c = tt
alike_self (g ∷ gs) c = (refl, alike_self gs c)

alike_taken : (n : ℕ) (gs : List FieldShape) (old new c : Content) → new ≡ with_fields old (without n (fields old)) → are_apart n gs ≡ true → AreAlike gs old c → AreAlike gs new c
alike_taken n [] old new c e a h = tt
alike_taken n (g ∷ gs) old new c e a h =
    let parts = both (not (g.number == n)) (are_apart n gs) a in
    (ap (λ d. get g.number (fields d)) e ∙ ap (get g.number) (fields_with old (without n (fields old))) ∙ get_other g.number n (fields old) (not-true (g.number == n) parts.0) ∙ h.0, alike_taken n gs old new c e parts.1 h.1)

-- ---- what is left to be taken

-- with the values that are left, those of all fields are read
pub record IsLeft (all : List FieldShape) (values : List (Option Val)) (answers : List Bool) (c : Content) (gs : List FieldShape) (vs : List (Option Val)) (xs : List Bool) (now : Content) : Type 0 where
  pub each : AreRead gs vs c → AreRead all values c
  pub exact : AreTold gs xs c → AreTold all answers c
  pub alike : AreAlike gs now c
  pub same : kept now ≡ kept c

pub start : (gs : List FieldShape) (vs : List (Option Val)) (xs : List Bool) (c : Content) → IsLeft gs vs xs c gs vs xs c
start gs vs xs c = record { each = λ h. h; exact = λ h. h; alike = alike_self gs c; same = refl }

pub next : {all : List FieldShape} {values : List (Option Val)} {answers : List Bool} {c : Content} {g : FieldShape} {gs : List FieldShape} {v : Option Val} {vs : List (Option Val)} {x : Bool} {xs : List Bool} {old new : Content} {d : Cardinality} {k : Kind} {n : ℕ}
    → IsLeft all values answers c (g ∷ gs) (v ∷ vs) (x ∷ xs) old → Takes d k n v x old new → g.number ≡ n → g.cardinality ≡ d → g.kind ≡ k → are_apart n gs ≡ true → IsLeft all values answers c gs vs xs new
next {all} {values} {answers} {c} {g} {gs} {v} {vs} {x} {xs} {old} {new} {d} {k} {n} left takes number cardinality kind apart =
    let there : get n (fields old) ≡ get g.number (fields c) = ap (λ m. get m (fields old)) (sym number) ∙ left.alike.0 in
    record {
      each = λ h. left.each (rw (cardinality, kind) (λ may. takes.value (subst (MayBe descriptor_shape d k) (sym there) may) ∙ there), h);
      exact = λ h. left.exact (rw (cardinality, kind) (λ may. takes.exact (subst (MayBe descriptor_shape d k) (sym there) may)), h);
      alike = alike_taken n gs old new c takes.rest apart left.alike.1;
      same = ap kept takes.rest ∙ kept_with old (without n (fields old)) ∙ left.same;
    }

-- all are taken, and the records that are kept beside them
pub taken : {gs : List FieldShape} {vs : List (Option Val)} {xs : List Bool} {c now : Content} {rs : List Rec} → IsLeft gs vs xs c [] [] [] now → rs ≡ kept now → AreTaken gs vs xs rs c
taken left e = record { values = left.each tt; exact = left.exact tt; unread = e ∙ left.same }

-- ---- the whole record

values_read : (gs : List FieldShape) (vs : List (Option Val)) (c : Content) → MayHave gs descriptor_shape (fields c) → AreRead gs vs c → vs ≡ values_at gs (fields c)
values_read [] [] c m h = refl
values_read [] (v ∷ vs) c m h = absurd h
values_read (g ∷ gs) [] c m h = absurd h
values_read (g ∷ gs) (v ∷ vs) c m h = rw (h.0 m.0, values_read gs vs c m.1 h.1) refl

all_told : (gs : List FieldShape) (xs : List Bool) (c : Content) → MayHave gs descriptor_shape (fields c) → AreTold gs xs c → all_true xs ≡ true
all_told [] [] c m h = refl
all_told [] (x ∷ xs) c m h = absurd h
all_told (g ∷ gs) [] c m h = absurd h
all_told (g ∷ gs) (x ∷ xs) c m h = rw (h.0 m.0) (all_told gs xs c m.1 h.1)

-- the record holds the content, and nothing beside it
abbrev pub IsWhole : List FieldShape → List (Option Val) → List Bool → List Rec → Content → Type 0
IsWhole gs vs xs rs c = (record_content gs vs rs ≡ c) × (is_exact_with xs gs rs ≡ true)

pub whole : (t : ℕ) (gs : List FieldShape) (vs : List (Option Val)) (xs : List Bool) (rs : List Rec) (c : Content) → fields_of descriptor_shape t ≡ gs → are_simple gs ≡ true → AreTaken gs vs xs rs c → IsSound descriptor_shape t c
    → IsWhole gs vs xs rs c
whole t gs vs xs rs c type simple all sound =
    let made = made_of descriptor_shape t gs c type simple (fields_above descriptor_shape t descriptor_shape_proper) sound in
    let written : are_writable gs rs ≡ true = ap (are_writable gs) all.unread ∙ made.written in
    (rw (values_read gs vs c made.may all.values, all.unread) made.made, rw (all_told gs xs c made.may all.exact) written)

-- all are taken
pub done : {gs : List FieldShape} {vs : List (Option Val)} {xs : List Bool} {c now : Content} {rs : List Rec} (t : ℕ) → fields_of descriptor_shape t ≡ gs → are_simple gs ≡ true → IsLeft gs vs xs c [] [] [] now → rs ≡ kept now
    → IsSound descriptor_shape t c → IsWhole gs vs xs rs c
done {gs} {vs} {xs} {c} {now} {rs} t type simple left e sound = whole t gs vs xs rs c type simple (taken left e) sound

-- ---- a value taken out before the others

value_before : (g : FieldShape) (n : ℕ) (old new : Content) → new ≡ with_fields old (without n (fields old)) → (g.number == n) ≡ false → get g.number (fields new) ≡ get g.number (fields old)
value_before g n old new e apart = ap (λ d. get g.number (fields d)) e ∙ ap (get g.number) (fields_with old (without n (fields old))) ∙ get_other g.number n (fields old) apart

-- the values of the other fields are what they were
pub read_before : (n : ℕ) (gs : List FieldShape) (vs : List (Option Val)) (old new : Content) → new ≡ with_fields old (without n (fields old)) → are_apart n gs ≡ true → AreRead gs vs new → AreRead gs vs old
read_before n [] [] old new e a h = tt
read_before n [] (v ∷ vs) old new e a h = absurd h
read_before n (g ∷ gs) [] old new e a h = absurd h
read_before n (g ∷ gs) (v ∷ vs) old new e a h =
    let parts = both (not (g.number == n)) (are_apart n gs) a in
    let same = value_before g n old new e (not-true (g.number == n) parts.0) in
    (λ may. h.0 (subst (MayBe descriptor_shape g.cardinality g.kind) (sym same) may) ∙ same, read_before n gs vs old new e parts.1 h.1)

pub told_before : (n : ℕ) (gs : List FieldShape) (xs : List Bool) (old new : Content) → new ≡ with_fields old (without n (fields old)) → are_apart n gs ≡ true → AreTold gs xs new → AreTold gs xs old
told_before n [] [] old new e a h = tt
told_before n [] (x ∷ xs) old new e a h = absurd h
told_before n (g ∷ gs) [] old new e a h = absurd h
told_before n (g ∷ gs) (x ∷ xs) old new e a h =
    let parts = both (not (g.number == n)) (are_apart n gs) a in
    let same = value_before g n old new e (not-true (g.number == n) parts.0) in
    (λ may. h.0 (subst (MayBe descriptor_shape g.cardinality g.kind) (sym same) may), told_before n gs xs old new e parts.1 h.1)
