-- Fields by ascending number, and the values that each has.
use Rattle.std.proofs.Common.{◌≡◌, ℕ, ◌<◌, ◌≤◌, Bool, true, false, if◌then◌else◌, nat_lt, List, [], ◌∷◌, map, Option, Some, None, option_map, refl, sym, ap, ◌∙◌, subst, arith}
use Rattle.std.specs.Prelude.{◌==◌, option_and_then, IsTrue}
use Rattle.std.specs.List.{IsDistinct, AllByRecursion, list_all}
use Rattle.std.proofs.lemmas.Bool.Decides.{nat_tests}
use Rattle.std.proofs.lemmas.Bool.{ltb-true}
use Rattle.pbx_wire.specs.declared.rec.Rec.{Rec}
use Rattle.pbx_wire.specs.Text.{is_record_number}
use Rattle.pbx_wire.proofs.Written.{both}
use Rattle.pbx_content.specs.declared.shape.Shape.{Shape}
use Rattle.pbx_content.specs.declared.shape.FieldShape.{FieldShape}
use Rattle.pbx_content.specs.Content.{Fields, no_fields, field, Val, get, IsAbove}
use Rattle.pbx_content.specs.Shape.{declared_of, inserted, by_number, fields_of}
use Rattle.pbx_content.specs.Meaning.{with_field}
use Rattle.pbx_content.specs.Onto.{InnerOnto, value_onto_among, values_onto}
use Rattle.pbx_content.specs.Sound.{IsProper}

-- ---- the fields of a type

-- the numbers ascend, and n is below the first
abbrev pub AreAbove : ℕ → List FieldShape → Type 0
AreAbove n [] = Unit {0}
AreAbove n (f ∷ fs) = (n < f.number) × AreAbove f.number fs

-- none of them has the number
abbrev pub Lacks : ℕ → List FieldShape → Type 0
Lacks n [] = Unit {0}
Lacks n (f ∷ fs) = ((n == f.number) ≡ false) × Lacks n fs

lacks-inserted : (n : ℕ) (f : FieldShape) (gs : List FieldShape) → (n == f.number) ≡ false → Lacks n gs → Lacks n (inserted f gs)
lacks-inserted n f [] e h = (e, tt)
lacks-inserted n f (g ∷ gs) e h = at (nat_lt g.number f.number) (lacks-inserted n f gs e h.1)
  where
    at : (b : Bool) → Lacks n (inserted f gs) → Lacks n (if b then g ∷ inserted f gs else f ∷ g ∷ gs)
    at true ih = (h.0, ih)
    at false ih = (e, h)

pub lacks-by_number : (n : ℕ) (fs : List FieldShape) → Lacks n fs → Lacks n (by_number fs)
lacks-by_number n [] h = tt
lacks-by_number n (f ∷ fs) h = lacks-inserted n f (by_number fs) h.0 (lacks-by_number n fs h.1)

above-inserted : (n : ℕ) (f : FieldShape) (gs : List FieldShape) → n < f.number → Lacks f.number gs → AreAbove n gs → AreAbove n (inserted f gs)
above-inserted n f [] lt h a = (lt, tt)
above-inserted n f (g ∷ gs) lt h a = at (nat_lt g.number f.number) refl (λ less. above-inserted g.number f gs less h.1 a.1)
  where
    at : (b : Bool) → nat_lt g.number f.number ≡ b → (g.number < f.number → AreAbove g.number (inserted f gs))
        → AreAbove n (if b then g ∷ inserted f gs else f ∷ g ∷ gs)
    at true e ih = (a.0, ih (grind (arith, nat_tests)))
    at false e ih = let less : f.number < g.number = grind (arith, nat_tests, h.0) in (lt, (less, a.1))

-- each number is positive, and stands once
abbrev pub AreApart : List FieldShape → Type 0
AreApart [] = Unit {0}
AreApart (f ∷ fs) = (0 < f.number) × Lacks f.number fs × AreApart fs

above-by_number : (fs : List FieldShape) → AreApart fs → AreAbove 0 (by_number fs)
above-by_number [] h = tt
above-by_number (f ∷ fs) h = above-inserted 0 f (by_number fs) h.0 (lacks-by_number f.number fs h.1) (above-by_number fs h.2)

lacks_from : (n : ℕ) (fs : List FieldShape) → AllByRecursion (λ m. (n == m) ≡ false) (map (λ (f : FieldShape). f.number) fs) → Lacks n fs
lacks_from n [] h = tt
lacks_from n (f ∷ fs) h = (h.0, lacks_from n fs h.1)

pub apart_from : (fs : List FieldShape) → IsTrue (list_all (λ (f : FieldShape). is_record_number f.number) fs)
    → IsDistinct (λ m n. m == n) (map (λ (f : FieldShape). f.number) fs) → AreApart fs
unfolding IsDistinct
apart_from [] n d = tt
apart_from (f ∷ fs) n d =
    let one = both (is_record_number f.number) (list_all (λ (f : FieldShape). is_record_number f.number) fs) n in
    let low = both (nat_lt 0 f.number) (nat_lt f.number 536870912) one.0 in
    (ltb-true 0 f.number low.0, lacks_from f.number fs d.0, apart_from fs one.1 d.1)

all-inserted : (p : FieldShape → Bool) (f : FieldShape) (gs : List FieldShape) → p f ≡ true → IsTrue (list_all p gs) → IsTrue (list_all p (inserted f gs))
all-inserted p f [] e h = rw e refl
all-inserted p f (g ∷ gs) e h = at (nat_lt g.number f.number) (all-inserted p f gs e parts.1)
  where
    parts : (p g ≡ true) × (list_all p gs ≡ true)
    parts = both (p g) (list_all p gs) h

    at : (b : Bool) → IsTrue (list_all p (inserted f gs)) → IsTrue (list_all p (if b then g ∷ inserted f gs else f ∷ g ∷ gs))
    at true ih = rw (parts.0, ih) refl
    at false ih = rw (e, parts.0, parts.1) refl

pub all-by_number : (p : FieldShape → Bool) (fs : List FieldShape) → IsTrue (list_all p fs) → IsTrue (list_all p (by_number fs))
all-by_number p [] h = refl
all-by_number p (f ∷ fs) h =
    let parts = both (p f) (list_all p fs) h in
    all-inserted p f (by_number fs) parts.0 (all-by_number p fs parts.1)

-- the fields of each type of a proper shape ascend
pub fields_ascend : (shape : Shape) → IsProper shape → (t : ℕ) → AreAbove 0 (fields_of shape t)
fields_ascend shape proper t = above-by_number (declared_of shape t) (apart_from (declared_of shape t) (proper.types t).numbered (proper.types t).distinct)

-- ---- the values of fields

pub get-above : (n m : ℕ) (fs : Fields) → IsAbove m fs → n ≤ m → get n fs ≡ None
get-above n m no_fields h le = refl
get-above n m (field k v fs) h le =
    let apart : (n == k) ≡ false = grind (arith, nat_tests, h.0) in
    rw apart (get-above n k fs h.1 (omega (arith, h.0)))

with_above : (n m : ℕ) (o : Option Val) (fs : Fields) → n < m → IsAbove m fs → IsAbove n (with_field m o fs)
with_above n m None no_fields lt h = tt
with_above n m None (field k v fs) lt h = (omega (arith, h.0), h.1)
with_above n m (Some v) fs lt h = (lt, h)

pub values_above : (shape : Shape) (inner : InnerOnto) (gs : List FieldShape) (old : Fields) (rs : List Rec) (n : ℕ) (hs : List FieldShape) (fs : Fields)
    → AreAbove n hs → values_onto shape inner gs hs old rs ≡ Some fs → IsAbove n fs
values_above shape inner gs old rs n [] fs a e = let is : no_fields ≡ fs = cc in let P : Fields → Type 0 = λ x. IsAbove n x in subst P is tt
values_above shape inner gs old rs n (h ∷ hs) fs a e =
    at (value_onto_among shape inner gs h (get h.number old) rs) (values_onto shape inner gs hs old rs) e (values_above shape inner gs old rs h.number hs) refl
  where
    at : (x : Option (Option Val)) (y : Option Fields) → option_and_then (λ v. option_map (with_field h.number v) y) x ≡ Some fs
        → ((ks : Fields) → AreAbove h.number hs → values_onto shape inner gs hs old rs ≡ Some ks → IsAbove h.number ks)
        → values_onto shape inner gs hs old rs ≡ y → IsAbove n fs
    at None y e ih d = absurd cc
    at (Some v) None e ih d = absurd cc
    at (Some v) (Some ks) e ih d =
        let is : with_field h.number v ks ≡ fs = cc in
        let P : Fields → Type 0 = λ x. IsAbove n x in
        subst P is (with_above n h.number v ks a.0 (ih ks a.1 d))

-- the field has the value that its records give
abbrev pub IsGot : Shape → InnerOnto → List FieldShape → Fields → List Rec → Fields → FieldShape → Type 0
IsGot shape inner gs old rs fs h = value_onto_among shape inner gs h (get h.number old) rs ≡ Some (get h.number fs)

-- each of these fields has
abbrev pub AreGot : Shape → InnerOnto → List FieldShape → Fields → List Rec → Fields → List FieldShape → Type 0
AreGot shape inner gs old rs fs hs = AllByRecursion (IsGot shape inner gs old rs fs) hs

got_more : (shape : Shape) (inner : InnerOnto) (gs : List FieldShape) (old : Fields) (rs : List Rec) (ks : Fields) (n m : ℕ) (v : Option Val)
    (hs : List FieldShape)
    → m ≤ n → AreAbove n hs → AreGot shape inner gs old rs ks hs
    → AreGot shape inner gs old rs (with_field m v ks) hs
got_more shape inner gs old rs ks n m v [] le a g = tt
got_more shape inner gs old rs ks n m v (h ∷ hs) le a g =
    (g.0 ∙ ap (λ (x : Option Val). Some x) (sym (later v)), got_more shape inner gs old rs ks h.number m v hs (omega (arith, a.0)) a.1 g.1)
  where
    later : (v : Option Val) → get h.number (with_field m v ks) ≡ get h.number ks
    later None = refl
    later (Some w) = let apart : (h.number == m) ≡ false = grind (arith, nat_tests, a.0) in rw apart refl

pub values_got : (shape : Shape) (inner : InnerOnto) (gs : List FieldShape) (old : Fields) (rs : List Rec) (n : ℕ) (hs : List FieldShape) (fs : Fields)
    → AreAbove n hs → values_onto shape inner gs hs old rs ≡ Some fs
    → AreGot shape inner gs old rs fs hs
values_got shape inner gs old rs n [] fs a e = tt
values_got shape inner gs old rs n (h ∷ hs) fs a e =
    at (value_onto_among shape inner gs h (get h.number old) rs) (values_onto shape inner gs hs old rs) refl refl e
    (λ ks. values_got shape inner gs old rs h.number hs ks a.1)
  where
    own : (o : Option Val) (ks : Fields) → IsAbove h.number ks → get h.number (with_field h.number o ks) ≡ o
    own None ks above = get-above h.number h.number ks above (omega arith)
    own (Some v) ks above = let here : (h.number == h.number) ≡ true = grind (arith, nat_tests) in rw here refl

    at : (x : Option (Option Val)) (y : Option Fields) → value_onto_among shape inner gs h (get h.number old) rs ≡ x
        → values_onto shape inner gs hs old rs ≡ y → option_and_then (λ v. option_map (with_field h.number v) y) x ≡ Some fs
        → ((ks : Fields) → values_onto shape inner gs hs old rs ≡ Some ks → AreGot shape inner gs old rs ks hs) → AreGot shape inner gs old rs fs (h ∷ hs)
    at None y p q e ih = absurd cc
    at (Some v) None p q e ih = absurd cc
    at (Some v) (Some ks) p q e ih =
        let is : with_field h.number v ks ≡ fs = cc in
        subst (λ x. AreGot shape inner gs old rs x (h ∷ hs)) is (
          p ∙ ap (λ (x : Option Val). Some x) (sym (own v ks (values_above shape inner gs old rs h.number hs ks a.1 q))),
          got_more shape inner gs old rs ks h.number h.number v hs (omega arith) a.1 (ih ks q),
        )
