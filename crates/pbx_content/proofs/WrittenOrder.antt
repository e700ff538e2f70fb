-- The fields of a type in a proper shape, by number: each stands once, and the numbers ascend.
use Rattle.std.proofs.Common.{◌≡◌, ℕ, ◌<◌, ◌≤◌, Bool, true, false, if◌then◌else◌, nat_lt, List, [], ◌∷◌, map, Some, None, refl, sym, ap, ◌∙◌, subst, arith}
use Rattle.std.specs.Prelude.{◌==◌}
use Rattle.std.specs.List.{IsDistinct, list_all}
use Rattle.std.specs.List.{AllByRecursion}
use Rattle.std.proofs.lemmas.Map.Keys.{IsDistinct-head, IsDistinct-tail}
use Rattle.std.proofs.lemmas.Bool.{ltb-true}
use Rattle.std.proofs.lemmas.Bool.Decides.{nat_tests}
use Rattle.pbx_wire.specs.Text.{is_record_number}
use Rattle.pbx_wire.proofs.Written.{both}
use Rattle.pbx_content.specs.declared.shape.Shape.{Shape}
use Rattle.pbx_content.specs.declared.shape.FieldShape.{FieldShape}
use Rattle.pbx_content.specs.Shape.{inserted, by_number, fields_of, declared_of, field_of}
use Rattle.pbx_content.specs.Sound.{IsProper}

-- the numbers of the fields ascend from above n, and records may have them
abbrev pub AreAbove : ℕ → List FieldShape → Type 0
AreAbove n [] = Unit {0}
AreAbove n (f ∷ fs) = (n < f.number) × (is_record_number f.number ≡ true) × AreAbove f.number fs

-- no field has the number
abbrev AreApart : ℕ → List FieldShape → Type 0
AreApart n [] = Unit {0}
AreApart n (f ∷ fs) = ((n == f.number) ≡ false) × AreApart n fs

apart_inserted : (n : ℕ) (f : FieldShape) (gs : List FieldShape) → (n == f.number) ≡ false → AreApart n gs → AreApart n (inserted f gs)
apart_inserted n f [] e h = (e, tt)
apart_inserted n f (g ∷ gs) e h = at (nat_lt g.number f.number) (apart_inserted n f gs e h.1)
  where
    at : (b : Bool) → AreApart n (inserted f gs) → AreApart n (if b then g ∷ inserted f gs else f ∷ g ∷ gs)
    at true ih = (h.0, ih)
    at false ih = (e, h)

apart_by_number : (n : ℕ) (fs : List FieldShape) → AllByRecursion (λ m. (n == m) ≡ false) (map (λ f. f.number) fs) → AreApart n (by_number fs)
apart_by_number n [] h = tt
apart_by_number n (f ∷ fs) h = apart_inserted n f (by_number fs) h.0 (apart_by_number n fs h.1)

above_inserted : (n : ℕ) (f : FieldShape) (gs : List FieldShape) → AreAbove n gs → n < f.number → is_record_number f.number ≡ true → AreApart f.number gs
    → AreAbove n (inserted f gs)
above_inserted n f [] a lt is h = (lt, is, tt)
above_inserted n f (g ∷ gs) a lt is h = at (nat_lt g.number f.number) refl (λ less. above_inserted g.number f gs a.2 less is h.1)
  where
    at : (b : Bool) → nat_lt g.number f.number ≡ b → (g.number < f.number → AreAbove g.number (inserted f gs))
        → AreAbove n (if b then g ∷ inserted f gs else f ∷ g ∷ gs)
    at true e ih = (a.0, a.1, ih (grind (arith, nat_tests)))
    at false e ih = let apart = h.0 in let less : f.number < g.number = grind (arith, nat_tests, apart) in (lt, is, (less, a.1, a.2))

above_by_number : (fs : List FieldShape) → list_all (λ f. is_record_number f.number) fs ≡ true → IsDistinct (λ m n. m == n) (map (λ f. f.number) fs)
    → AreAbove 0 (by_number fs)
above_by_number [] h d = tt
above_by_number (f ∷ fs) h d =
    let parts = both (is_record_number f.number) (list_all (λ f. is_record_number f.number) fs) h in
    let positive = both (nat_lt 0 f.number) (nat_lt f.number 536870912) parts.0 in
    let apart = IsDistinct-head (λ m n. m == n) f.number (map (λ (g : FieldShape). g.number) fs) d in
    let rest = IsDistinct-tail (λ m n. m == n) f.number (map (λ (g : FieldShape). g.number) fs) d in
    above_inserted 0 f (by_number fs) (above_by_number fs parts.1 rest) (ltb-true 0 f.number positive.0) parts.0 (apart_by_number f.number fs apart)

pub fields_above : (shape : Shape) (t : ℕ) → IsProper shape → AreAbove 0 (fields_of shape t)
fields_above shape t proper = let h = proper.types t in above_by_number (declared_of shape t) h.numbered h.distinct

-- ---- the field of a number

-- each of these is the type's field of its number
abbrev pub AreListed : List FieldShape → List FieldShape → Type 0
AreListed gs [] = Unit {0}
AreListed gs (f ∷ fs) = (field_of f.number gs ≡ Some f) × AreListed gs fs

listed_more : (g : FieldShape) (gs fs : List FieldShape) → AreAbove g.number fs → AreListed gs fs → AreListed (g ∷ gs) fs
listed_more g gs [] a h = tt
listed_more g gs (f ∷ fs) a h =
    let apart : (f.number == g.number) ≡ false = grind (arith, nat_tests, a.0) in
    (rw apart h.0, listed_more g gs fs (lower_fields f fs a) h.1)
  where
    lower_fields : (f : FieldShape) (fs : List FieldShape) → AreAbove g.number (f ∷ fs) → AreAbove g.number fs
    lower_fields f [] a = tt
    lower_fields f (k ∷ fs) a = (omega (arith, a.0, a.2.0), a.2.1, a.2.2)

pub all_listed : (n : ℕ) (gs : List FieldShape) → AreAbove n gs → AreListed gs gs
all_listed n [] h = tt
all_listed n (g ∷ gs) h =
    let here : (g.number == g.number) ≡ true = grind (arith, nat_tests) in
    (rw here refl, listed_more g gs gs h.2 (all_listed g.number gs h.2))

pub known_above : (n k : ℕ) (gs : List FieldShape) → AreAbove n gs → k ≤ n → field_of k gs ≡ None
known_above n k [] a le = refl
known_above n k (g ∷ gs) a le =
    let apart : (k == g.number) ≡ false = grind (arith, nat_tests, a.0) in
    rw apart (known_above g.number k gs a.2 (omega (arith, a.0)))

-- the field of a number is one of them
pub one_of_them : (p : FieldShape → Bool) (n : ℕ) (gs : List FieldShape) (f : FieldShape) → field_of n gs ≡ Some f → list_all p gs ≡ true → p f ≡ true
one_of_them p n [] f e h = absurd cc
one_of_them p n (g ∷ gs) f e h = at (n == g.number) e (both (p g) (list_all p gs) h) (one_of_them p n gs f)
  where
    at : (b : Bool) → (if b then Some g else field_of n gs) ≡ Some f → (p g ≡ true) × (list_all p gs ≡ true)
        → (field_of n gs ≡ Some f → list_all p gs ≡ true → p f ≡ true) → p f ≡ true
    at true e h ih = let same : g ≡ f = cc in let P : FieldShape → Type 0 = λ x. p x ≡ true in subst P same h.0
    at false e h ih = ih e h.1

pub field_number : (n : ℕ) (gs : List FieldShape) (f : FieldShape) → field_of n gs ≡ Some f → n ≡ f.number
field_number n [] f e = absurd cc
field_number n (g ∷ gs) f e = at (n == g.number) refl e (field_number n gs f)
  where
    at : (b : Bool) → (n == g.number) ≡ b → (if b then Some g else field_of n gs) ≡ Some f → (field_of n gs ≡ Some f → n ≡ f.number) → n ≡ f.number
    at true e h ih = let same : g ≡ f = cc in let here : n ≡ g.number = grind (arith, nat_tests) in here ∙ ap (λ (k : FieldShape). k.number) same
    at false e h ih = ih h

pub numbered_field : (k n : ℕ) (gs : List FieldShape) (f : FieldShape) → AreAbove k gs → field_of n gs ≡ Some f → is_record_number f.number ≡ true
numbered_field k n [] f a e = absurd cc
numbered_field k n (g ∷ gs) f a e = at (n == g.number) e (numbered_field g.number n gs f a.2)
  where
    at : (b : Bool) → (if b then Some g else field_of n gs) ≡ Some f → (field_of n gs ≡ Some f → is_record_number f.number ≡ true) → is_record_number f.number ≡ true
    at true e ih = let same : g ≡ f = cc in ap (λ (x : FieldShape). is_record_number x.number) (sym same) ∙ a.1
    at false e ih = ih e
