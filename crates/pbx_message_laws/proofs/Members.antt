-- The fields of a type by number, and of each oneof at most one member with a value.
use Rattle.std.proofs.Common.{◌≡◌, ◌∙◌, ℕ, zero, suc, ◌<◌, Bool, true, false, not, ◌&&◌, if◌then◌else◌, List, [], ◌∷◌, Option, Some, None, refl, sym, ap}
use Rattle.std.proofs.Common.{subst, arith}
use Rattle.std.specs.Prelude.{◌==◌, Contains, IsTrue}
use Rattle.std.specs.List.{list_all}
use Rattle.std.proofs.lemmas.Bool.{eqb-true}
use Rattle.std.proofs.lemmas.Bool.Decides.{nat_tests}
use Rattle.std.proofs.lemmas.List.Elements.{All-contains, All-contains_itself}
use Rattle.std.proofs.lemmas.List.Sums.{AllPass-from_list_all, list_all-from_AllPass}
use Rattle.pbx_content.specs.declared.shape.FieldShape.{FieldShape}
use Rattle.pbx_content.specs.Content.{Fields, has}
use Rattle.pbx_content.specs.Records.{any}
use Rattle.pbx_content.specs.Shape.{field_of, same_oneof, is_other}
use Rattle.pbx_content.specs.Sound.{has_one_member}
use Rattle.pbx_content.proofs.OntoFields.{AreAbove}

-- ---- tests of all items

pub passes_at : {X : Type 0} (p : X → Bool) (xs : List X) (x : X) → list_all p xs ≡ true → Contains xs x → p x ≡ true
passes_at {X} p xs x h c = All-contains (λ (y : X). p y ≡ true) xs x (AllPass-from_list_all p xs h) c

pub all_pass : {X : Type 0} (p : X → Bool) (xs : List X) → ((x : X) → Contains xs x → p x ≡ true) → list_all p xs ≡ true
all_pass p xs each = list_all-from_AllPass p xs (λ k d lt. each _ (All-contains_itself xs k d lt))

pub any_at : {X : Type 0} (p : X → Bool) (xs : List X) (x : X) → Contains xs x → p x ≡ true → any p xs ≡ true
any_at p [] x c e = absurd (omega (arith, c.1))
any_at {X} p (y ∷ ys) x (zero, lt, same) e = rw (ap p same ∙ e) refl
any_at {X} p (y ∷ ys) x (suc i, lt, same) e = at (p y) (any_at p ys x (i, omega (arith, lt), same) e)
  where
    at : (b : Bool) → any p ys ≡ true → (if b then true else any p ys) ≡ true
    at true ih = refl
    at false ih = ih

-- ---- fields by number

above_in : (n : ℕ) (gs : List FieldShape) (g : FieldShape) → AreAbove n gs → Contains gs g → n < g.number
above_in n [] g a c = absurd (omega (arith, c.1))
above_in n (x ∷ xs) g a (zero, lt, same) = subst (λ (y : FieldShape). n < y.number) same a.0
above_in n (x ∷ xs) g a (suc i, lt, same) = let more = above_in x.number xs g a.1 (i, omega (arith, lt), same) in omega (arith, a.0, more)

-- each of the fields is that of its number
pub listed : (n : ℕ) (gs : List FieldShape) (g : FieldShape) → AreAbove n gs → Contains gs g → field_of g.number gs ≡ Some g
listed n [] g a c = absurd (omega (arith, c.1))
listed n (x ∷ xs) g a (zero, lt, same) =
    let here : (x.number == x.number) ≡ true = grind (arith, nat_tests) in
    subst (λ (y : FieldShape). field_of y.number (x ∷ xs) ≡ Some y) same (rw here refl)
listed n (x ∷ xs) g a (suc i, lt, same) =
    let within : Contains xs g = (i, omega (arith, lt), same) in
    let more : x.number < g.number = above_in x.number xs g a.1 within in
    let apart : (g.number == x.number) ≡ false = grind (arith, nat_tests, more) in
    rw apart (listed x.number xs g a.1 within)

-- the field of a number is one of the fields, and has the number
pub record IsFound (n : ℕ) (gs : List FieldShape) (f : FieldShape) : Type 0 where
  pub within : Contains gs f
  pub is : f.number ≡ n

pub found : (n : ℕ) (gs : List FieldShape) (f : FieldShape) → field_of n gs ≡ Some f → IsFound n gs f
found n [] f e = absurd cc
found n (g ∷ gs) f e = at (n == g.number) refl e (found n gs f)
  where
    at : (b : Bool) → (n == g.number) ≡ b → (if b then Some g else field_of n gs) ≡ Some f → (field_of n gs ≡ Some f → IsFound n gs f) → IsFound n (g ∷ gs) f
    at true d e ih =
        let is : g ≡ f = cc in
        record { within = (0, omega arith, is); is = sym (ap (λ (x : FieldShape). x.number) is) ∙ sym (eqb-true n g.number d) }
    at false d e ih = let more = ih e in record { within = (suc more.within.0, omega (arith, more.within.1), more.within.2); is = more.is }

-- ---- oneofs

pub other_swap : (f g : FieldShape) → is_other f g ≡ true → is_other g f ≡ true
other_swap f g e = at f.oneof g.oneof e
  where
    at : (a b : Option ℕ) → (same_oneof a b && not (f.number == g.number)) ≡ true → (same_oneof b a && not (g.number == f.number)) ≡ true
    at None b e = absurd cc
    at (Some x) None e = absurd cc
    at (Some x) (Some y) e = grind (arith, nat_tests)

pub apart : (f g : FieldShape) → is_other f g ≡ true → (f.number == g.number) ≡ false
apart f g e = at (same_oneof f.oneof g.oneof) (f.number == g.number) e
  where
    at : (a b : Bool) → (a && not b) ≡ true → b ≡ false
    at true true e = absurd cc
    at false true e = absurd cc
    at a false e = refl

-- two members of one oneof do not both have a value
abbrev pub OneMember : List FieldShape → Fields → Type 0
OneMember gs fs =
    (f g : FieldShape) → Contains gs f → Contains gs g → is_other f g ≡ true → has f.number fs ≡ true → has g.number fs ≡ true → ⊥

pub one_member : (gs : List FieldShape) (fs : Fields) → IsTrue (has_one_member gs fs) → OneMember gs fs
one_member gs fs h f g c d o p q =
    let inside : not (is_other f g && has f.number fs && has g.number fs) ≡ true =
    passes_at (λ (g : FieldShape). not (is_other f g && has f.number fs && has g.number fs)) gs g
    (passes_at (λ (f : FieldShape). list_all (λ (g : FieldShape). not (is_other f g && has f.number fs && has g.number fs)) gs) gs f h c) d in
    let bad = rw (o, p, q) at inside in
    cc

not_three : (a b c : Bool) → (a ≡ true → b ≡ true → c ≡ true → ⊥) → not (a && b && c) ≡ true
not_three true true true f = absurd (f refl refl refl)
not_three true true false f = refl
not_three true false c f = refl
not_three false b c f = refl

pub one_member_from : (gs : List FieldShape) (fs : Fields) → OneMember gs fs → IsTrue (has_one_member gs fs)
one_member_from gs fs one =
    all_pass (λ (f : FieldShape). list_all (λ (g : FieldShape). not (is_other f g && has f.number fs && has g.number fs)) gs) gs
    (λ f c. all_pass (λ (g : FieldShape). not (is_other f g && has f.number fs && has g.number fs)) gs
    (λ g d. not_three (is_other f g) (has f.number fs) (has g.number fs) (one f g c d)))
