-- Fields told apart by their numbers, and the field that a key names.
use Rattle.std.proofs.Common.{◌≡◌, ℕ, List, [], ◌∷◌, ◌&&◌, ◌||◌, Bool, true, false, if◌then◌else◌, nat_lt, ◌==◌, Option, Some, None, find, map, refl, ap, sym, ◌∙◌, arith}
use Rattle.std.specs.List.{AllByRecursion, IsDistinct, list_any, list_all}
use Rattle.std.specs.Option.{option_or}
use Rattle.std.proofs.lemmas.Bool.Decides.{nat_tests}
use Rattle.std.proofs.lemmas.Map.Keys.{IsDistinct-head, IsDistinct-tail}
use Rattle.pbx_content.specs.Shape.{field_of, inserted, by_number}
use Rattle.pbx_content.specs.Sound.{AreProper}
use Rattle.pbx_content.specs.declared.shape.FieldShape.{FieldShape}
use Rattle.pbx_json_meaning.specs.Names.{field_named, json_name_is, name_is, extension_is}
use Rattle.pbx_json_laws.proofs.Parts.{of_some}

abbrev pub numbers : List FieldShape → List ℕ
numbers fs = map (λ (f : FieldShape). f.number) fs

-- no two fields have one number
abbrev pub AreDistinct : List FieldShape → Type 0
AreDistinct fs = IsDistinct (λ m n. m == n) (numbers fs)

-- a field has the number
abbrev pub has_number : ℕ → List FieldShape → Bool
has_number n fs = list_any (λ (x : FieldShape). x.number == n) fs

-- what holds of each number holds of that of a field that is found
found_among : (P : ℕ → Type 0) (fs : List FieldShape) → AllByRecursion P (numbers fs) → (p : FieldShape → Bool) (f : FieldShape) → find p fs ≡ Some f → P f.number
found_among P [] h p f e = absurd (cc)
found_among P (g ∷ fs) h p f e = at (p g) e (found_among P fs h.1 p f)
  where
    at : (b : Bool) → (if b then Some g else find p fs) ≡ Some f → (find p fs ≡ Some f → P f.number) → P f.number
    at true k later = let same : g ≡ f = of_some g f k in rw (← same) h.0
    at false k later = later k

-- a field that is found is that of its number
pub found_number : (fs : List FieldShape) → AreDistinct fs → (p : FieldShape → Bool) (f : FieldShape) → find p fs ≡ Some f → field_of f.number fs ≡ Some f
found_number [] h p f e = absurd (cc)
found_number (g ∷ fs) h p f e =
    at (p g) e (found_number fs (IsDistinct-tail (λ m n. m == n) g.number (numbers fs) h) p f)
    (found_among (λ y. (g.number == y) ≡ false) fs (IsDistinct-head (λ m n. m == n) g.number (numbers fs) h) p f)
  where
    at : (b : Bool) → (if b then Some g else find p fs) ≡ Some f → (find p fs ≡ Some f → field_of f.number fs ≡ Some f)
        → (find p fs ≡ Some f → (g.number == f.number) ≡ false)
        → (if f.number == g.number then Some g else field_of f.number fs) ≡ Some f
    at true k later apart =
        let same : g ≡ f = of_some g f k in
        let here : (f.number == g.number) ≡ true = rw same (grind (arith, nat_tests)) in
        rw here (ap (λ x. Some x) same)
    at false k later apart =
        let other : (f.number == g.number) ≡ false = grind (arith, nat_tests, apart k) in
        rw other (later k)

-- a key names one of three
pub named_from : (P : Type 0) (key : List ℕ) (fs : List FieldShape) (f : FieldShape) → field_named key fs ≡ Some f
    → ((p : FieldShape → Bool) → find p fs ≡ Some f → P) → P
named_from P key fs f e each = at (find (json_name_is key) fs) refl (find (name_is key) fs) refl e
  where
    at : (o : Option FieldShape) → find (json_name_is key) fs ≡ o → (q : Option FieldShape) → find (name_is key) fs ≡ q
        → option_or o (option_or q (find (extension_is key) fs)) ≡ Some f → P
    at None p None r k = each (extension_is key) k
    at None p (Some g) r k = each (name_is key) (r ∙ k)
    at (Some g) p q r k = each (json_name_is key) (p ∙ k)

-- the field that a key names is that of its number
pub named_number : (fs : List FieldShape) (key : List ℕ) (f : FieldShape) → AreProper fs → field_named key fs ≡ Some f → field_of f.number fs ≡ Some f
named_number fs key f h e = named_from (field_of f.number fs ≡ Some f) key fs f e (λ p k. found_number fs h.distinct p f k)

field_of-inserted : (n : ℕ) (f : FieldShape) (gs : List FieldShape) → field_of n (inserted f gs) ≡ field_of n (f ∷ gs)
field_of-inserted n f [] = refl
field_of-inserted n f (g ∷ gs) = at (nat_lt g.number f.number) refl (n == g.number) refl (n == f.number) refl (field_of-inserted n f gs)
  where
    at : (a : Bool) → nat_lt g.number f.number ≡ a → (b : Bool) → (n == g.number) ≡ b → (c : Bool) → (n == f.number) ≡ c
        → field_of n (inserted f gs) ≡ (if c then Some f else field_of n gs)
        → field_of n (if a then g ∷ inserted f gs else f ∷ g ∷ gs) ≡ (if c then Some f else (if b then Some g else field_of n gs))
    at false l b p c q ih = rw (p, q) refl
    at true l false p c q ih = rw p ih
    at true l true p false q ih = rw p refl
    at true l true p true q ih = absurd (let less : nat_lt g.number f.number ≡ false = grind (arith, nat_tests) in let bad : true ≡ false = sym l ∙ less in cc)

-- sorting by number moves no number's field
pub field_of-by_number : (n : ℕ) (fs : List FieldShape) → field_of n (by_number fs) ≡ field_of n fs
field_of-by_number n [] = refl
field_of-by_number n (f ∷ fs) =
    field_of-inserted n f (by_number fs) ∙ ap (λ (o : Option FieldShape). if n == f.number then Some f else o) (field_of-by_number n fs)

-- what all fields pass all pass in order
all-inserted : (p : FieldShape → Bool) (f : FieldShape) (gs : List FieldShape) → list_all p (inserted f gs) ≡ (p f && list_all p gs)
all-inserted p f [] = refl
all-inserted p f (g ∷ gs) = at (nat_lt g.number f.number) (all-inserted p f gs)
  where
    swap : (a b c : Bool) → (a && (b && c)) ≡ (b && (a && c))
    swap true b c = refl
    swap false true c = refl
    swap false false c = refl

    at : (b : Bool) → list_all p (inserted f gs) ≡ (p f && list_all p gs) → list_all p (if b then g ∷ inserted f gs else f ∷ g ∷ gs) ≡ (p f && (p g && list_all p gs))
    at true ih = ap (λ x. p g && x) ih ∙ swap (p g) (p f) (list_all p gs)
    at false ih = refl

pub all-by_number : (p : FieldShape → Bool) (fs : List FieldShape) → list_all p (by_number fs) ≡ list_all p fs
all-by_number p [] = refl
all-by_number p (f ∷ fs) = all-inserted p f (by_number fs) ∙ ap (λ x. p f && x) (all-by_number p fs)

pub all_along : (p q : FieldShape → Bool) → ((f : FieldShape) → p f ≡ q f) → (fs : List FieldShape) → list_all p fs ≡ list_all q fs
all_along p q e [] = refl
all_along p q e (f ∷ fs) = rw (e f, all_along p q e fs) refl

-- the field of a number has it
pub number_of_field : (n : ℕ) (fs : List FieldShape) (f : FieldShape) → field_of n fs ≡ Some f → ((f.number == n) ≡ true) × (has_number n fs ≡ true)
number_of_field n [] f h = absurd (cc)
number_of_field n (x ∷ fs) f h = at (n == x.number) refl h (number_of_field n fs f)
  where
    at : (b : Bool) → (n == x.number) ≡ b → (if b then Some x else field_of n fs) ≡ Some f
        → (field_of n fs ≡ Some f → ((f.number == n) ≡ true) × (has_number n fs ≡ true))
        → ((f.number == n) ≡ true) × (((x.number == n) || has_number n fs) ≡ true)
    at true e k later =
        let same : x ≡ f = of_some x f k in
        let here : (x.number == n) ≡ true = grind (arith, nat_tests) in
        (rw (← same) here, rw here refl)
    at false e k later =
        let other : (x.number == n) ≡ false = grind (arith, nat_tests) in
        ((later k).0, rw other (later k).1)
