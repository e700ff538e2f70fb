-- Lists that a search finds empty, and items that are like earlier ones in joined lists.
use Rattle.std.proofs.Common.{◌≡◌, ◌∙◌, ◌⊎◌, ℕ, ◌||◌, cond, List, [], ◌∷◌, ◌++◌, map, Bool, true, false, Some, None, refl, ap, sym, inl, inr, arith}
use Rattle.std.specs.Prelude.{Contains, pos, reverse, find, filter, if◌then◌else◌}
use Rattle.std.specs.List.{list_any, enumerate_from}
use Rattle.std.proofs.lemmas.Bool.{false≢true}
use Rattle.std.proofs.lemmas.List.{reverse-append}
use Rattle.std.proofs.lemmas.List.Elements.{Contains-append_right}
use Rattle.std.proofs.lemmas.List.Folds.{list_any-append}
use Rattle.pbx_link_definitions.proofs.Seen.{swap}
use Rattle.pbx_link_definitions.specs.Definitions.{Place, Part}
use Rattle.pbx_link_definitions.specs.Places.{places_where, place_if, repeated}

-- ---- booleans

pub neither : (a b : Bool) → (a || b) ≡ false → (a ≡ false) × (b ≡ false)
neither true b h = absurd (false≢true (sym h))
neither false b h = (refl, h)

pub no_other : (a b : Bool) → a ≡ false → b ≡ false → (a || b) ≡ false
no_other a b p q = ap (λ (c : Bool). c || b) p ∙ q

pub or_cases : (a b : Bool) → (a || b) ≡ true → (a ≡ true) ⊎ (b ≡ true)
or_cases true b h = inl refl
or_cases false b h = inr h

pub or_left : (a b : Bool) → a ≡ true → (a || b) ≡ true
or_left a b e = ap (λ (c : Bool). c || b) e

pub or_right : (a b : Bool) → b ≡ true → (a || b) ≡ true
or_right true b e = refl
or_right false b e = e

-- ---- items

pub here : {X : Type 0} (x : X) (xs : List X) → Contains (x ∷ xs) x
here x xs = (0, omega arith, refl)

pub there : {X : Type 0} (x y : X) (xs : List X) → Contains xs y → Contains (x ∷ xs) y
there x y xs h = Contains-append_right (x ∷ []) xs y h

-- ---- empty lists

pub left_nil : {X : Type 0} (xs ys : List X) → xs ++ ys ≡ [] → xs ≡ []
left_nil [] ys h = refl
left_nil (x ∷ xs) ys h = absurd (cc)

pub right_nil : {X : Type 0} (xs ys : List X) → xs ++ ys ≡ [] → ys ≡ []
right_nil [] ys h = h
right_nil (x ∷ xs) ys h = absurd (cc)

pub map_nil : {X Y : Type 0} (f : X → Y) (xs : List X) → map f xs ≡ [] → xs ≡ []
map_nil f [] h = refl
map_nil f (x ∷ xs) h = absurd (cc)

pub no_place_if : (b : Bool) (p : Place) → place_if b p ≡ [] → b ≡ false
no_place_if true p h = absurd (cc)
no_place_if false p h = refl

-- where no item has the property, the search finds none
pub none_where : {X : Type 0} (P : X → Bool) (place : X → Place) (xs : List X) → places_where P place xs ≡ [] → list_any P xs ≡ false
none_where P place [] h = refl
none_where {X} P place (x ∷ xs) h = at (P x) h (none_where P place xs)
  where
    at : (b : Bool) → map place (cond b (x ∷ filter P xs) (filter P xs)) ≡ [] → (places_where P place xs ≡ [] → list_any P xs ≡ false)
        → (b || list_any P xs) ≡ false
    at true e ih = absurd (cc)
    at false e ih = ih e

-- ---- searches

pub none_found : {X : Type 0} (p : X → Bool) (xs : List X) → list_any p xs ≡ false → find p xs ≡ None
none_found p [] h = refl
none_found {X} p (x ∷ xs) h = at (p x) h (none_found p xs)
  where
    at : (b : Bool) → (b || list_any p xs) ≡ false → (list_any p xs ≡ false → find p xs ≡ None) → cond b (Some x) (find p xs) ≡ None
    at true e ih = absurd (false≢true (sym e))
    at false e ih = ih e

pub reversed : {X : Type 0} (x : X) (xs : List X) → reverse (x ∷ xs) ≡ reverse xs ++ x ∷ []
reversed x xs = reverse-append (x ∷ []) xs

pub any_reversed : {X : Type 0} (p : X → Bool) (xs : List X) → list_any p (reverse xs) ≡ list_any p xs
any_reversed p [] = refl
any_reversed p (x ∷ xs) =
    ap (list_any p) (reversed x xs) ∙ list_any-append p (reverse xs) (x ∷ []) ∙ ap (λ (b : Bool). b || (p x || false)) (any_reversed p xs)
    ∙ swap (list_any p xs) (p x || false) ∙ ap (λ (b : Bool). b || list_any p xs) (swap (p x) false)

pub any_mapped : {X Y : Type 0} (p : Y → Bool) (f : X → Y) (xs : List X) → list_any p (map f xs) ≡ list_any (λ x. p (f x)) xs
any_mapped p f [] = refl
any_mapped p f (x ∷ xs) = ap (λ (b : Bool). p (f x) || b) (any_mapped p f xs)

-- the parts of a list from an index on
abbrev pub parts_from : {X : Type 0} → List ℕ → Place → ℕ → ℕ → List X → List (Part X)
parts_from scope place n k xs = map (λ x. record { scope = scope; place = place ++ pos n ∷ pos x.0 ∷ []; index = x.0; item = x.1 }) (enumerate_from k xs)

-- ---- items that are like earlier ones

module _ {X : Type 0} (like : X → X → Bool) where
  -- none of what was before besides is like one of the items
  pub none_repeated : (before more xs : List X) → repeated like before xs ≡ [] → list_any (λ x. list_any (like x) more) xs ≡ false
      → repeated like (before ++ more) xs ≡ []
  unfolding repeated
  none_repeated before more [] h g = refl
  none_repeated before more (x ∷ xs) h g =
      at (list_any (like x) before) (list_any (like x) more) (list_any (like x) (before ++ more)) (list_any-append (like x) before more) h
      (neither (list_any (like x) more) _ g) (λ e. none_repeated (x ∷ before) more xs e)
    where
      at : (a b c : Bool) → c ≡ (a || b) → (if a then x ∷ [] else []) ++ repeated like (x ∷ before) xs ≡ []
          → (b ≡ false) × (list_any (λ y. list_any (like y) more) xs ≡ false)
          → (repeated like (x ∷ before) xs ≡ [] → list_any (λ y. list_any (like y) more) xs ≡ false → repeated like (x ∷ before ++ more) xs ≡ [])
          → (if c then x ∷ [] else []) ++ repeated like (x ∷ before ++ more) xs ≡ []
      at true b c e w v ih = absurd (cc)
      at false true c e w v ih = absurd (false≢true (sym v.0))
      at false false c e w v ih = ap (λ (d : Bool). (if d then x ∷ [] else []) ++ repeated like (x ∷ before ++ more) xs) e ∙ ih w v.1
