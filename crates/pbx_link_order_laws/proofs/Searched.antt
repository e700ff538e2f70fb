-- Searches in lists of the same items, and in what is told of each item.
use Rattle.std.proofs.Common.{◌≡◌, ◌∙◌, zero, suc, ◌&&◌, ◌||◌, cond, List, [], ◌∷◌, map, Bool, true, false, Option, Some, None, refl, ap, sym, arith}
use Rattle.std.specs.Prelude.{Contains, find, filter}
use Rattle.std.specs.List.{list_any, list_all, flat_map}
use Rattle.std.specs.Option.{option_or}
use Rattle.std.proofs.lemmas.Bool.{false≢true}
use Rattle.std.proofs.lemmas.List.Folds.{list_any-append, find-append}
use Rattle.pbx_link_definitions.specs.Definitions.{Place}
use Rattle.pbx_link_definitions.specs.Places.{places_where}
use Rattle.pbx_link_rules.proofs.Lists.{neither, here, there}
use Rattle.pbx_link_rules.proofs.Types.{any_of}

-- ---- booleans

-- two tests of which each passes where the other does
pub as_one : (a b : Bool) → (a ≡ true → b ≡ true) → (b ≡ true → a ≡ true) → a ≡ b
as_one true true f g = refl
as_one false false f g = refl
as_one true false f g = sym (f refl)
as_one false true f g = g refl

pub not_so : (b : Bool) → (b ≡ true → ⊥) → b ≡ false
not_so true f = absurd (f refl)
not_so false f = refl

pub both_so : (a b : Bool) → (a && b) ≡ true → (a ≡ true) × (b ≡ true)
both_so true b h = (refl, h)
both_so false b h = absurd (false≢true h)

pub so_and_not : (b : Bool) → b ≡ true → b ≡ false → ⊥
so_and_not b is not_it = false≢true (sym not_it ∙ is)

-- ---- items

pub no_item : {X : Type 0} (x : X) → Contains [] x → ⊥
no_item x c = absurd (omega (arith, c.1))

-- an item that passes
pub passing : {X : Type 0} (test : X → Bool) (xs : List X) → list_any test xs ≡ true → (x : X) × Contains xs x × (test x ≡ true)
passing test [] e = absurd (false≢true e)
passing {X} test (x ∷ xs) e = at (test x) refl e (passing test xs)
  where
    at : (b : Bool) → test x ≡ b → (b || list_any test xs) ≡ true → (list_any test xs ≡ true → (y : X) × Contains xs y × (test y ≡ true))
        → (y : X) × Contains (x ∷ xs) y × (test y ≡ true)
    at true w h ih = (x, here x xs, w)
    at false w h ih = let r = ih h in (r.0, there x r.0 xs r.1, r.2)

pub none_any : {X : Type 0} (test : X → Bool) (xs : List X) → ((x : X) → Contains xs x → test x ≡ true → ⊥) → list_any test xs ≡ false
none_any test xs none = not_so (list_any test xs) (λ e. let p = passing test xs e in none p.0 p.1 p.2)

-- each item passes
pub all_at : {X : Type 0} (test : X → Bool) (xs : List X) (x : X) → list_all test xs ≡ true → Contains xs x → test x ≡ true
all_at test [] x e c = absurd (no_item x c)
all_at test (y ∷ ys) x e (zero, lt, same) = ap test (sym same) ∙ (both_so (test y) (list_all test ys) e).0
all_at test (y ∷ ys) x e (suc i, lt, same) = all_at test ys x (both_so (test y) (list_all test ys) e).1 (i, omega (arith, lt), same)

-- where none passes, none has a place
pub none_placed : {X : Type 0} (test : X → Bool) (place : X → Place) (xs : List X) → list_any test xs ≡ false → places_where test place xs ≡ []
none_placed test place [] e = refl
none_placed {X} test place (x ∷ xs) e =
    let two = neither (test x) (list_any test xs) e in
    at (test x) two.0 (none_placed test place xs two.1)
  where
    at : (b : Bool) → b ≡ false → places_where test place xs ≡ [] → map place (cond b (x ∷ filter test xs) (filter test xs)) ≡ []
    at true w ih = absurd (false≢true (sym w))
    at false w ih = ih

-- ---- lists of the same items

module _ {X : Type 0} (xs ys : List X) (into : (x : X) → Contains xs x → Contains ys x) (back : (x : X) → Contains ys x → Contains xs x) where
  pub any_alike : (test : X → Bool) → list_any test xs ≡ list_any test ys
  any_alike test =
      as_one (list_any test xs) (list_any test ys) (λ e. let p = passing test xs e in any_of test ys p.0 (into p.0 p.1) p.2)
      (λ e. let p = passing test ys e in any_of test xs p.0 (back p.0 p.1) p.2)

-- ---- what is told of each item

module _ {X Y : Type 0} (tell : X → List Y) (test : Y → Bool) where
  pub any_told : (xs : List X) → list_any test (flat_map tell xs) ≡ list_any (λ x. list_any test (tell x)) xs
  any_told [] = refl
  any_told (x ∷ xs) = list_any-append test (tell x) (flat_map tell xs) ∙ ap (λ (b : Bool). list_any test (tell x) || b) (any_told xs)

  found_in : (xs : List X) (y : Y) → find test (flat_map tell xs) ≡ Some y → (x : X) × Contains xs x × (find test (tell x) ≡ Some y)
  found_in [] y e = absurd (cc)
  found_in (x ∷ xs) y e = at (find test (tell x)) refl (sym (find-append test (tell x) (flat_map tell xs)) ∙ e) (found_in xs y)
    where
      at : (o : Option Y) → find test (tell x) ≡ o → option_or o (find test (flat_map tell xs)) ≡ Some y
          → (find test (flat_map tell xs) ≡ Some y → (z : X) × Contains xs z × (find test (tell z) ≡ Some y))
          → (z : X) × Contains (x ∷ xs) z × (find test (tell z) ≡ Some y)
      at None w h ih = let r = ih h in (r.0, there x r.0 xs r.1, r.2)
      at (Some z) w h ih = (x, here x xs, w ∙ h)

  both_none : (a b : Option Y) → option_or a b ≡ None → (a ≡ None) × (b ≡ None)
  both_none None b e = (refl, e)
  both_none (Some y) b e = absurd (cc)

  none_in : (xs : List X) → find test (flat_map tell xs) ≡ None → (x : X) → Contains xs x → find test (tell x) ≡ None
  none_in [] e x c = absurd (no_item x c)
  none_in (y ∷ ys) e x (zero, lt, same) =
      ap (λ (z : X). find test (tell z)) (sym same)
      ∙ (both_none (find test (tell y)) (find test (flat_map tell ys)) (sym (find-append test (tell y) (flat_map tell ys)) ∙ e)).0
  none_in (y ∷ ys) e x (suc i, lt, same) =
      none_in ys (both_none (find test (tell y)) (find test (flat_map tell ys)) (sym (find-append test (tell y) (flat_map tell ys)) ∙ e)).1 x
      (i, omega (arith, lt), same)

  -- the first that passes, where no two items tell of one that does
  pub found_alike : (xs ys : List X) → ((x : X) → Contains xs x → Contains ys x) → ((x : X) → Contains ys x → Contains xs x)
      → ((x z : X) (a b : Y) → Contains xs x → Contains xs z → find test (tell x) ≡ Some a → find test (tell z) ≡ Some b → x ≡ z)
      → find test (flat_map tell xs) ≡ find test (flat_map tell ys)
  found_alike xs ys into back one = at (find test (flat_map tell xs)) (find test (flat_map tell ys)) refl refl
    where
      at : (o p : Option Y) → find test (flat_map tell xs) ≡ o → find test (flat_map tell ys) ≡ p → o ≡ p
      at None None u v = refl
      at (Some a) None u v =
          let r = found_in xs a u in
          let none = none_in ys v r.0 (into r.0 r.1) in
          sym r.2 ∙ none
      at None (Some b) u v =
          let s = found_in ys b v in
          let none = none_in xs u s.0 (back s.0 s.1) in
          sym none ∙ s.2
      at (Some a) (Some b) u v =
          let r = found_in xs a u in
          let s = found_in ys b v in
          sym r.2 ∙ ap (λ (x : X). find test (tell x)) (one r.0 s.0 a b r.1 (back s.0 s.1) r.2 s.2) ∙ s.2
