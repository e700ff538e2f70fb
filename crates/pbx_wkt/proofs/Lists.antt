-- Lists and truth values.
use Rattle.std.proofs.Common.{◌≡◌, ◌∙◌, ℕ, zero, suc, ◌<◌, ◌&&◌, ◌||◌, cond, get_or, length, List, [], ◌∷◌, Bool, true, false, Option, Some, None}
use Rattle.std.proofs.Common.{refl, ap, sym, arith}
use Rattle.std.specs.Prelude.{Contains, is_some, find, filter}
use Rattle.std.specs.List.{list_any, list_all}

-- ---- truth values

pub and_true : (x : Bool) → (x && true) ≡ x
and_true true = refl
and_true false = refl

pub and_false : (x y : Bool) → (x && false && y) ≡ false
and_false true y = refl
and_false false y = refl

-- a second test counts only where the first passes
pub and_same : (a b c : Bool) → (a ≡ true → b ≡ c) → (a && b) ≡ (a && c)
and_same true b c h = h refl
and_same false b c h = refl

-- two tests that pass alike
pub alike : (a b : Bool) → (a ≡ true → b ≡ true) → (b ≡ true → a ≡ true) → a ≡ b
alike true b h g = sym (h refl)
alike false true h g = g refl
alike false false h g = refl

pub some_is : {X : Type 0} (o : Option X) → is_some o ≡ true → (x : X) × (o ≡ Some x)
some_is None e = absurd cc
some_is (Some x) e = (x, refl)

-- ---- lists

pub passes : {X : Type 0} (test : X → Bool) (xs : List X) (x : X) → find test xs ≡ Some x → test x ≡ true
passes test [] x e = absurd cc
passes {X} test (y ∷ ys) x e = at (test y) refl e (passes test ys x)
  where
    at : (b : Bool) → test y ≡ b → cond b (Some y) (find test ys) ≡ Some x → (find test ys ≡ Some x → test x ≡ true) → test x ≡ true
    at true w same more = let is : y ≡ x = cc in sym (ap test is) ∙ w
    at false w same more = more same

pub found : {X : Type 0} (test : X → Bool) (xs : List X) (x : X) → Contains xs x → test x ≡ true → is_some (find test xs) ≡ true
found test [] x c e = absurd (omega (arith, c.1))
found {X} test (y ∷ ys) x (zero, lt, same) e = ap (λ (b : Bool). is_some (cond b (Some y) (find test ys))) (ap test same ∙ e)
found {X} test (y ∷ ys) x (suc i, lt, same) e = at (test y) (found test ys x (i, omega (arith, lt), same) e)
  where
    at : (b : Bool) → is_some (find test ys) ≡ true → is_some (cond b (Some y) (find test ys)) ≡ true
    at true h = refl
    at false h = h

pub any_filtered : {X : Type 0} (p t : X → Bool) (xs : List X) → list_any t (filter p xs) ≡ list_any (λ x. p x && t x) xs
any_filtered p t [] = refl
any_filtered {X} p t (x ∷ xs) = at (p x) (any_filtered p t xs)
  where
    at : (b : Bool) → list_any t (filter p xs) ≡ list_any (λ y. p y && t y) xs
        → list_any t (cond b (x ∷ filter p xs) (filter p xs)) ≡ ((b && t x) || list_any (λ y. p y && t y) xs)
    at true h = ap (λ (b : Bool). t x || b) h
    at false h = h

pub all_same : {X : Type 0} (p t : X → Bool) → ((x : X) → p x ≡ t x) → (xs : List X) → list_all p xs ≡ list_all t xs
all_same p t same [] = refl
all_same p t same (x ∷ xs) = ap (λ (b : Bool). b && list_all p xs) (same x) ∙ ap (λ (b : Bool). t x && b) (all_same p t same xs)

-- an item that is there stands at its place whatever stands for one that is not
pub stands : {X : Type 0} (xs : List X) (n : ℕ) (a b : X) → n < length xs → get_or xs n a ≡ get_or xs n b
stands [] n a b lt = absurd (omega (arith, lt))
stands (y ∷ ys) zero a b lt = refl
stands (y ∷ ys) (suc n) a b lt = stands ys n a b (omega (arith, lt))
