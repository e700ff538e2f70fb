-- The first place of an element that passes a test, where one element more stands behind.
use Rattle.std.proofs.Common.{◌≡◌, ◌∙◌, ℕ, zero, suc, ◌+◌, ◌<◌, ◌≤◌, Bool, true, false, cond, not, nat_lt, List, [], ◌∷◌, ◌++◌, length, take, get_or, refl, ap, sym, arith}
use Rattle.std.specs.Prelude.{Option, Some, None, option_map}
use Rattle.std.specs.Option.{option_or}
use Rattle.std.specs.List.{position, position_or_len}
use Rattle.std.proofs.lemmas.Bool.Decides.{nat_tests}
use Rattle.std.proofs.lemmas.List.{take_more, length-take-le}

suc_less : (m n : ℕ) → nat_lt (suc m) (suc n) ≡ nat_lt m n
suc_less m n = at (nat_lt (suc m) (suc n)) (nat_lt m n) refl refl
  where
    at : (a b : Bool) → nat_lt (suc m) (suc n) ≡ a → nat_lt m n ≡ b → a ≡ b
    at true true e f = refl
    at false false e f = refl
    at true false e f = absurd (grind (arith, nat_tests, e, f))
    at false true e f = absurd (grind (arith, nat_tests, e, f))

some_less : (n : ℕ) → nat_lt 0 (suc n) ≡ true
some_less n = at (nat_lt 0 (suc n)) refl
  where
    at : (b : Bool) → nat_lt 0 (suc n) ≡ b → b ≡ true
    at true e = refl
    at false e = absurd (grind (arith, nat_tests, e))

later : (n m : ℕ) → cond (nat_lt (suc n) (suc m)) (Some (suc n)) None ≡ option_map suc (cond (nat_lt n m) (Some n) None)
later n m = ap (λ (b : Bool). cond b (Some (suc n)) None) (suc_less n m) ∙ at (nat_lt n m)
  where
    at : (b : Bool) → cond b (Some (suc n)) None ≡ option_map suc (cond b (Some n) None)
    at true = refl
    at false = refl

first_is : {X : Type 0} (p : X → Bool) (x : X) (xs : List X) → position p (x ∷ xs) ≡ cond (p x) (Some 0) (option_map suc (position p xs))
first_is p x xs = at (p x)
  where
    one_more : (n : ℕ) → 1 + n ≡ suc n
    one_more n = omega arith

    at : (b : Bool) → cond (nat_lt (cond (not b) (1 + position_or_len p xs) 0) (suc (length xs))) (Some (cond (not b) (1 + position_or_len p xs) 0)) None
        ≡ cond b (Some 0) (option_map suc (position p xs))
    at true = ap (λ (b : Bool). cond b (Some 0) None) (some_less (length xs))
    at false =
        ap (λ (n : ℕ). cond (nat_lt n (suc (length xs))) (Some n) None) (one_more (position_or_len p xs)) ∙ later (position_or_len p xs) (length xs)

pub position_push : {X : Type 0} (p : X → Bool) (xs : List X) (x : X) → position p (xs ++ x ∷ []) ≡ option_or (position p xs) (cond (p x) (Some (length xs)) None)
position_push p [] x = first_is p x []
position_push p (y ∷ ys) x =
    first_is p y (ys ++ x ∷ []) ∙ at (p y) (position_push p ys x) ∙ ap (λ o. option_or o (cond (p x) (Some (suc (length ys))) None)) (sym (first_is p y ys))
  where
    moved : (b : Bool) (o : Option ℕ)
        → option_map suc (option_or o (cond b (Some (length ys)) None)) ≡ option_or (option_map suc o) (cond b (Some (suc (length ys))) None)
    moved b (Some n) = refl
    moved true None = refl
    moved false None = refl

    at : (b : Bool) → position p (ys ++ x ∷ []) ≡ option_or (position p ys) (cond (p x) (Some (length ys)) None)
        → cond b (Some 0) (option_map suc (position p (ys ++ x ∷ [])))
        ≡ option_or (cond b (Some 0) (option_map suc (position p ys))) (cond (p x) (Some (suc (length ys))) None)
    at true h = refl
    at false h = ap (option_map suc) h ∙ moved (p x) (position p ys)

-- what is known of the places of elements, with the one at the next place
pub position_more : {X : Type 0} (p : X → Bool) (xs : List X) (i : ℕ) (x : X) (now after : Option ℕ) → i < length xs → x ≡ get_or xs i x
    → now ≡ position p (take i xs) → after ≡ option_or now (cond (p x) (Some i) None) → after ≡ position p (take (i + 1) xs)
position_more {X} p xs i x now after lt is so_far here =
    let long : length (take i xs) ≡ i = length-take-le i xs (omega (arith, lt)) in
    let all : position p (take (i + 1) xs) ≡ option_or (position p (take i xs)) (cond (p x) (Some (length (take i xs))) None) =
    ap (position p) (take_more xs i x lt ∙ ap (λ (y : X). take i xs ++ y ∷ []) (sym is)) ∙ position_push p (take i xs) x in
    here ∙ ap (λ (o : Option ℕ). option_or o (cond (p x) (Some i) None)) so_far
    ∙ ap (λ (n : ℕ). option_or (position p (take i xs)) (cond (p x) (Some n) None)) (sym long) ∙ sym all
