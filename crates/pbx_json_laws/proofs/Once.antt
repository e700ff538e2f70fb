-- What passes a test at most once in a list.
use Rattle.std.proofs.Common.{◌≡◌, ◌∙◌, ◌⊎◌, ℕ, zero, suc, ◌+◌, ◌≤◌, if◌then◌else◌, cond, List, [], ◌∷◌, ◌++◌, map, Bool, true, false, Option, Some, None}
use Rattle.std.proofs.Common.{refl, ap, sym, subst, inl, inr, arith}
use Rattle.std.specs.Prelude.{Contains, find, filter}
use Rattle.std.specs.List.{flat_map}
use Rattle.pbx_link_rules.proofs.Counted.{count, count_append}
use Rattle.pbx_message_laws.proofs.Listed.{split}

-- what is there is counted
pub count_there : {X : Type 0} (test : X → Bool) (xs : List X) (x : X) → Contains xs x → test x ≡ true → 1 ≤ count test xs
count_there test [] x c e = absurd (omega (arith, c.1))
count_there {X} test (y ∷ ys) x c e = at (split y ys x c) (λ d. count_there test ys x d e)
  where
    at : (y ≡ x) ⊎ Contains ys x → (Contains ys x → 1 ≤ count test ys) → 1 ≤ (if test y then 1 else 0) + count test ys
    at (inl same) more = let is : test y ≡ true = ap test same ∙ e in rw is (omega arith)
    at (inr d) more = let rest = more d in omega (arith, rest)

-- what is told of one is no more than what is told of all
pub count_inside : {A B : Type 0} (tell : A → List B) (test : B → Bool) (xs : List A) (x : A) → Contains xs x
    → count test (tell x) ≤ count test (flat_map tell xs)
count_inside tell test [] x c = absurd (omega (arith, c.1))
count_inside {A} tell test (y ∷ ys) x c = at (split y ys x c) (λ d. count_inside tell test ys x d)
  where
    joined : count test (tell y ++ flat_map tell ys) ≡ count test (tell y) + count test (flat_map tell ys)
    joined = count_append test (tell y) (flat_map tell ys)

    at : (y ≡ x) ⊎ Contains ys x → (Contains ys x → count test (tell x) ≤ count test (flat_map tell ys))
        → count test (tell x) ≤ count test (tell y ++ flat_map tell ys)
    at (inl same) more = let here : count test (tell y) ≡ count test (tell x) = ap (λ (z : A). count test (tell z)) same in omega (arith, here, joined)
    at (inr d) more = let rest = more d in omega (arith, rest, joined)

-- the one that passes is found
pub find_only : {X : Type 0} (test : X → Bool) (xs : List X) (x : X) → Contains xs x → test x ≡ true → count test xs ≤ 1 → find test xs ≡ Some x
find_only test [] x c e once = absurd (omega (arith, c.1))
find_only {X} test (y ∷ ys) x c e once = at (test y) refl (split y ys x c) once (λ d less. find_only test ys x d e less)
  where
    at : (b : Bool) → test y ≡ b → (y ≡ x) ⊎ Contains ys x → (if b then 1 else 0) + count test ys ≤ 1
        → (Contains ys x → count test ys ≤ 1 → find test ys ≡ Some x) → cond b (Some y) (find test ys) ≡ Some x
    at true is (inl same) less more = ap (λ (z : X). Some z) same
    at true is (inr d) less more = let twice = count_there test ys x d e in absurd (omega (arith, twice, less))
    at false is (inl same) less more = let bad : false ≡ true = sym is ∙ ap test same ∙ e in absurd cc
    at false is (inr d) less more = more d (omega (arith, less))

-- nothing that passes is there
pub find_none : {X : Type 0} (test : X → Bool) (xs : List X) → ((x : X) → Contains xs x → test x ≡ false) → find test xs ≡ None
find_none test [] absent = refl
find_none test (y ∷ ys) absent =
    let first : test y ≡ false = absent y (0, omega arith, refl) in
    rw first (find_none test ys (λ x c. absent x (suc c.0, omega (arith, c.1), c.2)))

-- a test that fewer pass
pub count_fewer : {X : Type 0} (p q : X → Bool) → ((x : X) → p x ≡ true → q x ≡ true) → (xs : List X) → count p xs ≤ count q xs
count_fewer p q more [] = omega arith
count_fewer p q more (x ∷ xs) = at (p x) (q x) (more x) (count_fewer p q more xs)
  where
    at : (b c : Bool) → (b ≡ true → c ≡ true) → count p xs ≤ count q xs → (if b then 1 else 0) + count p xs ≤ (if c then 1 else 0) + count q xs
    at true true f rest = omega (arith, rest)
    at true false f rest = absurd (let bad = f refl in cc)
    at false c f rest = omega (arith, rest)

-- those that are left
pub count_left : {X : Type 0} (test keep : X → Bool) (xs : List X) → count test (filter keep xs) ≤ count test xs
count_left test keep [] = omega arith
count_left test keep (x ∷ xs) = at (keep x) (count_left test keep xs)
  where
    at : (b : Bool) → count test (filter keep xs) ≤ count test xs
        → count test (if b then x ∷ filter keep xs else filter keep xs) ≤ (if test x then 1 else 0) + count test xs
    at true rest = omega (arith, rest)
    at false rest = omega (arith, rest)

-- none passes
pub count_none : {X : Type 0} (test : X → Bool) → ((x : X) → test x ≡ false) → (xs : List X) → count test xs ≡ 0
count_none test absent [] = refl
count_none test absent (x ∷ xs) = let first = absent x in let rest = count_none test absent xs in rw first (omega (arith, rest))
