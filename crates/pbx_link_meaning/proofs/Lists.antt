-- Lists: items of joined lists, how many items pass a test, and numbers that stand once.
use Rattle.std.proofs.Common.{◌≡◌, ◌∙◌, ◌⊎◌, ℕ, zero, suc, ◌+◌, ◌≤◌, ◌==◌, ◌&&◌, ◌||◌, cond, if◌then◌else◌, List, [], ◌∷◌, ◌++◌}
use Rattle.std.proofs.Common.{Bool, true, false, Some, refl, ap, sym, subst, inl, inr, arith}
use Rattle.std.specs.Prelude.{Contains, filter, find}
use Rattle.std.specs.List.{list_any, flat_map, IsDistinct, AllByRecursion}
use Rattle.std.proofs.lemmas.Bool.Decides.{nat_tests}
use Rattle.std.proofs.lemmas.List.Elements.{Contains-append_left, Contains-append_right, Contains-append_cases}
use Rattle.pbx_link_definitions.specs.Places.{repeated}
use Rattle.pbx_link_rules.proofs.Counted.{count}
use Rattle.pbx_link_rules.proofs.Lists.{neither, no_other, or_left, or_right, left_nil, right_nil, here, there}
use Rattle.pbx_link_rules.proofs.Named.{only_found}

-- ---- booleans

pub both_parts : (a b : Bool) → (a && b) ≡ true → (a ≡ true) × (b ≡ true)
both_parts true b h = (refl, h)
both_parts false b h = absurd (cc)

pub both_true : (a b : Bool) → a ≡ true → b ≡ true → (a && b) ≡ true
both_true true true p q = refl
both_true true false p q = absurd (cc)
both_true false b p q = absurd (cc)

-- ---- tests

pub any_weaker : {X : Type 0} (P R : X → Bool) → ((x : X) → P x ≡ false → R x ≡ false) → (xs : List X) → list_any P xs ≡ false → list_any R xs ≡ false
any_weaker P R weaker [] h = refl
any_weaker P R weaker (x ∷ xs) h =
    let both = neither (P x) (list_any P xs) h in no_other (R x) (list_any R xs) (weaker x both.0) (any_weaker P R weaker xs both.1)

-- ---- items of joined lists

-- the item is in what is told of one of these
pub record Told {A B : Type 0} (tell : A → List B) (xs : List A) (y : B) : Type 0 where
  pub holder : A
  pub within : Contains xs holder
  pub inside : Contains (tell holder) y

pub told_of : {A B : Type 0} (tell : A → List B) (xs : List A) (y : B) → Contains (flat_map tell xs) y → Told tell xs y
told_of tell [] y c = absurd (omega (arith, c.1))
told_of {A} {B} tell (x ∷ xs) y c = by_list (Contains-append_cases (tell x) (flat_map tell xs) y c) (told_of tell xs y)
  where
    by_list : Contains (tell x) y ⊎ Contains (flat_map tell xs) y → (Contains (flat_map tell xs) y → Told tell xs y) → Told tell (x ∷ xs) y
    by_list (inl k) ih = record { holder = x; within = here x xs; inside = k }
    by_list (inr k) ih = let t = ih k in record { holder = t.holder; within = there x t.holder xs t.within; inside = t.inside }

pub is_told : {A B : Type 0} (tell : A → List B) (xs : List A) (x : A) (y : B) → Contains xs x → Contains (tell x) y → Contains (flat_map tell xs) y
is_told tell [] x y c d = absurd (omega (arith, c.1))
is_told {A} {B} tell (z ∷ zs) x y (zero, lt, same) d =
    Contains-append_left (tell z) (flat_map tell zs) y (subst (λ (w : A). Contains (tell w) y) (sym same) d)
is_told tell (z ∷ zs) x y (suc i, lt, same) d =
    Contains-append_right (tell z) (flat_map tell zs) y (is_told tell zs x y (i, omega (arith, lt), same) d)

-- none of what is told of all passes a test, so none of what is told of one
pub none_inside : {A B : Type 0} (tell : A → List B) (test : B → Bool) (xs : List A) (x : A) → Contains xs x → list_any test (flat_map tell xs) ≡ false
    → list_any test (tell x) ≡ false
none_inside {A} {B} tell test xs x c none = by_all (tell x) (λ y d. is_told tell xs x y c d)
  where
    passes : (zs : List B) (y : B) → Contains zs y → list_any test zs ≡ false → test y ≡ false
    passes [] y d h = absurd (omega (arith, d.1))
    passes (z ∷ zs) y (zero, lt, same) h = sym (ap test same) ∙ (neither (test z) (list_any test zs) h).0
    passes (z ∷ zs) y (suc i, lt, same) h = passes zs y (i, omega (arith, lt), same) (neither (test z) (list_any test zs) h).1

    by_all : (ys : List B) → ((y : B) → Contains ys y → Contains (flat_map tell xs) y) → list_any test ys ≡ false
    by_all [] among = refl
    by_all (y ∷ ys) among =
        no_other (test y) (list_any test ys) (passes (flat_map tell xs) y (among y (here y ys)) none) (by_all ys (λ z d. among z (there y z ys d)))

pub nil_inside : {A B : Type 0} (tell : A → List B) (xs : List A) (x : A) → Contains xs x → flat_map tell xs ≡ [] → tell x ≡ []
nil_inside tell [] x c h = absurd (omega (arith, c.1))
nil_inside {A} {B} tell (z ∷ zs) x (zero, lt, same) h = subst (λ (w : A). tell w ≡ []) same (left_nil (tell z) (flat_map tell zs) h)
nil_inside tell (z ∷ zs) x (suc i, lt, same) h = nil_inside tell zs x (i, omega (arith, lt), same) (right_nil (tell z) (flat_map tell zs) h)

-- an item that passes a test
pub record Passing {X : Type 0} (test : X → Bool) (xs : List X) : Type 0 where
  pub item : X
  pub within : Contains xs item
  pub passes : test item ≡ true

pub passing : {X : Type 0} (test : X → Bool) (xs : List X) → list_any test xs ≡ true → Passing test xs
passing test [] h = absurd (cc)
passing {X} test (x ∷ xs) h = by_test (test x) refl h (passing test xs)
  where
    by_test : (b : Bool) → test x ≡ b → (b || list_any test xs) ≡ true → (list_any test xs ≡ true → Passing test xs) → Passing test (x ∷ xs)
    by_test true w e ih = record { item = x; within = here x xs; passes = w }
    by_test false w e ih = let p = ih e in record { item = p.item; within = there x p.item xs p.within; passes = p.passes }

-- two items pass a test that one passes at most
pub one_item : {X : Type 0} (test : X → Bool) (xs : List X) (x y : X) → count test xs ≤ 1 → Contains xs x → test x ≡ true → Contains xs y → test y ≡ true
    → x ≡ y
one_item test xs x y once c p d q =
    let first : find test xs ≡ Some x = only_found test x p xs c once in
    let second : find test xs ≡ Some y = only_found test y q xs d once in
    cc

-- ---- how many items pass a test

abbrev at_one : Bool → ℕ
at_one b = if b then 1 else 0

pub none_counted : {X : Type 0} (test : X → Bool) (xs : List X) → list_any test xs ≡ false → count test xs ≡ 0
none_counted test [] h = refl
none_counted {X} test (x ∷ xs) h =
    let both = neither (test x) (list_any test xs) h in
    let own : at_one (test x) ≡ 0 = ap at_one both.0 in
    let rest : count test xs ≡ 0 = none_counted test xs both.1 in
    omega (arith, own, rest)

-- two tests that agree on what is not bad
pub same_count : {X : Type 0} (bad p r : X → Bool) → ((x : X) → bad x ≡ false → p x ≡ r x) → (xs : List X) → list_any bad xs ≡ false → count p xs ≡ count r xs
same_count bad p r same [] h = refl
same_count bad p r same (x ∷ xs) h =
    let both = neither (bad x) (list_any bad xs) h in
    let own : at_one (p x) ≡ at_one (r x) = ap at_one (same x both.0) in
    let rest : count p xs ≡ count r xs = same_count bad p r same xs both.1 in
    omega (arith, own, rest)

pub count_filter : {X : Type 0} (test p : X → Bool) (xs : List X) → count test (filter p xs) ≡ count (λ x. p x && test x) xs
count_filter test p [] = refl
count_filter {X} test p (x ∷ xs) = by_test (p x) (count_filter test p xs)
  where
    by_test : (b : Bool) → count test (filter p xs) ≡ count (λ y. p y && test y) xs
        → count test (cond b (x ∷ filter p xs) (filter p xs)) ≡ at_one (b && test x) + count (λ y. p y && test y) xs
    by_test true ih = ap (λ (n : ℕ). at_one (test x) + n) ih
    by_test false ih = omega (arith, ih)

-- of items that are like one another where they pass the test, at most one passes
module _ {X : Type 0} (like : X → X → Bool) (test : X → Bool) (alike : (x y : X) → test x ≡ true → test y ≡ true → like x y ≡ true) where
  some_like : (x : X) → test x ≡ true → (before : List X) → list_any test before ≡ true → list_any (like x) before ≡ true
  some_like x is [] e = absurd (cc)
  some_like x is (b ∷ before) e = by_test (test b) refl e (some_like x is before)
    where
      by_test : (c : Bool) → test b ≡ c → (c || list_any test before) ≡ true → (list_any test before ≡ true → list_any (like x) before ≡ true)
          → (like x b || list_any (like x) before) ≡ true
      by_test true w h ih = or_left (like x b) (list_any (like x) before) (alike x b is w)
      by_test false w h ih = or_right (like x b) (list_any (like x) before) (ih h)

  abbrev at_most : Bool → ℕ
  at_most seen = if seen then 0 else 1

  counted_once : (before xs : List X) → repeated like before xs ≡ [] → count test xs ≤ at_most (list_any test before)
  unfolding repeated
  counted_once before [] e = omega arith
  counted_once before (x ∷ xs) e = by_like (list_any (like x) before) refl e (counted_once (x ∷ before) xs)
    where
      by_tests : (b c : Bool) → test x ≡ b → list_any test before ≡ c → list_any (like x) before ≡ false → count test xs ≤ at_most (b || c)
          → at_one b + count test xs ≤ at_most c
      by_tests true true v u w less = absurd (let some = some_like x v before u in cc)
      by_tests true false v u w less = omega (arith, less)
      by_tests false c v u w less = omega (arith, less)

      by_like : (c : Bool) → list_any (like x) before ≡ c → (if c then x ∷ [] else []) ++ repeated like (x ∷ before) xs ≡ []
          → (repeated like (x ∷ before) xs ≡ [] → count test xs ≤ at_most (list_any test (x ∷ before)))
          → at_one (test x) + count test xs ≤ at_most (list_any test before)
      by_like true w h ih = absurd (cc)
      by_like false w h ih = by_tests (test x) (list_any test before) refl refl w (ih h)

  pub once : (xs : List X) → repeated like [] xs ≡ [] → count test xs ≤ 1
  once xs e = counted_once [] xs e

-- ---- numbers that stand once

pub equal_is : (m n : ℕ) → (m == n) ≡ true → m ≡ n
equal_is m n e = grind (arith, nat_tests, e)

is_equal : (n : ℕ) → (n == n) ≡ true
is_equal n = grind (arith, nat_tests)

none_equal : (n : ℕ) (ms : List ℕ) → count (λ m. n == m) ms ≤ 0 → AllByRecursion (λ m. (n == m) ≡ false) ms
none_equal n [] le = tt
none_equal n (m ∷ ms) le = by_test (n == m) refl le (none_equal n ms)
  where
    by_test : (b : Bool) → (n == m) ≡ b → at_one b + count (λ k. n == k) ms ≤ 0
        → (count (λ k. n == k) ms ≤ 0 → AllByRecursion (λ k. (n == k) ≡ false) ms) → ((n == m) ≡ false) × AllByRecursion (λ k. (n == k) ≡ false) ms
    by_test true w few ih = absurd (omega (arith, few))
    by_test false w few ih = (w, ih (omega (arith, few)))

pub distinct : (ns : List ℕ) → ((n : ℕ) → count (λ m. n == m) ns ≤ 1) → IsDistinct (λ m n. m == n) ns
unfolding IsDistinct
distinct [] h = tt
distinct (n ∷ ns) h = (
  none_equal n ns (let own : at_one (n == n) ≡ 1 = ap at_one (is_equal n) in let le = h n in omega (arith, own, le)),
  distinct ns (λ k. let le = h k in omega (arith, le)),
)
