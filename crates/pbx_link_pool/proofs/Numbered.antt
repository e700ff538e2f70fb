-- Items of parts, one more at each step of a loop.
use Rattle.std.proofs.Common.{◌≡◌, ◌≢◌, ◌∙◌, ℕ, ◌+◌, ◌-◌, ◌<◌, ℤ, Bool, true, false, List, [], ◌∷◌, ◌++◌, length, take, get_or, map, refl, ap, sym, arith}
use Rattle.std.specs.Prelude.{◌==◌, filter, Option, Some, if◌then◌else◌}
use Rattle.std.specs.List.{enumerate_from, flat_map, remove}
use Rattle.std.proofs.lemmas.List.Edits.{remove-append_right}
use Rattle.std.proofs.lemmas.Grind.{flat_map-append}
use Rattle.std.proofs.lemmas.List.{take_more, map-append, length-take-le}
use Rattle.std.proofs.lemmas.List.Elements.{filter-append}
use Rattle.std.proofs.lemmas.Bool.Decides.{nat_tests}
use Rattle.pbx_link_pool.specs.Items.{behind_dot, exact_item}

-- one item more is the next by its number
pub enumerate_push : {X : Type 0} (n : ℕ) (xs : List X) (x : X) → enumerate_from n (xs ++ x ∷ []) ≡ enumerate_from n xs ++ (n + length xs, x) ∷ []
enumerate_push {X} n [] x = let e : n ≡ n + 0 = omega arith in ap (λ (k : ℕ). (k, x) ∷ []) e
enumerate_push {X} n (y ∷ ys) x =
    let e : (n + 1) + length ys ≡ n + length (y ∷ ys) = omega arith in
    ap (λ (es : List (ℕ × X)). (n, y) ∷ es) (enumerate_push (n + 1) ys x ∙ ap (λ (k : ℕ). enumerate_from (n + 1) ys ++ (k, x) ∷ []) e)

append_nil : {A : Type 0} (is : List A) → is ≡ is ++ []
append_nil {A} [] = refl
append_nil {A} (a ∷ is) = ap (λ (js : List A). a ∷ js) (append_nil is)

length_below : {X : Type 0} (i : ℕ) (xs : List X) → i < length xs → length (take i xs) ≡ i
length_below i xs lt = length-take-le i xs (omega (arith, lt))

up_to : {X : Type 0} (xs : List X) (i : ℕ) (x : X) → i < length xs → x ≡ get_or xs i x → take (i + 1) xs ≡ take i xs ++ x ∷ []
up_to {X} xs i x lt is = take_more xs i x lt ∙ ap (λ (y : X). take i xs ++ y ∷ []) (sym is)

-- the items of the numbered elements that pass the test, with those of one element more
pub numbered_more : {X A : Type 0} (test : A → Bool) (g : ℕ × X → A) (xs : List X) (i : ℕ) (x : X) (item : A) (now after : List A) → i < length xs → x ≡ get_or xs i x → item ≡ g (i, x)
    → now ≡ filter test (map g (enumerate_from 0 (take i xs))) → after ≡ now ++ filter test (item ∷ []) → after ≡ filter test (map g (enumerate_from 0 (take (i + 1) xs)))
numbered_more {X} {A} test g xs i x item now after lt is of so_far here =
    let at : 0 + length (take i xs) ≡ i = ap (λ (n : ℕ). 0 + n) (length_below i xs lt) ∙ omega arith in
    let all : enumerate_from 0 (take (i + 1) xs) ≡ enumerate_from 0 (take i xs) ++ (i, x) ∷ [] =
    ap (enumerate_from 0) (up_to xs i x lt is) ∙ enumerate_push 0 (take i xs) x ∙ ap (λ (n : ℕ). enumerate_from 0 (take i xs) ++ (n, x) ∷ []) at in
    here ∙ ap (λ (is : List A). is ++ filter test (item ∷ [])) so_far ∙ ap (λ (a : A). filter test (map g (enumerate_from 0 (take i xs))) ++ filter test (a ∷ [])) of
    ∙ sym (ap (λ (es : List (ℕ × X)). filter test (map g es)) all ∙ ap (filter test) (map-append g (enumerate_from 0 (take i xs)) ((i, x) ∷ []))
    ∙ filter-append test (map g (enumerate_from 0 (take i xs))) (g (i, x) ∷ []))

-- the items of the elements that pass the test, with those of one element more
pub mapped_more : {X A : Type 0} (test : A → Bool) (g : X → A) (xs : List X) (i : ℕ) (x : X) (item : A) (now after : List A) → i < length xs → x ≡ get_or xs i x → item ≡ g x
    → now ≡ filter test (map g (take i xs)) → after ≡ now ++ filter test (item ∷ []) → after ≡ filter test (map g (take (i + 1) xs))
mapped_more {X} {A} test g xs i x item now after lt is of so_far here =
    here ∙ ap (λ (is : List A). is ++ filter test (item ∷ [])) so_far ∙ ap (λ (a : A). filter test (map g (take i xs)) ++ filter test (a ∷ [])) of
    ∙ sym (ap (λ (ys : List X). filter test (map g ys)) (up_to xs i x lt is) ∙ ap (filter test) (map-append g (take i xs) (x ∷ []))
    ∙ filter-append test (map g (take i xs)) (g x ∷ []))

-- the items of the elements, with those of one element more
pub told_more : {X A : Type 0} (g : X → List A) (xs : List X) (i : ℕ) (x : X) (of now after : List A) → i < length xs → x ≡ get_or xs i x → of ≡ g x
    → now ≡ flat_map g (take i xs) → after ≡ now ++ of → after ≡ flat_map g (take (i + 1) xs)
told_more {X} {A} g xs i x of now after lt is e so_far here =
    here ∙ ap (λ (is : List A). is ++ of) so_far ∙ ap (λ (is : List A). flat_map g (take i xs) ++ is) (e ∙ append_nil (g x))
    ∙ sym (ap (flat_map g) (up_to xs i x lt is) ∙ flat_map-append g (take i xs) (x ∷ []))

not_behind : (name : List ℕ) (z : ℤ) → ((rest : List ℕ) → name ≢ 46 ∷ rest) → behind_dot name z ≡ []
not_behind [] z plain = refl
not_behind (b ∷ bs) z plain = by_test ((bs, z) ∷ []) (b == 46) refl
  where
    by_test : (is : List (List ℕ × ℤ)) (c : Bool) → b == 46 ≡ c → (if c then is else []) ≡ []
    by_test is true w = absurd (plain bs (ap (λ (d : ℕ). d ∷ bs) (grind (arith, nat_tests, w))))
    by_test is false w = refl

-- a name without a leading dot adds nothing
pub none_added : (items : List (List ℕ × ℤ)) (extendee : Option (List ℕ)) (number : Option ℤ) (name : List ℕ) (z : ℤ) → extendee ≡ Some name → number ≡ Some z → ((rest : List ℕ) → name ≢ 46 ∷ rest)
    → items ≡ items ++ exact_item extendee number
none_added items extendee number name z named numbered plain =
    append_nil items
    ∙ ap (λ (is : List (List ℕ × ℤ)). items ++ is) (sym (ap (λ (e : Option (List ℕ)). exact_item e number) named ∙ ap (exact_item (Some name)) numbered ∙ not_behind name z plain))

-- without what was added last, a list is as it was
pub removed_last : {X : Type 0} (xs : List X) (x : X) (n : ℕ) → n ≡ length xs → remove (xs ++ x ∷ []) n ≡ xs
removed_last {X} xs x n is =
    let none : n - n ≡ 0 = omega arith in
    remove-append_right xs (x ∷ []) n n (sym is) (omega arith) ∙ ap (λ (k : ℕ). xs ++ remove (x ∷ []) k) none ∙ sym (append_nil xs)
