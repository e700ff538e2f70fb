-- What is moved past others of other numbers.
use Rattle.std.proofs.Common.{◌≡◌, ◌∙◌, ℕ, ℤ, List, [], ◌∷◌, Bool, true, false, cond, nat_lt, map, refl, sym, ap, subst, arith}
use Rattle.std.specs.Prelude.{not, ◌&&◌}
use Rattle.std.specs.List.{filter}
use Rattle.std.specs.List.Sorted.{ties}
use Rattle.std.specs.Ordering.{int_cmp, nat_cmp, is_lt}
use Rattle.std.proofs.lemmas.Bool.Decides.{nat_tests}
use Rattle.pbx_content.specs.Content.{Key, number_key, key_before, Val, Pairs, no_pairs, pair, with_pair, by_key}
use Rattle.pbx_content.proofs.OntoPairs.{Compared, first, later, same, key_compared, key_follows}
use Rattle.pbx_content_map.specs.Entries.{with_entry, with_entries}
use Rattle.pbx_content_codec.specs.Keyed.{number_in}

-- ---- lists with the same elements of each class, where neighbours of two classes may change places

module _ {X : Type 0} (is_of : X → X → Bool) (own : (x : X) → is_of x x ≡ true)
    (joined : (p x y : X) → is_of p x ≡ true → is_of p y ≡ is_of x y)
    (Same : List X → List X → Type 0) (none : Same [] []) (more : (x : X) (xs ys : List X) → Same xs ys → Same (x ∷ xs) (x ∷ ys))
    (through : (xs ys zs : List X) → Same xs ys → Same ys zs → Same xs zs)
    (swap : (x y : X) (xs : List X) → is_of x y ≡ false → Same (y ∷ x ∷ xs) (x ∷ y ∷ xs)) where
  itself : (xs : List X) → Same xs xs
  itself [] = none
  itself (x ∷ xs) = more x xs xs (itself xs)

  -- without the first of the class of x
  without_first : X → List X → List X
  without_first x [] = []
  without_first x (y ∷ ys) = cond (is_of x y) ys (y ∷ without_first x ys)

  pulled : (x : X) (r ys : List X) → filter (is_of x) ys ≡ x ∷ r → Same ys (x ∷ without_first x ys)
  unfolding without_first
  pulled x r [] e = absurd (cc)
  pulled x r (y ∷ ys) e = at (is_of x y) refl e (pulled x r ys)
    where
      at : (b : Bool) → is_of x y ≡ b → cond b (y ∷ filter (is_of x) ys) (filter (is_of x) ys) ≡ x ∷ r
          → (filter (is_of x) ys ≡ x ∷ r → Same ys (x ∷ without_first x ys))
          → Same (y ∷ ys) (x ∷ cond b ys (y ∷ without_first x ys))
      at true f h ih = let here : y ≡ x = cc in subst (λ (z : X). Same (y ∷ ys) (z ∷ ys)) here (itself (y ∷ ys))
      at false f h ih =
          through (y ∷ ys) (y ∷ x ∷ without_first x ys) (x ∷ y ∷ without_first x ys) (more y ys (x ∷ without_first x ys) (ih h))
          (swap x y (without_first x ys) f)

  kept : (x p : X) (r ys : List X) → filter (is_of x) ys ≡ x ∷ r → filter (is_of p) ys ≡ filter (is_of p) (x ∷ without_first x ys)
  unfolding without_first
  kept x p r [] e = absurd (cc)
  kept x p r (y ∷ ys) e = at (is_of x y) refl e (kept x p r ys)
    where
      past : (a b : Bool) → is_of p x ≡ a → is_of p y ≡ b → is_of x y ≡ false
          → filter (is_of p) ys ≡ cond a (x ∷ filter (is_of p) (without_first x ys)) (filter (is_of p) (without_first x ys))
          → cond b (y ∷ filter (is_of p) ys) (filter (is_of p) ys)
          ≡ cond a (x ∷ cond b (y ∷ filter (is_of p) (without_first x ys)) (filter (is_of p) (without_first x ys)))
          (cond b (y ∷ filter (is_of p) (without_first x ys)) (filter (is_of p) (without_first x ys)))
      past true true f g d ih = absurd (let bad : true ≡ false = sym g ∙ joined p x y f ∙ d in cc)
      past true false f g d ih = ih
      past false true f g d ih = ap (λ (t : List X). y ∷ t) ih
      past false false f g d ih = ih

      at : (b : Bool) → is_of x y ≡ b → cond b (y ∷ filter (is_of x) ys) (filter (is_of x) ys) ≡ x ∷ r
          → (filter (is_of x) ys ≡ x ∷ r → filter (is_of p) ys ≡ filter (is_of p) (x ∷ without_first x ys))
          → filter (is_of p) (y ∷ ys) ≡ filter (is_of p) (x ∷ cond b ys (y ∷ without_first x ys))
      at true f h ih = let here : y ≡ x = cc in ap (λ (z : X). filter (is_of p) (z ∷ ys)) here
      at false f h ih = past (is_of p x) (is_of p y) refl refl f (ih h)

  tails : (b : Bool) (x : X) (xs ys : List X) → cond b (x ∷ xs) xs ≡ cond b (x ∷ ys) ys → xs ≡ ys
  tails true x xs ys e = cc
  tails false x xs ys e = e

  not_none : (y : X) (ys : List X) → filter (is_of y) (y ∷ ys) ≡ [] → ⊥
  not_none y ys e = let bad : y ∷ filter (is_of y) ys ≡ [] = sym (rw (own y) refl) ∙ e in cc

  moved : (xs ys : List X) → ((p : X) → filter (is_of p) ys ≡ filter (is_of p) xs) → Same ys xs
  moved [] [] h = none
  moved [] (y ∷ ys) h = absurd (not_none y ys (h y))
  moved (x ∷ xs) ys h =
      let here : filter (is_of x) ys ≡ x ∷ filter (is_of x) xs = h x ∙ rw (own x) refl in
      through ys (x ∷ without_first x ys) (x ∷ xs) (pulled x (filter (is_of x) xs) ys here)
      (more x (without_first x ys) xs
      (moved xs (without_first x ys) (λ p. tails (is_of p x) x (filter (is_of p) (without_first x ys)) (filter (is_of p) xs)
      (sym (kept x p (filter (is_of x) xs) ys here) ∙ h p))))

-- ---- of two keys the order does not matter

commutes : (k l : Key) (v w : Val) (ps : Pairs) → key_before l k ≡ true → key_before k l ≡ false
    → with_pair k v (with_pair l w ps) ≡ with_pair l w (with_pair k v ps)
commutes k l v w no_pairs e d = rw (d, e) refl
commutes k l v w (pair m u qs) e d = at (key_compared l m) (key_compared k m) (commutes k l v w qs e d)
  where
    at : Compared key_before l m → Compared key_before k m → with_pair k v (with_pair l w qs) ≡ with_pair l w (with_pair k v qs)
        → with_pair k v (with_pair l w (pair m u qs)) ≡ with_pair l w (with_pair k v (pair m u qs))
    at (first p q) (first r s) ih = simp (p, r, d, e) refl
    at (first p q) (later r s) ih = simp (p, s, r, d, e) refl
    at (first p q) (same t r s) ih = simp (p, r, s, d, e) refl
    at (later p q) (later r s) ih = simp (p, q, r, s) (ap (λ (x : Pairs). pair m u x) ih)
    at (later p q) (first r s) ih = absurd (let bad = key_follows m l k p e in cc)
    at (later p q) (same t r s) ih = absurd (let bad = key_follows m l k p e in cc)
    at (same t p q) (later r s) ih = simp (p, q, r, s) refl
    at (same t p q) (first r s) ih = absurd (let here : key_before m k ≡ true = ap (λ x. key_before x k) (sym t) ∙ e in cc)
    at (same t p q) (same u r s) ih = absurd (let here : key_before m k ≡ true = ap (λ x. key_before x k) (sym t) ∙ e in cc)

-- ---- numbers that are the same

is_alike : ℤ → ℤ → Bool
is_alike y z = not (is_lt (int_cmp y z)) && not (is_lt (int_cmp z y))

alike_own : (z : ℤ) → is_alike z z ≡ true
unfolding is_alike
alike_own z = at (key_compared (number_key z) (number_key z))
  where
    at : Compared key_before (number_key z) (number_key z) → is_alike z z ≡ true
    at (first p q) = absurd (let bad : true ≡ false = sym p ∙ q in cc)
    at (later p q) = absurd (let bad : true ≡ false = sym p ∙ q in cc)
    at (same s p q) = rw p refl

alike_same : (y z : ℤ) → is_alike y z ≡ true → y ≡ z
unfolding is_alike
alike_same y z e = at (key_compared (number_key y) (number_key z)) e
  where
    at : Compared key_before (number_key y) (number_key z) → is_alike y z ≡ true → y ≡ z
    at (first p q) h = absurd (let bad : false ≡ true = sym (rw p refl) ∙ h in cc)
    at (later p q) h = absurd (let bad : false ≡ true = sym (rw (q, p) refl) ∙ h in cc)
    at (same s p q) h = cc

-- keys whose numbers differ
swapped : (k l : Key) (v w : Val) (ps : Pairs) → is_alike (number_in l) (number_in k) ≡ false
    → with_pair k v (with_pair l w ps) ≡ with_pair l w (with_pair k v ps)
swapped k l v w ps e = at (key_compared k l)
  where
    at : Compared key_before k l → with_pair k v (with_pair l w ps) ≡ with_pair l w (with_pair k v ps)
    at (first p q) = sym (commutes l k w v ps p q)
    at (later p q) = commutes k l v w ps p q
    at (same s p q) =
        let own : is_alike (number_in l) (number_in k) ≡ true = ap (λ x. is_alike (number_in l) (number_in x)) s ∙ alike_own (number_in l) in
        absurd (let bad : true ≡ false = sym own ∙ e in cc)

-- ---- pairs whose keys are numbers

-- where the pairs of each number are in their order, the last of each key are the same
pub pairs_moved : {X : Type 0} (of : X → Key × Val) (xs ys : List X)
    → ((x : X) → filter (ties (λ x y. is_lt (int_cmp (number_in (of x).0) (number_in (of y).0))) x) ys
    ≡ filter (ties (λ x y. is_lt (int_cmp (number_in (of x).0) (number_in (of y).0))) x) xs)
    → by_key (map of ys) ≡ by_key (map of xs)
unfolding is_alike
pairs_moved {X} of = moved
    (λ x y. is_alike (number_in (of x).0) (number_in (of y).0))
    (λ x. alike_own (number_in (of x).0))
    (λ p x y e. ap (λ z. is_alike z (number_in (of y).0)) (alike_same (number_in (of p).0) (number_in (of x).0) e))
    (λ (xs ys : List X). by_key (map of xs) ≡ by_key (map of ys))
    refl
    (λ x xs ys e. ap (with_pair (of x).0 (of x).1) e)
    (λ xs ys zs e d. e ∙ d)
    (λ x y xs e. swapped (of y).0 (of x).0 (of y).1 (of x).1 (by_key (map of xs)) e)

-- ---- values under numbers

is_same : ℕ → ℕ → Bool
is_same m n = not (is_lt (nat_cmp m n)) && not (is_lt (nat_cmp n m))

same_own : (n : ℕ) → is_same n n ≡ true
unfolding is_same
same_own n = grind (arith, nat_tests)

same_joined : (p m n : ℕ) → is_same p m ≡ true → is_same p n ≡ is_same m n
unfolding is_same
same_joined p m n e = let e' : p ≡ m = grind (arith, nat_tests) in ap (λ k. is_same k n) e'

module _ {T : Type 0} where
  entries_commute : (m n : ℕ) (w v : T) (es : List (ℕ × T)) → nat_lt m n ≡ true
      → with_entry n v (with_entry m w es) ≡ with_entry m w (with_entry n v es)
  entries_commute m n w v [] lt = let back : nat_lt n m ≡ false = grind (arith, nat_tests) in rw (lt, back) refl
  entries_commute m n w v (e ∷ es) lt =
      at (nat_lt m e.0) (nat_lt e.0 m) (nat_lt n e.0) (nat_lt e.0 n) refl refl refl refl (entries_commute m n w v es lt)
    where
      back : nat_lt n m ≡ false
      back = grind (arith, nat_tests)

      at : (a b c d : Bool) → nat_lt m e.0 ≡ a → nat_lt e.0 m ≡ b → nat_lt n e.0 ≡ c → nat_lt e.0 n ≡ d
          → with_entry n v (with_entry m w es) ≡ with_entry m w (with_entry n v es)
          → with_entry n v (with_entry m w (e ∷ es)) ≡ with_entry m w (with_entry n v (e ∷ es))
      at true b true d p q r s ih = simp (p, r, lt, back) refl
      at true b false true p q r s ih = simp (p, r, s, lt, back) refl
      at true b false false p q r s ih = simp (p, r, s, lt, back) refl
      at false true true d p q r s ih = absurd (grind (arith, nat_tests))
      at false true false true p q r s ih = simp (p, q, r, s) (ap (λ (t : List (ℕ × T)). e ∷ t) ih)
      at false true false false p q r s ih = absurd (grind (arith, nat_tests))
      at false false true d p q r s ih = absurd (grind (arith, nat_tests))
      at false false false true p q r s ih = simp (p, q, r, s, lt, back) refl
      at false false false false p q r s ih = absurd (grind (arith, nat_tests))

  entries_swapped : (m n : ℕ) (w v : T) (es : List (ℕ × T)) → is_same m n ≡ false
      → with_entry n v (with_entry m w es) ≡ with_entry m w (with_entry n v es)
  unfolding is_same
  entries_swapped m n w v es e = at (nat_lt m n) (nat_lt n m) refl refl
    where
      at : (a b : Bool) → nat_lt m n ≡ a → nat_lt n m ≡ b → with_entry n v (with_entry m w es) ≡ with_entry m w (with_entry n v es)
      at true b p q = entries_commute m n w v es p
      at false true p q = sym (entries_commute n m v w es q)
      at false false p q = absurd (grind (arith, nat_tests))

  -- where the values of each number are in their order, the last of each are the same
  pub entries_moved : (xs ys : List (ℕ × T))
      → ((x : ℕ × T) → filter (ties (λ (x y : ℕ × T). is_lt (nat_cmp x.0 y.0)) x) ys ≡ filter (ties (λ (x y : ℕ × T). is_lt (nat_cmp x.0 y.0)) x) xs)
      → (es : List (ℕ × T)) → with_entries es ys ≡ with_entries es xs
  unfolding is_same
  entries_moved = moved
      (λ (x y : ℕ × T). is_same x.0 y.0)
      (λ x. same_own x.0)
      (λ p x y e. same_joined p.0 x.0 y.0 e)
      (λ (xs ys : List (ℕ × T)). (es : List (ℕ × T)) → with_entries es xs ≡ with_entries es ys)
      (λ es. refl)
      (λ x xs ys e es. e (with_entry x.0 x.1 es))
      (λ xs ys zs e d es. e es ∙ d es)
      (λ x y xs e es. ap (λ (t : List (ℕ × T)). with_entries t xs) (sym (entries_swapped x.0 y.0 x.1 y.1 es e)))
