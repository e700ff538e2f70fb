-- Indexes of items that pass a test, and the places of such items.
use Rattle.std.proofs.Common.{◌≡◌, ◌∙◌, ℕ, zero, suc, ◌+◌, ◌<◌, ◌≤◌, Bool, true, false, not, cond, ◌||◌, if◌then◌else◌, List, [], ◌∷◌, ◌++◌, map}
use Rattle.std.proofs.Common.{length, take, get_or, refl, ap, sym, subst, arith}
use Rattle.std.specs.Prelude.{Option, Some, None, Contains, filter, nat_lt}
use Rattle.std.specs.List.{list_any, position, position_or_len, enumerate_from}
use Rattle.std.specs.Option.{option_map}
use Rattle.std.proofs.lemmas.Bool.Decides.{nat_tests}
use Rattle.pbx_link_definitions.specs.Definitions.{Place, Part, part, parts}
use Rattle.pbx_link_definitions.specs.Found.{IsIndex, is_earlier}
use Rattle.pbx_link_definitions.specs.Places.{places_where, repeated, IsAmong}

-- ---- what `position` says

module _ {X : Type 0} (p : X → Bool) where
  found : (xs : List X) (d : X) → position_or_len p xs < length xs → p (get_or xs (position_or_len p xs) d) ≡ true
  found [] d h = absurd (omega arith)
  found (x ∷ xs) d h = at (p x) refl h (found xs d)
    where
      at : (b : Bool) → p x ≡ b → cond (not b) (1 + position_or_len p xs) 0 < length (x ∷ xs) → (position_or_len p xs < length xs
          → p (get_or xs (position_or_len p xs) d) ≡ true)
          → p (get_or (x ∷ xs) (cond (not b) (1 + position_or_len p xs) 0) d) ≡ true
      at true e k ih = e
      at false e k ih =
          let next : suc (position_or_len p xs) ≡ 1 + position_or_len p xs = omega arith in
          subst (λ (j : ℕ). p (get_or (x ∷ xs) j d) ≡ true) next (ih (omega arith))

  none_passes : (xs : List X) → length xs ≤ position_or_len p xs → (i : ℕ) (d : X) → i < length xs → p (get_or xs i d) ≡ false
  none_passes [] h i d lt = absurd (omega arith)
  none_passes (x ∷ xs) h i d lt = at (p x) refl h i lt (none_passes xs)
    where
      at : (b : Bool) → p x ≡ b → length (x ∷ xs) ≤ cond (not b) (1 + position_or_len p xs) 0 → (i : ℕ) → i < length (x ∷ xs)
          → (length xs ≤ position_or_len p xs → (i : ℕ) (d : X) → i < length xs → p (get_or xs i d) ≡ false) → p (get_or (x ∷ xs) i d) ≡ false
      at true e k i lt ih = absurd (omega arith)
      at false e k zero lt ih = e
      at false e k (suc j) lt ih = ih (omega arith) j d (omega arith)

  pub position_is_index : (xs : List X) (o : Option ℕ) → o ≡ position p xs → IsIndex (λ i. p) xs o
  position_is_index xs o e = subst (λ (r : Option ℕ). IsIndex (λ i. p) xs r) (sym e) (at (nat_lt (position_or_len p xs) (length xs)) refl)
    where
      at : (b : Bool) → nat_lt (position_or_len p xs) (length xs) ≡ b → IsIndex (λ i. p) xs (cond b (Some (position_or_len p xs)) None)
      at true q = (grind (arith, nat_tests), λ d. found xs d (grind (arith, nat_tests)))
      at false q = none_passes xs (grind (arith, nat_tests))

-- tests that are alike have one position
position_or_len_same : {X : Type 0} (p q : X → Bool) → ((x : X) → p x ≡ q x) → (xs : List X) → position_or_len p xs ≡ position_or_len q xs
position_or_len_same p q same [] = refl
position_or_len_same p q same (x ∷ xs) =
    ap (λ b. cond (not b) (1 + position_or_len p xs) 0) (same x) ∙ ap (λ (n : ℕ). cond (not (q x)) (1 + n) 0) (position_or_len_same p q same xs)

pub position_same : {X : Type 0} (p q : X → Bool) → ((x : X) → p x ≡ q x) → (xs : List X) → position p xs ≡ position q xs
position_same p q same xs = ap (λ (n : ℕ). cond (nat_lt n (length xs)) (Some n) None) (position_or_len_same p q same xs)

-- an index of a test that is alike
pub index_same : {X : Type 0} (P Q : ℕ → X → Bool) (xs : List X) (o : Option ℕ) → ((i : ℕ) (x : X) → P i x ≡ Q i x) → IsIndex P xs o → IsIndex Q xs o
index_same P Q xs None same h = λ i d lt. sym (same i (get_or xs i d)) ∙ h i d lt
index_same P Q xs (Some i) same h = (h.0, λ d. sym (same i (get_or xs i d)) ∙ h.1 d)

-- an index of one of two tests
pub or_first : {X : Type 0} (P Q : ℕ → X → Bool) (xs : List X) (i : ℕ) → IsIndex P xs (Some i) → IsIndex (λ k x. P k x || Q k x) xs (Some i)
or_first P Q xs i h = (h.0, λ d. ap (λ b. b || Q i (get_or xs i d)) (h.1 d))

pub or_second : {X : Type 0} (P Q : ℕ → X → Bool) (xs : List X) (o : Option ℕ) → IsIndex P xs None → IsIndex Q xs o → IsIndex (λ k x. P k x || Q k x) xs o
or_second P Q xs None p q = λ k d lt. ap (λ b. b || Q k (get_or xs k d)) (p k d lt) ∙ q k d lt
or_second P Q xs (Some i) p q = (q.0, λ d. ap (λ b. b || Q i (get_or xs i d)) (p i d q.0) ∙ q.1 d)

-- ---- from indexes to places

pub any_default : {X : Type 0} (xs : List X) (i : ℕ) (d e : X) → i < length xs → get_or xs i d ≡ get_or xs i e
any_default [] i d e lt = absurd (omega arith)
any_default (x ∷ xs) zero d e lt = refl
any_default (x ∷ xs) (suc i) d e lt = any_default xs i d e (omega arith)

pub at_head : {X : Type 0} (x y : X) (xs : List X) → x ≡ y → Contains (x ∷ xs) y
at_head x y xs e = (0, omega arith, e)

pub in_tail : {X : Type 0} (x y : X) (xs : List X) → Contains xs y → Contains (x ∷ xs) y
in_tail x y xs h = (suc h.0, omega (arith, h.1), h.2)

module _ {X : Type 0} (scope : List ℕ) (above : Place) (n : ℕ) (P : Part X → Bool) (place : Part X → Place) (there : ℕ → Place)
    (is : (i : ℕ) (x : X) → place (part scope above n i x) ≡ there i) where
  abbrev from : ℕ → List X → List (Part X)
  from k xs = map (λ x. part scope above n x.0 x.1) (enumerate_from k xs)

  kept : (p : Part X) (ps : List (Part X)) (q : Place) (b : Bool) → Contains (map place ps) q → Contains (map place (cond b (p ∷ ps) ps)) q
  kept p ps q true h = in_tail (place p) q (map place ps) h
  kept p ps q false h = h

  here : (k j : ℕ) (xs : List X) (i : ℕ) (d : X) → j ≡ k + i → i < length xs → P (part scope above n j (get_or xs i d)) ≡ true
      → Contains (places_where P place (from k xs)) (there j)
  here k j [] i d e lt h = absurd (omega arith)
  here k j (x ∷ xs) zero d e lt h =
      let same : j ≡ k = omega arith in
      subst (λ b. Contains (map place (cond b (part scope above n k x ∷ filter P (from (k + 1) xs)) (filter P (from (k + 1) xs)))) (there j)) (sym
      (ap (λ l. P (part scope above n l x)) (sym same) ∙ h))
      (at_head (place (part scope above n k x)) (there j) _ (is k x ∙ ap there (sym same)))
  here k j (x ∷ xs) (suc i) d e lt h = kept (part scope above n k x) (filter P (from (k + 1) xs)) (there j) (P (part scope above n k x)) (here (k +
      1) j xs i d (omega arith) (omega arith) h)

  none : (k : ℕ) (xs : List X) → ((i j : ℕ) (d : X) → j ≡ k + i → i < length xs → P (part scope above n j (get_or xs i d)) ≡ false)
      → places_where P place (from k xs) ≡ []
  none k [] h = refl
  none k (x ∷ xs) h =
      ap (λ b. map place (cond b (part scope above n k x ∷ filter P (from (k + 1) xs)) (filter P (from (k + 1) xs)))) (h 0 k x (omega arith) (omega
      arith))
      ∙ none (k + 1) xs (λ i j d e lt. h (suc i) j d (omega arith) (omega arith))

  -- an index of an item that passes gives the place of its part
  pub is_among : (xs : List X) (o : Option ℕ) → IsIndex (λ i x. P (part scope above n i x)) xs o
      → IsAmong (places_where P place (parts scope above n xs)) (option_map there o)
  is_among xs None h = none 0 xs (λ i j d e lt. ap (λ l. P (part scope above n l (get_or xs i d))) (omega arith) ∙ h i d lt)
  is_among [] (Some i) h = absurd (omega (arith, h.0))
  is_among (x ∷ xs) (Some i) h = here 0 i (x ∷ xs) i x (omega arith) h.0 (h.1 x)

-- found at an index, or at none
pub place_here : (all : List Place) (there : ℕ → Place) (o : Option ℕ) → IsAmong all (option_map there o) → (i : ℕ) → o ≡ Some i → (p : Place)
    → p ≡ there i → Contains all p
place_here all there o h i e p q = subst (λ (r : Place). Contains all r) (sym q) (subst (λ (r : Option ℕ). IsAmong all (option_map there r)) e h)

pub place_none : (all : List Place) (there : ℕ → Place) (o : Option ℕ) → IsAmong all (option_map there o) → o ≡ None → all ≡ []
place_none all there o h e = subst (λ (r : Option ℕ). IsAmong all (option_map there r)) e h

-- ---- items that are like earlier ones

pub or_none : (b : Bool) → (b || false) ≡ b
or_none true = refl
or_none false = refl

turned : (a b c : Bool) → ((a || b) || c) ≡ (b || (a || c))
turned true true c = refl
turned true false c = refl
turned false true c = refl
turned false false c = refl

module _ {X : Type 0} (scope : List ℕ) (above : Place) (n : ℕ) (like : X → X → Bool) (alike : Part X → Part X → Bool) (is_alike : (p q : Part X)
    → alike p q ≡ like p.item q.item)
    (place : Part X → Place) (there : ℕ → Place) (is : (i : ℕ) (x : X) → place (part scope above n i x) ≡ there i) where
  abbrev parts_on : ℕ → List X → List (Part X)
  parts_on k xs = map (λ x. part scope above n x.0 x.1) (enumerate_from k xs)

  -- a part before it is like the item
  abbrev before_is : List (Part X) → X → Bool
  before_is ps x = list_any (λ (q : Part X). like x q.item) ps

  before_same : (k : ℕ) (x : X) (ps : List (Part X)) → list_any (alike (part scope above n k x)) ps ≡ before_is ps x
  before_same k x [] = refl
  before_same k x (p ∷ ps) =
      ap (λ b. b || list_any (alike (part scope above n k x)) ps) (is_alike (part scope above n k x) p)
      ∙ ap (λ b. like x p.item || b) (before_same k x ps)

  -- one item moves from those that follow to those before
  moved : (y x : X) (k i : ℕ) (ps : List (Part X)) (xs : List X) → (before_is (part scope above n k x ∷ ps) y || list_any (like y) (take i xs))
      ≡ (before_is ps y || list_any (like y) (take (suc i) (x ∷ xs)))
  moved y x k i ps xs = turned (like y x) (before_is ps y) (list_any (like y) (take i xs))

  none_again : (k : ℕ) (ps : List (Part X)) (xs : List X) → ((i : ℕ) (d : X) → i < length xs
      → (before_is ps (get_or xs i d) || list_any (like (get_or xs i d)) (take i xs)) ≡ false) → repeated alike ps (parts_on k xs) ≡ []
  unfolding repeated
  none_again k ps [] h = refl
  none_again k ps (x ∷ xs) h =
      let first : list_any (alike (part scope above n k x)) ps ≡ false = before_same k x ps ∙ sym (or_none (before_is ps x)) ∙ h 0 x (omega arith) in
      ap (λ b. (if b then part scope above n k x ∷ [] else []) ++ repeated alike (part scope above n k x ∷ ps) (parts_on (k + 1) xs)) first
      ∙ none_again (k + 1) (part scope above n k x ∷ ps) xs (λ i d lt. moved (get_or xs i d) x k i ps xs ∙ h (suc i) d (omega arith))

  here_again : (k j : ℕ) (ps : List (Part X)) (xs : List X) (i : ℕ) (d : X) → j ≡ k + i → i < length xs
      → (before_is ps (get_or xs i d) || list_any (like (get_or xs i d)) (take i xs)) ≡ true
      → Contains (map place (repeated alike ps (parts_on k xs))) (there j)
  unfolding repeated
  here_again k j ps [] i d e lt h = absurd (omega arith)
  here_again k j ps (x ∷ xs) zero d e lt h =
      let same : j ≡ k = omega arith in
      let first : list_any (alike (part scope above n k x)) ps ≡ true = before_same k x ps ∙ sym (or_none (before_is ps x)) ∙ h in
      subst (λ b. Contains (map place ((if b then part scope above n k x ∷ [] else []) ++ repeated alike (part scope above n k x ∷ ps) (parts_on (k
      + 1) xs))) (there j)) (sym first)
      (at_head (place (part scope above n k x)) (there j) _ (is k x ∙ ap there (sym same)))
  here_again k j ps (x ∷ xs) (suc i) d e lt h =
      behind (list_any (alike (part scope above n k x)) ps) (here_again (k + 1) j (part scope above n k x ∷ ps) xs i d (omega arith) (omega arith)
      (moved (get_or xs i d) x k i ps xs ∙ h))
    where
      behind : (b : Bool) → Contains (map place (repeated alike (part scope above n k x ∷ ps) (parts_on (k + 1) xs))) (there j)
          → Contains (map place ((if b then part scope above n k x ∷ [] else []) ++ repeated alike (part scope above n k x ∷ ps) (parts_on (k + 1)
          xs))) (there j)
      behind true c = in_tail (place (part scope above n k x)) (there j) _ c
      behind false c = c

  -- an index of an item that is like an earlier one gives the place of its part
  pub again_is_among : (xs : List X) (o : Option ℕ) → IsIndex (is_earlier like xs) xs o
      → IsAmong (map place (repeated alike [] (parts scope above n xs))) (option_map there o)
  again_is_among xs None h = ap (map place) (none_again 0 [] xs h)
  again_is_among [] (Some i) h = absurd (omega (arith, h.0))
  again_is_among (x ∷ xs) (Some i) h = here_again 0 i [] (x ∷ xs) i x (omega arith) h.0 (h.1 x)
