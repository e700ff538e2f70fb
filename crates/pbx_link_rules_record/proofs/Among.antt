-- Places that a search finds: from an index in a list, and in lists that are joined.
use Rattle.std.proofs.Common.{◌≡◌, ◌∙◌, ◌⊎◌, ℕ, zero, suc, ◌+◌, ◌<◌, pos, cond, ◌||◌, List, [], ◌∷◌, ◌++◌, map, length, take, get_or, Bool, true, false, Option, Some, None, refl, ap, sym, subst, inl, inr, arith}
use Rattle.std.specs.Prelude.{Contains, Result, IfOk}
use Rattle.std.proofs.lemmas.Result.{IfOk-weaker}
use Rattle.std.specs.List.{list_any, filter, enumerate_from}
use Rattle.std.proofs.lemmas.Bool.{false≢true}
use Rattle.std.proofs.lemmas.List.{get_or-map, length-map}
use Rattle.std.proofs.lemmas.List.Elements.{Contains-append_left, Contains-append_right, Contains-get_or}
use Rattle.std.proofs.lemmas.List.FromFn.{length-enumerate_from, get_or-enumerate_from}
use Rattle.pbx_link_definitions.specs.Definitions.{Place, Part, part, parts}
use Rattle.pbx_link_definitions.specs.Places.{places_where, repeated, IsAmong}
use Rattle.pbx_link_definitions.specs.Found.{is_earlier}

-- ---- lists that are joined

pub among_left : (ps qs : List Place) (p : Place) → Contains ps p → IsAmong (ps ++ qs) (Some p)
among_left ps qs p h = Contains-append_left ps qs p h

pub among_right : (ps qs : List Place) (o : Option Place) → ps ≡ [] → IsAmong qs o → IsAmong (ps ++ qs) o
among_right ps qs None e h = ap (λ rs. rs ++ qs) e ∙ h
among_right ps qs (Some p) e h = Contains-append_right ps qs p h

-- ---- where a test passes

at_head : {X : Type 0} (x : X) (xs : List X) → Contains (x ∷ xs) x
at_head x xs = (0, omega arith, refl)

in_tail : {X : Type 0} (x y : X) (xs : List X) → Contains xs y → Contains (x ∷ xs) y
in_tail x y xs h = Contains-append_right (x ∷ []) xs y h

module _ {Y : Type 0} (test : Y → Bool) (place : Y → Place) where
  pub where_found : (ys : List Y) (i : ℕ) (y : Y) → i < length ys → test (get_or ys i y) ≡ true → Contains (places_where test place ys) (place (get_or ys i y))
  where_found [] i y lt e = absurd (omega arith)
  where_found (x ∷ ys) zero y lt e = subst (λ (b : Bool). Contains (map place (cond b (x ∷ filter test ys) (filter test ys))) (place x)) (sym e) (at_head (place x) (map place (filter test ys)))
  where_found (x ∷ ys) (suc i) y lt e = at (test x) (where_found ys i y (omega arith) e)
    where
      at : (b : Bool) → Contains (map place (filter test ys)) (place (get_or ys i y)) → Contains (map place (cond b (x ∷ filter test ys) (filter test ys))) (place (get_or ys i y))
      at true h = in_tail (place x) (place (get_or ys i y)) (map place (filter test ys)) h
      at false h = h

  pub where_none : (ys : List Y) → ((i : ℕ) (y : Y) → i < length ys → test (get_or ys i y) ≡ false) → places_where test place ys ≡ []
  where_none [] h = refl
  where_none (x ∷ ys) h = ap (λ (b : Bool). map place (cond b (x ∷ filter test ys) (filter test ys))) (h 0 x (omega arith)) ∙ where_none ys (λ i y lt. h (suc i) y (omega arith))

-- ---- items that are like earlier ones

module _ {Y : Type 0} (like : Y → Y → Bool) where
  pub repeated_found : (before ys : List Y) (i : ℕ) (y : Y) → i < length ys → (list_any (like (get_or ys i y)) (take i ys) ≡ true) ⊎ (list_any (like (get_or ys i y)) before ≡ true) → Contains (repeated like before ys) (get_or ys i y)
  unfolding repeated
  repeated_found before [] i y lt h = absurd (omega arith)
  repeated_found before (x ∷ ys) zero y lt (inl e) = absurd (false≢true e)
  repeated_found before (x ∷ ys) zero y lt (inr e) = subst (λ (b : Bool). Contains (cond b (x ∷ []) [] ++ repeated like (x ∷ before) ys) x) (sym e) (at_head x (repeated like (x ∷ before) ys))
  repeated_found before (x ∷ ys) (suc i) y lt h =
      Contains-append_right (cond (list_any (like x) before) (x ∷ []) []) (repeated like (x ∷ before) ys) (get_or ys i y) (repeated_found (x ∷ before) ys i y (omega arith) (at (like (get_or ys i y) x) refl h))
    where
      at : (b : Bool) → like (get_or ys i y) x ≡ b → ((b || list_any (like (get_or ys i y)) (take i ys)) ≡ true) ⊎ (list_any (like (get_or ys i y)) before ≡ true)
          → (list_any (like (get_or ys i y)) (take i ys) ≡ true) ⊎ ((like (get_or ys i y) x || list_any (like (get_or ys i y)) before) ≡ true)
      at true e k = inr (ap (λ (c : Bool). c || list_any (like (get_or ys i y)) before) e)
      at false e (inl k) = inl k
      at false e (inr k) = inr (ap (λ (c : Bool). c || list_any (like (get_or ys i y)) before) e ∙ k)

  pub repeated_none : (before ys : List Y) → ((i : ℕ) (y : Y) → i < length ys → (list_any (like (get_or ys i y)) (take i ys) ≡ false) × (list_any (like (get_or ys i y)) before ≡ false)) → repeated like before ys ≡ []
  unfolding repeated
  repeated_none before [] h = refl
  repeated_none before (x ∷ ys) h =
      ap (λ (b : Bool). cond b (x ∷ []) [] ++ repeated like (x ∷ before) ys) (h 0 x (omega arith)).1
      ∙ repeated_none (x ∷ before) ys (λ i y lt. at i y (like (get_or ys i y) x) refl (h (suc i) y (omega arith)))
    where
      at : (i : ℕ) (y : Y) (b : Bool) → like (get_or ys i y) x ≡ b → ((b || list_any (like (get_or ys i y)) (take i ys)) ≡ false) × (list_any (like (get_or ys i y)) before ≡ false)
          → (list_any (like (get_or ys i y)) (take i ys) ≡ false) × ((like (get_or ys i y) x || list_any (like (get_or ys i y)) before) ≡ false)
      at i y true e k = absurd (false≢true (sym k.0))
      at i y false e k = (k.0, ap (λ (c : Bool). c || list_any (like (get_or ys i y)) before) e ∙ k.1)

-- ---- parts, by what is told of the list of their items

list_any_map : {X Y : Type 0} (test : X → Bool) (f : Y → X) (ys : List Y) → list_any (λ y. test (f y)) ys ≡ list_any test (map f ys)
list_any_map test f [] = refl
list_any_map test f (y ∷ ys) = ap (λ (b : Bool). test (f y) || b) (list_any_map test f ys)

take_map : {X Y : Type 0} (f : Y → X) (n : ℕ) (ys : List Y) → map f (take n ys) ≡ take n (map f ys)
take_map f zero ys = refl
take_map f (suc n) [] = refl
take_map f (suc n) (y ∷ ys) = ap (λ zs. f y ∷ zs) (take_map f n ys)

module _ {X Y : Type 0} (item : Y → X) (place : Y → Place) (ys : List Y) where
  item_at : (i : ℕ) (y : Y) (d : X) → i < length ys → get_or (map item ys) i d ≡ item (get_or ys i y)
  item_at i y d lt = get_or-map item ys i y d lt

  -- an item that passes a test
  pub passing : (test : X → Bool) (i : ℕ) (y : Y) → i < length (map item ys) → ((d : X) → test (get_or (map item ys) i d) ≡ true) → Contains (places_where (λ y. test (item y)) place ys) (place (get_or ys i y))
  passing test i y lt h =
      let within : i < length ys = omega (arith, length-map ys item) in
      where_found (λ y. test (item y)) place ys i y within (ap test (sym (item_at i y (item y) within)) ∙ h (item y))

  pub none_pass : (test : X → Bool) → ((i : ℕ) (d : X) → i < length (map item ys) → test (get_or (map item ys) i d) ≡ false) → places_where (λ y. test (item y)) place ys ≡ []
  none_pass test h = where_none (λ y. test (item y)) place ys (λ i y lt. ap test (sym (item_at i y (item y) lt)) ∙ h i (item y) (omega (arith, length-map ys item)))

  earlier_is : (like : X → X → Bool) (i : ℕ) (y : Y) → i < length ys → list_any (λ z. like (item (get_or ys i y)) (item z)) (take i ys) ≡ is_earlier like (map item ys) i (get_or (map item ys) i (item y))
  earlier_is like i y lt =
      list_any_map (like (item (get_or ys i y))) item (take i ys) ∙ ap (λ (zs : List X). list_any (like (item (get_or ys i y))) zs) (take_map item i ys)
      ∙ ap (λ (x : X). list_any (like x) (take i (map item ys))) (sym (item_at i y (item y) lt))

  contains_place : (zs : List Y) (y : Y) → Contains zs y → Contains (map place zs) (place y)
  contains_place zs y (k, lt, e) =
      subst (Contains (map place zs)) (get_or-map place zs k y (place y) lt ∙ ap place e) (Contains-get_or (map place zs) k (place y) (omega (arith, length-map zs place)))

  -- an item that is like an earlier one
  pub again : (like : X → X → Bool) (i : ℕ) (y : Y) → i < length (map item ys) → ((d : X) → is_earlier like (map item ys) i (get_or (map item ys) i d) ≡ true)
      → Contains (map place (repeated (λ y z. like (item y) (item z)) [] ys)) (place (get_or ys i y))
  again like i y lt h =
      let within : i < length ys = omega (arith, length-map ys item) in
      contains_place (repeated (λ y z. like (item y) (item z)) [] ys) (get_or ys i y)
      (repeated_found (λ y z. like (item y) (item z)) [] ys i y within (inl (earlier_is like i y within ∙ h (item y))))

  pub none_again : (like : X → X → Bool) → ((i : ℕ) (d : X) → i < length (map item ys) → is_earlier like (map item ys) i (get_or (map item ys) i d) ≡ false)
      → map place (repeated (λ y z. like (item y) (item z)) [] ys) ≡ []
  none_again like h =
      ap (map place) (repeated_none (λ y z. like (item y) (item z)) [] ys (λ i y lt. (earlier_is like i y lt ∙ h i (item y) (omega (arith, length-map ys item)), refl)))

-- ---- parts of a list in a record

pub items_are : {X : Type 0} (scope : List ℕ) (place : Place) (n : ℕ) (xs : List X) → map (λ p. p.item) (parts scope place n xs) ≡ xs
items_are {X} scope place n xs = from 0 xs
  where
    from : (k : ℕ) (zs : List X) → map (λ p. p.item) (map (λ t. part scope place n t.0 t.1) (enumerate_from k zs)) ≡ zs
    from k [] = refl
    from k (z ∷ zs) = ap (λ ws. z ∷ ws) (from (k + 1) zs)

pub place_at_index : {X : Type 0} (scope : List ℕ) (place : Place) (n : ℕ) (xs : List X) (i : ℕ) (p : Part X) → i < length xs → (get_or (parts scope place n xs) i p).place ≡ place ++ pos n ∷ pos i ∷ []
place_at_index {X} scope place n xs i p lt =
    let count : i < length (enumerate_from 0 xs) = omega (arith, length-enumerate_from 0 xs) in
    let from : 0 + i ≡ i = omega arith in
    ap (λ (q : Part X). q.place) (get_or-map (λ (t : ℕ × X). part scope place n t.0 t.1) (enumerate_from 0 xs) i (0, p.item) p count)
    ∙ ap (λ (t : ℕ × X). place ++ pos n ∷ pos t.0 ∷ []) (get_or-enumerate_from 0 xs i (0, p.item) lt) ∙ ap (λ (k : ℕ). place ++ pos n ∷ pos k ∷ []) from

-- ---- searches one after another

pub joined_some : (ps qs : List Place) (o : Option Place) (p : Place) → IsAmong ps o → o ≡ Some p → Contains (ps ++ qs) p
joined_some ps qs o p among found = Contains-append_left ps qs p (subst (IsAmong ps) found among)

pub joined_none : {E : Type 0} (ps qs : List Place) (o : Option Place) (r : Result (Option Place) E) → IsAmong ps o → o ≡ None → IfOk r (IsAmong qs) → IfOk r (IsAmong (ps ++ qs))
joined_none ps qs o r among none h = IfOk-weaker r (IsAmong qs) (IsAmong (ps ++ qs)) (λ a k. among_right ps qs a (subst (IsAmong ps) none among) k) h

-- a part of a list in a record, at its index
pub part_at_index : {X : Type 0} (scope : List ℕ) (place : Place) (n : ℕ) (xs : List X) (i : ℕ) (x : X) (p : Part X) → i < length xs → x ≡ get_or xs i x → part scope place n i x ≡ get_or (parts scope place n xs) i p
part_at_index {X} scope place n xs i x p lt is =
    let count : i < length (enumerate_from 0 xs) = omega (arith, length-enumerate_from 0 xs) in
    let from : 0 + i ≡ i = omega arith in
    sym (get_or-map (λ (t : ℕ × X). part scope place n t.0 t.1) (enumerate_from 0 xs) i (0, x) p count
    ∙ ap (λ (t : ℕ × X). part scope place n t.0 t.1) (get_or-enumerate_from 0 xs i (0, x) lt) ∙ ap (λ (k : ℕ). part scope place n k (get_or xs i x)) from
    ∙ ap (part scope place n i) (sym is))

pub length-parts : {X : Type 0} (scope : List ℕ) (place : Place) (n : ℕ) (xs : List X) → length (parts scope place n xs) ≡ length xs
length-parts {X} scope place n xs = length-map (enumerate_from 0 xs) (λ (t : ℕ × X). part scope place n t.0 t.1) ∙ length-enumerate_from 0 xs
