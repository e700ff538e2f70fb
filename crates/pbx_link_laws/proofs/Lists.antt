-- What is told of lists whose items are changed, where the change does not show.
use Rattle.std.proofs.Common.{◌≡◌, ◌∙◌, ℕ, suc, ◌+◌, ◌||◌, cond, List, [], ◌∷◌, ◌++◌, map, length, Bool, true, false, if◌then◌else◌, Option, Some, refl, ap}
use Rattle.std.proofs.Common.{sym}
use Rattle.std.specs.Prelude.{filter, find, option_map, pos}
use Rattle.std.specs.List.{list_any, flat_map, enumerate_from}
use Rattle.std.proofs.lemmas.List.{map-append}
use Rattle.std.proofs.lemmas.List.Elements.{filter-append}
use Rattle.pbx_link_definitions.specs.Definitions.{Place, Part, parts}
use Rattle.pbx_link_definitions.specs.Places.{places_where, repeated}

-- ---- maps

pub map_twice : {A B C : Type 0} (f : A → B) (g : B → C) (xs : List A) → map g (map f xs) ≡ map (λ x. g (f x)) xs
map_twice f g [] = refl
map_twice {A} {B} {C} f g (x ∷ xs) = ap (λ (ys : List C). g (f x) ∷ ys) (map_twice f g xs)

pub map_same : {A B : Type 0} (f g : A → B) → ((x : A) → f x ≡ g x) → (xs : List A) → map f xs ≡ map g xs
map_same f g e [] = refl
map_same {A} {B} f g e (x ∷ xs) = ap (λ (y : B). y ∷ map f xs) (e x) ∙ ap (λ (ys : List B). g x ∷ ys) (map_same f g e xs)

-- what is told of each item by g after f is told by h
pub map_through : {A B C : Type 0} (f : A → B) (g : B → C) (h : A → C) → ((x : A) → g (f x) ≡ h x) → (xs : List A) → map g (map f xs) ≡ map h xs
map_through f g h e xs = map_twice f g xs ∙ map_same (λ x. g (f x)) h e xs

pub length_mapped : {A B : Type 0} (f : A → B) (xs : List A) → length (map f xs) ≡ length xs
length_mapped f [] = refl
length_mapped f (x ∷ xs) = ap (λ (n : ℕ). suc n) (length_mapped f xs)

-- both halves of a list
pub halves : {X : Type 0} (a b c d : List X) → a ≡ c → b ≡ d → a ++ b ≡ c ++ d
halves {X} a b c d p q = ap (λ (xs : List X). xs ++ b) p ∙ ap (λ (xs : List X). c ++ xs) q

-- ---- parts

-- a part whose item is changed in its scope
abbrev pub changed_in : {X : Type 0} → (List ℕ → X → X) → Part X → Part X
changed_in g p = record p { item = g p.scope p.item }

-- a part whose item is changed in any scope alike
abbrev pub part_of : {X : Type 0} → (X → X) → Part X → Part X
part_of g p = record p { item = g p.item }

-- the parts of a list from an index on
abbrev pub parts_from : {X : Type 0} → List ℕ → Place → ℕ → ℕ → List X → List (Part X)
parts_from scope place n k xs = map (λ x. record { scope = scope; place = place ++ pos n ∷ pos x.0 ∷ []; index = x.0; item = x.1 }) (enumerate_from k xs)

changed_from : {X : Type 0} (g : List ℕ → X → X) (scope : List ℕ) (place : Place) (n k : ℕ) (xs : List X)
    → parts_from scope place n k (map (g scope) xs) ≡ map (changed_in g) (parts_from scope place n k xs)
changed_from g scope place n k [] = refl
changed_from {X} g scope place n k (x ∷ xs) =
    ap (λ (ps : List (Part X)). record { scope = scope; place = place ++ pos n ∷ pos k ∷ []; index = k; item = g scope x } ∷ ps)
    (changed_from g scope place n (k + 1) xs)

-- the parts of changed items are the changed parts
pub parts_changed : {X : Type 0} (g : List ℕ → X → X) (scope : List ℕ) (place : Place) (n : ℕ) (xs : List X)
    → parts scope place n (map (g scope) xs) ≡ map (changed_in g) (parts scope place n xs)
parts_changed g scope place n xs = changed_from g scope place n 0 xs

pub parts_of : {X : Type 0} (g : X → X) (scope : List ℕ) (place : Place) (n : ℕ) (xs : List X)
    → parts scope place n (map g xs) ≡ map (part_of g) (parts scope place n xs)
parts_of g scope place n xs = changed_from (λ s. g) scope place n 0 xs

-- ---- what is told of each item

module _ {A B C : Type 0} (v : A → B) (f : B → List C) (f' : A → List C) (same : (x : A) → f (v x) ≡ f' x) where
  told_through : (xs : List A) → flat_map f (map v xs) ≡ flat_map f' xs
  told_through [] = refl
  told_through (x ∷ xs) = halves (f (v x)) (flat_map f (map v xs)) (f' x) (flat_map f' xs) (same x) (told_through xs)

  -- what is told alike of each is told alike of all
  pub told_alike : (ys : List B) (xs : List A) → ys ≡ map v xs → flat_map f ys ≡ flat_map f' xs
  told_alike ys xs e = ap (flat_map f) e ∙ told_through xs

module _ {A B C D : Type 0} (v : A → B) (h : C → D) (f : B → List D) (f' : A → List C) (same : (x : A) → f (v x) ≡ map h (f' x)) where
  mapped_through : (xs : List A) → flat_map f (map v xs) ≡ map h (flat_map f' xs)
  mapped_through [] = refl
  mapped_through (x ∷ xs) =
      halves (f (v x)) (flat_map f (map v xs)) (map h (f' x)) (map h (flat_map f' xs)) (same x) (mapped_through xs)
      ∙ sym (map-append h (f' x) (flat_map f' xs))

  pub told_mapped : (ys : List B) (xs : List A) → ys ≡ map v xs → flat_map f ys ≡ map h (flat_map f' xs)
  told_mapped ys xs e = ap (flat_map f) e ∙ mapped_through xs

-- ---- tests

module _ {A B : Type 0} (v : A → B) (test : B → Bool) (test' : A → Bool) (same : (x : A) → test (v x) ≡ test' x) where
  pub filter_through : (xs : List A) → filter test (map v xs) ≡ map v (filter test' xs)
  filter_through [] = refl
  filter_through (x ∷ xs) =
      ap (λ (b : Bool). cond b (v x ∷ filter test (map v xs)) (filter test (map v xs))) (same x)
      ∙ ap (λ (ys : List B). cond (test' x) (v x ∷ ys) ys) (filter_through xs)
      ∙ at (test' x)
    where
      at : (b : Bool) → cond b (v x ∷ map v (filter test' xs)) (map v (filter test' xs)) ≡ map v (cond b (x ∷ filter test' xs) (filter test' xs))
      at true = refl
      at false = refl

  pub any_through : (xs : List A) → list_any test (map v xs) ≡ list_any test' xs
  any_through [] = refl
  any_through (x ∷ xs) = ap (λ (b : Bool). b || list_any test (map v xs)) (same x) ∙ ap (λ (b : Bool). test' x || b) (any_through xs)

  pub find_through : (xs : List A) → find test (map v xs) ≡ option_map v (find test' xs)
  find_through [] = refl
  find_through (x ∷ xs) =
      ap (λ (b : Bool). cond b (Some (v x)) (find test (map v xs))) (same x)
      ∙ ap (λ (o : Option B). cond (test' x) (Some (v x)) o) (find_through xs)
      ∙ at (test' x)
    where
      at : (b : Bool) → cond b (Some (v x)) (option_map v (find test' xs)) ≡ option_map v (cond b (Some x) (find test' xs))
      at true = refl
      at false = refl

  -- how many pass
  pub passing : (ys : List B) (xs : List A) → ys ≡ map v xs → length (filter test ys) ≡ length (filter test' xs)
  passing ys xs e = ap (λ (zs : List B). length (filter test zs)) e ∙ ap length (filter_through xs) ∙ length_mapped v (filter test' xs)

  module _ (place : B → Place) (place' : A → Place) (there : (x : A) → place (v x) ≡ place' x) where
    -- the places of those that pass
    pub placed_alike : (ys : List B) (xs : List A) → ys ≡ map v xs → places_where test place ys ≡ places_where test' place' xs
    placed_alike ys xs e =
        ap (places_where test place) e ∙ ap (map place) (filter_through xs) ∙ map_through v place place' there (filter test' xs)

-- the places of joined lists
pub places_joined : {X : Type 0} (test : X → Bool) (place : X → Place) (xs ys : List X)
    → places_where test place (xs ++ ys) ≡ places_where test place xs ++ places_where test place ys
places_joined test place xs ys = ap (map place) (filter-append test xs ys) ∙ map-append place (filter test xs) (filter test ys)

-- where none passes, none of the changed ones does, if a change lets none pass
module _ {A B : Type 0} (v : A → B) (test : B → Bool) (test' : A → Bool) (weaker : (x : A) → test' x ≡ false → test (v x) ≡ false)
    (place : B → Place) (place' : A → Place) where
  none_through : (xs : List A) → places_where test' place' xs ≡ [] → places_where test place (map v xs) ≡ []
  none_through [] none = refl
  none_through (x ∷ xs) none = at (test' x) refl none (none_through xs)
    where
      at : (b : Bool) → test' x ≡ b → map place' (cond b (x ∷ filter test' xs) (filter test' xs)) ≡ []
          → (places_where test' place' xs ≡ [] → places_where test place (map v xs) ≡ [])
          → map place (cond (test (v x)) (v x ∷ filter test (map v xs)) (filter test (map v xs))) ≡ []
      at true w e ih = absurd (cc)
      at false w e ih = ap (λ (b : Bool). map place (cond b (v x ∷ filter test (map v xs)) (filter test (map v xs)))) (weaker x w) ∙ ih e

  pub placed_none : (ys : List B) (xs : List A) → ys ≡ map v xs → places_where test' place' xs ≡ [] → places_where test place ys ≡ []
  placed_none ys xs e none = ap (places_where test place) e ∙ none_through xs none

-- ---- items that are like earlier ones

module _ {A B : Type 0} (v : A → B) (like : B → B → Bool) (like' : A → A → Bool) (same : (x y : A) → like (v x) (v y) ≡ like' x y) where
  repeated_through : (before xs : List A) → repeated like (map v before) (map v xs) ≡ map v (repeated like' before xs)
  unfolding repeated
  repeated_through before [] = refl
  repeated_through before (x ∷ xs) =
      ap (λ (b : Bool). (if b then v x ∷ [] else []) ++ repeated like (v x ∷ map v before) (map v xs))
      (any_through v (like (v x)) (like' x) (same x) before)
      ∙ ap (λ (ys : List B). (if list_any (like' x) before then v x ∷ [] else []) ++ ys) (repeated_through (x ∷ before) xs)
      ∙ at (list_any (like' x) before)
    where
      at : (b : Bool)
          → (if b then v x ∷ [] else []) ++ map v (repeated like' (x ∷ before) xs) ≡ map v ((if b then x ∷ [] else []) ++ repeated like' (x ∷ before) xs)
      at true = refl
      at false = refl

  module _ (place : B → Place) (place' : A → Place) (there : (x : A) → place (v x) ≡ place' x) where
    -- the places of those that are like earlier ones
    pub repeated_alike : (ys : List B) (xs : List A) → ys ≡ map v xs → map place (repeated like [] ys) ≡ map place' (repeated like' [] xs)
    repeated_alike ys xs e =
        ap (λ (zs : List B). map place (repeated like [] zs)) e ∙ ap (map place) (repeated_through [] xs)
        ∙ map_through v place place' there (repeated like' [] xs)
