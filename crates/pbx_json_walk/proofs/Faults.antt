-- The first fault of a tree by a walk over its steps in their order.
use Rattle.std.proofs.Common.{◌≡◌, ◌⊎◌, ◌∙◌, ℕ, List, [], ◌∷◌, Bool, true, false, Option, Some, None, Result, Ok, Err, refl, ap, sym, subst, inl, inr}
use Rattle.std.specs.declared.cmp.Ordering.TheVariants.{Less}
use Rattle.std.proofs.Common.{suc, ◌+◌, ◌<◌, ◌-◌, nat_lt, option_map, arith}
use Rattle.std.specs.Ordering.{nat_cmp}
use Rattle.std.proofs.lemmas.Bool.Decides.{nat_tests}
use Rattle.serde_json.specs.Data.{Data, Items, no_items, item}
use Rattle.serde_json.specs.Find.{get_item}
use Rattle.pbx_content.specs.declared.shape.Kind.{Kind}
use Rattle.pbx_content.specs.Content.{Val}
use Rattle.pbx_content.specs.declared.shape.Shape.{Shape}
use Rattle.pbx_json_meaning.specs.Asked.{Asked, one}
use Rattle.pbx_json_meaning.specs.Faults.{Inside, leaf, elements, opened, into, IsKeyFault, FaultAt, FirstFaultAt, SomeWith, OkWith}
use Rattle.pbx_json_meaning.specs.FirstFaults.{IsCleanAt, IsCleanBefore, FirstHere, FirstAtKey, FirstBelow}
use Rattle.pbx_json_meaning.specs.declared.error.JsonError.{JsonError}
use Rattle.pbx_json_meaning.specs.declared.kind.JsonKind.{JsonKind}
use Rattle.pbx_json_meaning.specs.declared.kind.JsonKind.TheVariants as fault
use Rattle.pbx_json_meaning.specs.declared.place.Step.{Step}
use Rattle.pbx_json_meaning.specs.declared.place.Step.TheVariants.{Key as to_key, Index as to_index}
use Rattle.pbx_json_walk.specs.Walk.{Answer, Answers, below, answer_map, and_then, at_step, with_present, walk_items}

-- the tree has no fault
abbrev pub IsClean : Shape → Bool → Data → Asked → Type 0
IsClean shape allow d asked = (q : List Step) (k : JsonKind) → ¬ FaultAt shape allow q d asked k

-- the error is the first fault of the tree, or says nothing
abbrev pub IsFirst : Shape → Bool → Data → Asked → JsonError → Type 0
IsFirst shape allow d asked e = (e.kind ≡ fault.NoMemory) ⊎ FirstFaultAt shape allow d asked e.place e.kind

-- the answer for a tree tells its first fault, or that it has none
abbrev pub Tells : {X : Type 0} → Shape → Bool → Data → Asked → Answer X → Type 0
Tells shape allow d asked (Ok x) = IsClean shape allow d asked
Tells shape allow d asked (Err e) = IsFirst shape allow d asked e

-- the error is a fault of a step: of its key, or the first below it
abbrev pub StepFault : Shape → Bool → Inside → Step → JsonError → Type 0
StepFault shape allow inside s e =
    ((e.place ≡ s ∷ []) × IsKeyFault shape allow inside s [] e.kind)
    ⊎ (((q : List Step) (k : JsonKind) → ¬ IsKeyFault shape allow inside s q k)
    × ((next : Data × Asked) × (into inside s ≡ Some next) × ((q : List Step) × (e.place ≡ s ∷ q) × FirstFaultAt shape allow next.0 next.1 q e.kind)))

-- what a step's answer tells
abbrev pub StepTells : {X : Type 0} → Shape → Bool → Inside → Step → Answer X → Type 0
StepTells shape allow inside s (Ok x) = IsCleanAt shape allow inside s
StepTells shape allow inside s (Err e) = (e.kind ≡ fault.NoMemory) ⊎ StepFault shape allow inside s e

module _ (fh : FirstHere) (fk : FirstAtKey) (fb : FirstBelow) (shape : Shape) (allow : Bool) (d : Data) (asked : Asked) where
  -- a tree below which nothing is read
  pub leaf_clean : opened shape allow d asked ≡ Ok leaf → IsClean shape allow d asked
  leaf_clean e [] k h = absurd (let bad : ◌≡◌ {A = Result Inside JsonKind} (Ok leaf) (Err k) = sym e ∙ h in cc)
  leaf_clean e (s ∷ q) k h =
      at s (subst (λ o. OkWith o (λ inside. IsKeyFault shape allow inside s q k ⊎ SomeWith (into inside s) (λ next. FaultAt shape allow q next.0 next.1 k))) e h)
    where
      at : (t : Step) → IsKeyFault shape allow leaf t q k ⊎ SomeWith (into leaf t) (λ next. FaultAt shape allow q next.0 next.1 k) → ⊥
      at (to_key x) (inl (a, b, c)) = absurd (cc)
      at (to_key x) (inr h) = h
      at (to_index i) (inl h) = h
      at (to_index i) (inr h) = h

  -- a fault of the tree itself
  pub here_first : (k : JsonKind) → opened shape allow d asked ≡ Err k → FirstFaultAt shape allow d asked [] k
  here_first k e = fh shape allow d asked k e

  -- each step is clean
  pub all_clean : (inside : Inside) → opened shape allow d asked ≡ Ok inside → ((s : Step) → IsCleanAt shape allow inside s) → IsClean shape allow d asked
  all_clean inside e h [] k f = absurd (let bad : ◌≡◌ {A = Result Inside JsonKind} (Ok inside) (Err k) = sym e ∙ f in cc)
  all_clean inside e h (s ∷ q) k f =
      h s q k (subst (λ o. OkWith o (λ i. IsKeyFault shape allow i s q k ⊎ SomeWith (into i s) (λ next. FaultAt shape allow q next.0 next.1 k))) e f)

  -- the first step that is not clean
  pub step_first : (inside : Inside) → opened shape allow d asked ≡ Ok inside → (s : Step) → IsCleanBefore shape allow inside s → (e : JsonError)
      → StepFault shape allow inside s e → FirstFaultAt shape allow d asked e.place e.kind
  step_first inside read s clean e (inl (at, key)) =
      subst (λ p. FirstFaultAt shape allow d asked p e.kind) (sym at) (fk shape allow d asked inside s e.kind read clean key)
  step_first inside read s clean e (inr (own, (next, go, (q, at, first)))) =
      subst (λ p. FirstFaultAt shape allow d asked p e.kind) (sym at) (fb shape allow d asked inside s next q e.kind read clean own go first)

-- what a walk over the steps below a tree tells: each is clean, or one is the first that is not
abbrev pub WalkTells : {X : Type 0} → Shape → Bool → Inside → Answer X → Type 0
WalkTells shape allow inside (Ok x) = (s : Step) → IsCleanAt shape allow inside s
WalkTells shape allow inside (Err e) = (e.kind ≡ fault.NoMemory) ⊎ ((s : Step) × IsCleanBefore shape allow inside s × StepFault shape allow inside s e)

-- so it tells the first fault of the tree
pub walk_tells : (fk : FirstAtKey) (fb : FirstBelow) (fh : FirstHere) (shape : Shape) (allow : Bool) (d : Data) (asked : Asked) (inside : Inside) {X : Type 0} (a : Answer X)
    → opened shape allow d asked ≡ Ok inside → WalkTells shape allow inside a → Tells shape allow d asked a
walk_tells fk fb fh shape allow d asked inside (Ok x) e h = all_clean fh fk fb shape allow d asked inside e h
walk_tells fk fb fh shape allow d asked inside (Err x) e (inl n) = inl n
walk_tells fk fb fh shape allow d asked inside (Err x) e (inr (s, clean, f)) = inr (step_first fh fk fb shape allow d asked inside e s clean x f)

pub tells_map : {X Y : Type 0} (shape : Shape) (allow : Bool) (d : Data) (asked : Asked) (g : X → Y) (a : Answer X) → Tells shape allow d asked a → Tells shape allow d asked (answer_map g a)
tells_map shape allow d asked g (Ok x) h = h
tells_map shape allow d asked g (Err e) h = h

pub walk_map : {X Y : Type 0} (shape : Shape) (allow : Bool) (inside : Inside) (g : X → Y) (a : Answer X) → WalkTells shape allow inside a → WalkTells shape allow inside (answer_map g a)
walk_map shape allow inside g (Ok x) h = h
walk_map shape allow inside g (Err e) h = h

-- ---- elements

module _ (shape : Shape) (allow : Bool) where
  abbrev pub ItemsTell : Items → List Answers → Type 0
  ItemsTell no_items [] = Unit {0}
  ItemsTell (item d ds) (a ∷ as') = ((asked : Asked) → Tells shape allow d asked (a asked)) × ItemsTell ds as'
  ItemsTell _ _ = ⊥

  -- what is left from an index on
  abbrev Tail : ℕ → Items → Items → Type 0
  Tail i ds rest = (j : ℕ) → get_item (i + j) ds ≡ get_item j rest

  module _ (k : Kind) (ds : Items) where
    key_clean : (s : List ℕ) → IsCleanAt shape allow (elements k ds) (to_key s)
    key_clean s q kind (inl (a, b, c)) = absurd (cc)
    key_clean s q kind (inr h) = h

    none_clean : (i : ℕ) → get_item i ds ≡ None → IsCleanAt shape allow (elements k ds) (to_index i)
    none_clean i e q kind (inl h) = h
    none_clean i e q kind (inr h) = subst (λ o. SomeWith {X = Data × Asked} (option_map (λ d. (d, one k)) o) (λ next. FaultAt shape allow q next.0 next.1 kind)) e h

    some_clean : (i : ℕ) (d : Data) → get_item i ds ≡ Some d → IsClean shape allow d (one k) → IsCleanAt shape allow (elements k ds) (to_index i)
    some_clean i d e c q kind (inl h) = h
    some_clean i d e c q kind (inr h) = c q kind (subst (λ o. SomeWith {X = Data × Asked} (option_map (λ d. (d, one k)) o) (λ next. FaultAt shape allow q next.0 next.1 kind)) e h)

    abbrev CleanTo : ℕ → Type 0
    CleanTo i = (j : ℕ) → j < i → IsCleanAt shape allow (elements k ds) (to_index j)

    before_index : (i : ℕ) → CleanTo i → IsCleanBefore shape allow (elements k ds) (to_index i)
    before_index i c (to_key s) lt = key_clean s
    before_index i c (to_index j) lt = c j (less j i lt)
      where
        less : (a b : ℕ) → nat_cmp a b ≡ Less → a < b
        less a b h = grind (arith, nat_tests)

    item_error : (i : ℕ) (d : Data) (e : JsonError) → get_item i ds ≡ Some d → IsFirst shape allow d (one k) e → (e.kind ≡ fault.NoMemory) ⊎ StepFault shape allow (elements k ds) (to_index i) (below (to_index i) e)
    item_error i d e got (inl n) = inl n
    item_error i d e got (inr f) = inr (inr ((λ q kind h. h), ((d, one k), ap (option_map {U = Data × Asked} (λ x. (x, one k))) got, (e.place, refl, f))))

    past_clean : (i j : ℕ) → Tail i ds no_items → CleanTo i → IsCleanAt shape allow (elements k ds) (to_index j)
    past_clean i j tail clean = at (nat_lt j i) refl
      where
        at : (b : Bool) → nat_lt j i ≡ b → IsCleanAt shape allow (elements k ds) (to_index j)
        at true e = clean j (grind (arith, nat_tests))
        at false e = let same : i + (j - i) ≡ j = grind (arith, nat_tests) in none_clean j (ap (λ x. get_item x ds) (sym same) ∙ tail (j - i))

    more_clean : (i : ℕ) → CleanTo i → IsCleanAt shape allow (elements k ds) (to_index i) → CleanTo (i + 1)
    more_clean i clean own j lt = at (nat_lt j i) refl
      where
        at : (b : Bool) → nat_lt j i ≡ b → IsCleanAt shape allow (elements k ds) (to_index j)
        at true e = clean j (grind (arith, nat_tests))
        at false e = let same : i ≡ j = grind (arith, nat_tests) in subst (λ x. IsCleanAt shape allow (elements k ds) (to_index x)) same own

    item_tells : (d : Data) (rest : Items) (as' : List Answers) (i : ℕ) (vs : List Val) → get_item i ds ≡ Some d → CleanTo i
        → ((o : Option Val) → IsCleanAt shape allow (elements k ds) (to_index i) → WalkTells shape allow (elements k ds) (walk_items k (i + 1) as' (with_present o vs)))
        → (a : Answer (Option Val)) → Tells shape allow d (one k) a
        → WalkTells shape allow (elements k ds) (and_then (at_step (to_index i) (answer_map (λ o. with_present o vs) a)) (walk_items k (i + 1) as'))
    item_tells d rest as' i vs got clean ih (Ok o) h = ih o (some_clean i d got h)
    item_tells d rest as' i vs got clean ih (Err e) h = at (item_error i d e got h)
      where
        at : (e.kind ≡ fault.NoMemory) ⊎ StepFault shape allow (elements k ds) (to_index i) (below (to_index i) e)
            → (e.kind ≡ fault.NoMemory) ⊎ ((s : Step) × IsCleanBefore shape allow (elements k ds) s × StepFault shape allow (elements k ds) s (below (to_index i) e))
        at (inl n) = inl n
        at (inr f) = inr (to_index i, before_index i clean, f)

    items_tell : (rest : Items) (as' : List Answers) (i : ℕ) (vs : List Val) → Tail i ds rest → CleanTo i → ItemsTell rest as' → WalkTells shape allow (elements k ds) (walk_items k i as' vs)
    items_tell no_items [] i vs tail clean h = by_step
      where
        by_step : (s : Step) → IsCleanAt shape allow (elements k ds) s
        by_step (to_key s) = key_clean s
        by_step (to_index j) = past_clean i j tail clean
    items_tell no_items (a ∷ as') i vs tail clean h = absurd h
    items_tell (item d rest) [] i vs tail clean h = absurd h
    items_tell (item d rest) (a ∷ as') i vs tail clean h =
        let start_here : i + 0 ≡ i = omega arith in
        let got : get_item i ds ≡ Some d = ap (λ x. get_item x ds) (sym start_here) ∙ tail 0 in
        item_tells d rest as' i vs got clean
        (λ o own. items_tell rest as' (i + 1) (with_present o vs) (λ j. let next : (i + 1) + j ≡ i + suc j = omega arith in ap (λ x. get_item x ds) next ∙ tail (suc j)) (more_clean i clean own) h.1)
        (a (one k)) (h.0 (one k))

  -- the elements of an array
  pub elements_tell : (k : Kind) (ds : Items) (as' : List Answers) → ItemsTell ds as' → WalkTells shape allow (elements k ds) (walk_items k 0 as' [])
  elements_tell k ds as' h = items_tell k ds ds as' 0 [] (λ j. let same : 0 + j ≡ j = omega arith in ap (λ x. get_item x ds) same) (λ j lt. absurd (omega arith)) h
