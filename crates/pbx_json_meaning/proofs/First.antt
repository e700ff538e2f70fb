-- The first place of a fault: of the tree itself, or behind what has no fault.
use Rattle.std.proofs.Common.{◌≡◌, ◌⊎◌, List, [], ◌∷◌, Some, Ok, Err, refl, sym, ap, subst, inl, inr, ◌∙◌, Bool, Result}
use Rattle.std.specs.FinMap.{IsAntisymmetric, nat_cmp-IsAntisymmetric, slice_cmp-IsAntisymmetric}
use Rattle.std.specs.Ordering.{ordering_then, ordering_reverse}
use Rattle.std.specs.declared.cmp.Ordering.{Ordering}
use Rattle.std.specs.declared.cmp.Ordering.TheVariants.{Less, Equal, Greater}
use Rattle.serde_json.specs.Data.{Data}
use Rattle.pbx_content.specs.declared.shape.Shape.{Shape}
use Rattle.pbx_json_meaning.specs.Asked.{Asked}
use Rattle.pbx_json_meaning.specs.Place.{IsUpTo, step_cmp, place_cmp}
use Rattle.pbx_json_meaning.specs.Faults.{Inside, opened, into, IsKeyFault, FaultAt, FirstFaultAt, SomeWith, OkWith}
use Rattle.pbx_json_meaning.specs.FirstFaults.{FirstHere, FirstAtKey, FirstBelow, IsCleanBefore}
use Rattle.pbx_json_meaning.proofs.Places.{step_back}
use Rattle.pbx_json_meaning.specs.declared.kind.JsonKind.{JsonKind}
use Rattle.pbx_json_meaning.specs.declared.place.Step.{Step}
use Rattle.pbx_json_meaning.specs.declared.place.Step.TheVariants.{Key, Index}

-- no place stands before the root
root_is_first : (q : List Step) → IsUpTo [] q
root_is_first [] = inr refl
root_is_first (step ∷ q) = inl refl

pub first_fault_here : FirstHere
first_fault_here shape allow d asked kind e = record { broken = e; first = λ q k h. root_is_first q }

abbrev AtLess : Ordering → Type 0
AtLess Less = Unit {0}
AtLess Equal = ⊥
AtLess Greater = ⊥

abbrev AtGreater : Ordering → Type 0
AtGreater Less = ⊥
AtGreater Equal = ⊥
AtGreater Greater = Unit {0}

-- steps that compare as equal are equal
step_alike : IsAntisymmetric step_cmp
step_alike (Key k) (Key l) e = ap Key (slice_cmp-IsAntisymmetric nat_cmp-IsAntisymmetric k l e)
step_alike (Index i) (Index j) e = ap Index (nat_cmp-IsAntisymmetric i j e)
step_alike (Key k) (Index j) e = absurd (subst AtLess e tt)
step_alike (Index i) (Key l) e = absurd (subst AtGreater e tt)

-- a place that begins as another and goes on no later
lifted : (step : Step) (place q : List Step) → step_cmp step step ≡ Equal → IsUpTo place q → IsUpTo (step ∷ place) (step ∷ q)
lifted step place q e (inl less) = inl (subst (λ o. ordering_then o (place_cmp place q) ≡ Less) (sym e) less)
lifted step place q e (inr same) = inr (ap (λ r. step ∷ r) same)

-- the rule that is broken below a tree that is read
under : (shape : Shape) (allow : Bool) (d : Data) (asked : Asked) (inside : Inside) (step : Step) (place : List Step) (kind : JsonKind)
    → opened shape allow d asked ≡ Ok inside → FaultAt shape allow (step ∷ place) d asked kind
    → IsKeyFault shape allow inside step place kind ⊎ SomeWith (into inside step) (λ next. FaultAt shape allow place next.0 next.1 kind)
under shape allow d asked inside step place kind read h =
    subst (λ o. OkWith o (λ i. IsKeyFault shape allow i step place kind ⊎ SomeWith (into i step) (λ next. FaultAt shape allow place next.0 next.1 kind))) read h

-- and back
over : (shape : Shape) (allow : Bool) (d : Data) (asked : Asked) (inside : Inside) (step : Step) (place : List Step) (kind : JsonKind)
    → opened shape allow d asked ≡ Ok inside
    → IsKeyFault shape allow inside step place kind ⊎ SomeWith (into inside step) (λ next. FaultAt shape allow place next.0 next.1 kind)
    → FaultAt shape allow (step ∷ place) d asked kind
over shape allow d asked inside step place kind read h =
    subst (λ o. OkWith o (λ i. IsKeyFault shape allow i step place kind ⊎ SomeWith (into i step) (λ next. FaultAt shape allow place next.0 next.1 kind)))
    (sym read) h

abbrev AtOk : Result Inside JsonKind → Type 0
AtOk (Ok i) = Unit {0}
AtOk (Err k) = ⊥

module _ (shape : Shape) (allow : Bool) (d : Data) (asked : Asked) (inside : Inside) (step : Step) (next : Data × Asked) (place : List Step) (kind : JsonKind)
    (read : opened shape allow d asked ≡ Ok inside) (clean : IsCleanBefore shape allow inside step)
    (own : (q : List Step) (k : JsonKind) → ¬ IsKeyFault shape allow inside step q k)
    (go : into inside step ≡ Some next) (f : FirstFaultAt shape allow next.0 next.1 place kind) where
  -- below the step itself
  at_step : (q : List Step) (k : JsonKind) → IsKeyFault shape allow inside step q k ⊎ SomeWith (into inside step) (λ n. FaultAt shape allow q n.0 n.1 k)
      → IsUpTo place q
  at_step q k (inl key) = absurd (own q k key)
  at_step q k (inr h) = f.first q k (subst (λ o. SomeWith o (λ n. FaultAt shape allow q n.0 n.1 k)) go h)

  -- below another step, by how it compares
  at_other : (s : Step) (q : List Step) (k : JsonKind) → FaultAt shape allow (s ∷ q) d asked k → (o : Ordering) → step_cmp step s ≡ o
      → IsUpTo (step ∷ place) (s ∷ q)
  at_other s q k h Less e = inl (subst (λ o. ordering_then o (place_cmp place q) ≡ Less) (sym e) refl)
  at_other s q k h Greater e = absurd (clean s (step_back s step ∙ ap ordering_reverse e) q k (under shape allow d asked inside s q k read h))
  at_other s q k h Equal e =
      let same : step ≡ s = step_alike step s e in
      let here : FaultAt shape allow (step ∷ q) d asked k = subst (λ t. FaultAt shape allow (t ∷ q) d asked k) (sym same) h in
      let own_turn : step_cmp step step ≡ Equal = subst (λ t. step_cmp step t ≡ Equal) (sym same) e in
      subst (λ t. IsUpTo (step ∷ place) (t ∷ q)) same (lifted step place q own_turn (at_step q k (under shape allow d asked inside step q k read here)))

  behind : (q : List Step) (k : JsonKind) → FaultAt shape allow q d asked k → IsUpTo (step ∷ place) q
  behind [] k h = absurd (subst AtOk (sym read ∙ h) tt)
  behind (s ∷ q) k h = at_other s q k h (step_cmp step s) refl

pub first_fault_below : FirstBelow
first_fault_below shape allow d asked inside step next place kind read clean own go f = record {
  broken = over shape allow d asked inside step place kind read (inr (subst (λ o. SomeWith o (λ n. FaultAt shape allow place n.0 n.1 kind)) (sym go) f.broken));
  first = behind shape allow d asked inside step next place kind read clean own go f;
}

module _ (shape : Shape) (allow : Bool) (d : Data) (asked : Asked) (inside : Inside) (step : Step)
    (read : opened shape allow d asked ≡ Ok inside) (clean : IsCleanBefore shape allow inside step) where
  -- at the key or below another step, by how it compares
  at_any : (s : Step) (q : List Step) (k : JsonKind) → FaultAt shape allow (s ∷ q) d asked k → (o : Ordering) → step_cmp step s ≡ o
      → IsUpTo (step ∷ []) (s ∷ q)
  at_any s q k h Less e = inl (subst (λ o. ordering_then o (place_cmp [] q) ≡ Less) (sym e) refl)
  at_any s q k h Greater e = absurd (clean s (step_back s step ∙ ap ordering_reverse e) q k (under shape allow d asked inside s q k read h))
  at_any s q k h Equal e =
      let same : step ≡ s = step_alike step s e in
      let own_turn : step_cmp step step ≡ Equal = subst (λ t. step_cmp step t ≡ Equal) (sym same) e in
      subst (λ t. IsUpTo (step ∷ []) (t ∷ q)) same (lifted step [] q own_turn (root_is_first q))

  behind_key : (q : List Step) (k : JsonKind) → FaultAt shape allow q d asked k → IsUpTo (step ∷ []) q
  behind_key [] k h = absurd (subst AtOk (sym read ∙ h) tt)
  behind_key (s ∷ q) k h = at_any s q k h (step_cmp step s) refl

pub first_fault_at_key : FirstAtKey
first_fault_at_key shape allow d asked inside step kind read clean key = record {
  broken = over shape allow d asked inside step [] kind read (inl key);
  first = behind_key shape allow d asked inside step read clean;
}
