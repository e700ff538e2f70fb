-- Places in their order: of two, one stands before the other.
use Rattle.std.proofs.Common.{◌≡◌, List, [], ◌∷◌, refl, sym, ap, subst, inl, inr, ◌∙◌}
use Rattle.std.specs.Cmp.{IsTotalOrder}
use Rattle.std.proofs.lemmas.Cmp.{nat_cmp_total, nat_list_cmp_total}
use Rattle.std.specs.Ordering.{ordering_then, ordering_reverse}
use Rattle.std.specs.declared.cmp.Ordering.{Ordering}
use Rattle.std.specs.declared.cmp.Ordering.TheVariants.{Less, Equal, Greater}
use Rattle.pbx_json_meaning.specs.Laws.{FirstFaultIsOnePlace}
use Rattle.pbx_json_meaning.specs.Place.{IsUpTo, step_cmp, place_cmp}
use Rattle.pbx_json_meaning.specs.declared.place.Step.{Step}
use Rattle.pbx_json_meaning.specs.declared.place.Step.TheVariants.{Key, Index}

-- of two steps, one is before the other
pub step_back : (s t : Step) → step_cmp s t ≡ ordering_reverse (step_cmp t s)
step_back (Key k) (Key l) = IsTotalOrder.antisymm nat_list_cmp_total k l
step_back (Index i) (Index j) = IsTotalOrder.antisymm nat_cmp_total i j
step_back (Key k) (Index j) = refl
step_back (Index i) (Key l) = refl

then_back : (a b : Ordering) → ordering_then (ordering_reverse a) (ordering_reverse b) ≡ ordering_reverse (ordering_then a b)
then_back Less b = refl
then_back Equal b = refl
then_back Greater b = refl

-- of two places, one is before the other
place_back : (p q : List Step) → place_cmp p q ≡ ordering_reverse (place_cmp q p)
place_back [] [] = refl
place_back [] (t ∷ q) = refl
place_back (s ∷ p) [] = refl
place_back (s ∷ p) (t ∷ q) = rw (step_back s t, place_back p q) (then_back (step_cmp t s) (place_cmp q p))

abbrev AtGreater : Ordering → Type 0
AtGreater Less = ⊥
AtGreater Equal = ⊥
AtGreater Greater = Unit {0}

-- places that are up to one another are one
up_to_both : (p q : List Step) → IsUpTo p q → IsUpTo q p → p ≡ q
up_to_both p q (inr same) h = same
up_to_both p q (inl less) (inr same) = sym same
up_to_both p q (inl less) (inl more) = absurd (subst AtGreater (sym (place_back p q ∙ ap ordering_reverse more) ∙ less) tt)

pub first_fault_is_one_place : FirstFaultIsOnePlace
first_fault_is_one_place shape t allow tree p q j k f g = up_to_both p q (f.first q k g.broken) (g.first p j f.broken)
