-- Answers that agree with what trees say.
use Rattle.std.proofs.Common.{◌≡◌, ◌⊎◌, ℕ, ◌+◌, List, [], ◌∷◌, ◌++◌, Option, Some, None, option_map, option_and_then, Result, Ok, Err, refl, sym, ap, subst, inl, inr, append_assoc, append-nil}
use Rattle.pbx_content.specs.Content.{Val}
use Rattle.pbx_content.specs.declared.shape.Kind.{Kind}
use Rattle.pbx_json_meaning.specs.Asked.{Asked, one}
use Rattle.pbx_json_meaning.specs.Stands.{Says, ok_of, all_read, present}
use Rattle.pbx_json_meaning.specs.declared.kind.JsonKind.{JsonKind}
use Rattle.pbx_json_meaning.specs.declared.kind.JsonKind.TheVariants as fault
use Rattle.pbx_json_meaning.specs.declared.place.Step.{Step}
use Rattle.pbx_json_meaning.specs.declared.place.Step.TheVariants.{Index as to_index}
use Rattle.pbx_json_walk.specs.Walk.{Answer, Answers, or_here, at_step, and_then, answer_map, with_present, walk_items}

-- the answer is what is said; where nothing is said, it is a fault; an answer of no memory says nothing
abbrev pub Agrees : {X : Type 0} → Option X → Answer X → Type 0
Agrees r (Ok x) = r ≡ Some x
Agrees r (Err e) = (e.kind ≡ fault.NoMemory) ⊎ (r ≡ None)

pub along : {X : Type 0} (r s : Option X) (a : Answer X) → r ≡ s → Agrees r a → Agrees s a
along r s a e h = subst (λ o. Agrees o a) e h

pub at_step_agrees : {X : Type 0} (s : Step) (r : Option X) (a : Answer X) → Agrees r a → Agrees r (at_step s a)
at_step_agrees s r (Ok x) h = h
at_step_agrees s r (Err e) h = h

pub map_agrees : {X Y : Type 0} (g : X → Y) (r : Option X) (a : Answer X) → Agrees r a → Agrees (option_map g r) (answer_map g a)
map_agrees g r (Ok x) h = ap (option_map g) h
map_agrees g r (Err e) (inl h) = inl h
map_agrees g r (Err e) (inr h) = inr (ap (option_map g) h)

pub then_agrees : {X Y : Type 0} (g : X → Option Y) (f : X → Answer Y) (r : Option X) (a : Answer X) → Agrees r a → ((x : X) → Agrees (g x) (f x))
    → Agrees (option_and_then g r) (and_then a f)
then_agrees g f r (Ok x) h k = along (g x) (option_and_then g r) (f x) (sym (ap (option_and_then g) h)) (k x)
then_agrees g f r (Err e) (inl h) k = inl h
then_agrees g f r (Err e) (inr h) k = inr (ap (option_and_then g) h)

pub here_agrees : {X : Type 0} (r : Result X JsonKind) → Agrees (ok_of r) (or_here r)
here_agrees (Ok x) = refl
here_agrees (Err e) = inr refl

-- ---- lists

-- each answers for what is said
abbrev pub AgreeAll : List Says → List Answers → Type 0
AgreeAll [] [] = Unit {0}
AgreeAll (s ∷ ss) (a ∷ as') = ((asked : Asked) → Agrees (s asked) (a asked)) × AgreeAll ss as'
AgreeAll _ _ = ⊥

more : (o : Option Val) (vs : List Val) (os : List (Option Val)) → vs ++ present (o ∷ os) ≡ with_present o vs ++ present os
more None vs os = refl
more (Some v) vs os = sym (append_assoc vs (v ∷ []) (present os))

more_of : (o : Option Val) (vs : List Val) (r : Option (List (Option Val)))
    → option_map (λ os. with_present o vs ++ present os) r ≡ option_map (λ os. vs ++ present os) (option_map (λ os. o ∷ os) r)
more_of o vs None = refl
more_of o vs (Some os) = ap Some (sym (more o vs os))

-- what follows for the elements behind the first, where they agree
element_agrees : (k : Kind) (i : ℕ) (ss : List Says) (as' : List Answers) (vs : List Val)
    → ((o : Option Val) → Agrees (option_map (λ os. with_present o vs ++ present os) (all_read (λ says. says (one k)) ss)) (walk_items k (i + 1) as' (with_present o vs)))
    → (r : Option (Option Val)) (b : Answer (Option Val)) → Agrees r b
    → Agrees (option_map (λ os. vs ++ present os) (option_and_then (λ y. option_map (λ ys. y ∷ ys) (all_read (λ says. says (one k)) ss)) r))
    (and_then (at_step (to_index i) (answer_map (λ o. with_present o vs) b)) (walk_items k (i + 1) as'))
element_agrees k i ss as' vs ih r (Ok o) e =
    subst (λ q. Agrees (option_map (λ os. vs ++ present os) (option_and_then (λ y. option_map (λ ys. y ∷ ys) (all_read (λ says. says (one k)) ss)) q))
    (walk_items k (i + 1) as' (with_present o vs))) (sym e)
    (along _ _ (walk_items k (i + 1) as' (with_present o vs)) (more_of o vs (all_read (λ says. says (one k)) ss)) (ih o))
element_agrees k i ss as' vs ih r (Err e) (inl n) = inl n
element_agrees k i ss as' vs ih r (Err e) (inr n) =
    inr (ap (λ q. option_map (λ os. vs ++ present os) (option_and_then (λ y. option_map (λ ys. y ∷ ys) (all_read (λ says. says (one k)) ss)) q)) n)

pub items_agree : (k : Kind) (i : ℕ) (ss : List Says) (as' : List Answers) (vs : List Val) → AgreeAll ss as'
    → Agrees (option_map (λ os. vs ++ present os) (all_read (λ says. says (one k)) ss)) (walk_items k i as' vs)
items_agree k i [] [] vs h = ap Some (append-nil vs)
items_agree k i [] (a ∷ as') vs h = absurd h
items_agree k i (s ∷ ss) [] vs h = absurd h
items_agree k i (s ∷ ss) (a ∷ as') vs h = element_agrees k i ss as' vs (λ o. items_agree k (i + 1) ss as' (with_present o vs) h.1) (s (one k)) (a (one k)) (h.0 (one k))
