-- The view of a list is the list of the views.
use Rattle.std.proofs.Common.{◌≡◌, List, [], ◌∷◌, map, refl, ap}
use Rattle.pbx_parse_token.specs.declared.token.Span.{Span}
use Rattle.pbx_parse_tree.specs.View.{next_of}

-- of those that stand after marks
pub next_seen : {A B : Type 0} (view : A → B) (xs : List (Span × A)) → map view (map (λ x. x.1) xs) ≡ map (λ x. x.1) (map (next_of view) xs)
next_seen view [] = refl
next_seen view (x ∷ xs) = ap (λ ys. view x.1 ∷ ys) (next_seen view xs)
