-- Walks over lists that end at the first place that is found.
use Rattle.std.proofs.Common.{◌≡◌, ◌∙◌, ℕ, ◌+◌, ◌<◌, List, [], ◌∷◌, ◌++◌, map, length, drop, get_or, cond, Bool, true, false, Option, Some, None, refl, ap, sym, subst, arith}
use Rattle.std.specs.Prelude.{Contains}
use Rattle.std.specs.List.{flat_map, filter}
use Rattle.std.proofs.lemmas.List.{at_drop_more}
use Rattle.std.proofs.lemmas.List.Elements.{Contains-append_left}
use Rattle.pbx_link_definitions.specs.Definitions.{Place}
use Rattle.pbx_link_definitions.specs.Places.{places_where, IsAmong}

-- what is left, from the item at the index on
left_at : {X Y : Type 0} (F : List X → Y) (xs : List X) (i : ℕ) (x : X) → i < length xs → x ≡ get_or xs i x → F (drop i xs) ≡ F (x ∷ drop (i + 1) xs)
left_at F xs i x lt is = at_drop_more F xs i x lt ∙ ap (λ y. F (y ∷ drop (i + 1) xs)) (sym is)

-- ---- a test at each item

pub where_here : {X : Type 0} (test : X → Bool) (place : X → Place) (xs : List X) (i : ℕ) (x : X) (whole : List Place) (p : Place) → whole ≡ places_where test place (drop i xs) → i < length xs → x ≡ get_or xs i x
    → test x ≡ true → p ≡ place x → Contains whole p
where_here {X} test place xs i x whole p so_far lt is passes at =
    let all : whole ≡ map place (cond (test x) (x ∷ filter test (drop (i + 1) xs)) (filter test (drop (i + 1) xs))) = so_far ∙ left_at (places_where test place) xs i x lt is in
    let here : whole ≡ place x ∷ map place (filter test (drop (i + 1) xs)) =
    all ∙ ap (λ (b : Bool). map place (cond b (x ∷ filter test (drop (i + 1) xs)) (filter test (drop (i + 1) xs)))) passes in
    subst (λ (q : Place). Contains whole q) (sym at) (subst (λ (ps : List Place). Contains ps (place x)) (sym here) (0, omega arith, refl))

pub where_next : {X : Type 0} (test : X → Bool) (place : X → Place) (xs : List X) (i : ℕ) (x : X) (whole : List Place) → whole ≡ places_where test place (drop i xs) → i < length xs → x ≡ get_or xs i x
    → test x ≡ false → whole ≡ places_where test place (drop (i + 1) xs)
where_next {X} test place xs i x whole so_far lt is fails =
    so_far ∙ left_at (places_where test place) xs i x lt is ∙ ap (λ (b : Bool). map place (cond b (x ∷ filter test (drop (i + 1) xs)) (filter test (drop (i + 1) xs)))) fails

-- ---- a search in each item

pub flat_here : {X : Type 0} (F : X → List Place) (xs : List X) (i : ℕ) (x : X) (whole : List Place) (o : Option Place) (p : Place) → whole ≡ flat_map F (drop i xs) → i < length xs → x ≡ get_or xs i x
    → IsAmong (F x) o → o ≡ Some p → Contains whole p
flat_here {X} F xs i x whole o p so_far lt is among found =
    subst (λ (ps : List Place). Contains ps p) (sym (so_far ∙ left_at (flat_map F) xs i x lt is)) (Contains-append_left (F x) (flat_map F (drop (i + 1) xs)) p (subst (IsAmong (F x)) found among))

pub flat_next : {X : Type 0} (F : X → List Place) (xs : List X) (i : ℕ) (x : X) (whole : List Place) (o : Option Place) → whole ≡ flat_map F (drop i xs) → i < length xs → x ≡ get_or xs i x
    → IsAmong (F x) o → o ≡ None → whole ≡ flat_map F (drop (i + 1) xs)
flat_next {X} F xs i x whole o so_far lt is among none =
    let empty : F x ≡ [] = subst (IsAmong (F x)) none among in
    so_far ∙ left_at (flat_map F) xs i x lt is ∙ ap (λ (ps : List Place). ps ++ flat_map F (drop (i + 1) xs)) empty
