-- The name that the components of a path give.
use Rattle.std.proofs.Common.{◌≡◌, ◌<◌, ℕ, ◌==◌, List, [], ◌∷◌, ◌++◌, Bool, true, false, not, cond, length, map, refl, sym, ap, ◌∙◌, arith, append_assoc, length-append, Some, None}
use Rattle.std.specs.List.{filter, list_all, list_any, join_with_byte, slice_split}
use Rattle.std.proofs.lemmas.Bool.Decides.{nat_tests}
use Rattle.protox_io.specs.Paths.{Component, Root, Current, Parent, Named, is_current, is_rooted, is_dot, start, component, components, bare}
use Rattle.protox_io.specs.FileNames.{is_ordinary, name_bytes, joined_names, name_of, leads_out, escapes}
use Rattle.protox_io.specs.Left.{body, left, named_from}
use Rattle.protox_io.proofs.Bodies.{other, is_parent, bare-is}
use Rattle.protox_io.proofs.Split.{is_part}

join_onto : (s q : List ℕ) (m : List (List ℕ)) → join_with_byte 47 ((s ++ 47 ∷ q) ∷ m) ≡ join_with_byte 47 (s ∷ q ∷ m)
join_onto s q [] = refl
join_onto s q (x ∷ m) = append_assoc s (47 ∷ q) (47 ∷ join_with_byte 47 (x ∷ m))

full : (s q : List ℕ) → (length (s ++ 47 ∷ q) == 0) ≡ false
full s q =
    let long : 0 < length (s ++ 47 ∷ q) = omega (arith, length-append s (47 ∷ q)) in
    grind (arith, nat_tests)

-- behind a name that is not empty
from_some : (s : List ℕ) (cs : List Component) → (length s == 0) ≡ false → named_from s cs ≡ cond (list_all is_ordinary cs) (Some (join_with_byte 47 (s ∷ map name_bytes cs))) None
from_some s [] some = ap (λ b. cond b None (Some s)) some
from_some s (Named q ∷ cs) some =
    ap (λ b. named_from (cond b q (s ++ 47 ∷ q)) cs) some
    ∙ from_some (s ++ 47 ∷ q) cs (full s q)
    ∙ ap (λ l. cond (list_all is_ordinary cs) (Some l) None) (join_onto s q (map name_bytes cs))
from_some s (Root ∷ cs) some = refl
from_some s (Current ∷ cs) some = refl
from_some s (Parent ∷ cs) some = refl

-- the components of these parts
abbrev pub of_parts : List (List ℕ) → List Component
of_parts ps = map component (filter other (filter is_part ps))

from_none : (ps : List (List ℕ)) → joined_names (of_parts ps) ≡ named_from [] (of_parts ps)
from_none [] = refl
from_none (p ∷ ps) =
    let rest = of_parts ps in
    let named : (length p == 0) ≡ false → joined_names (component p ∷ rest) ≡ named_from [] (component p ∷ rest) = λ some.
    elim (is_parent p) as (λ b. joined_names (cond b Parent (Named p) ∷ rest) ≡ named_from [] (cond b Parent (Named p) ∷ rest)) [
      | true ↦ refl
      | false ↦ sym (from_some p rest some)
    ] in
    let whole : (length p == 0) ≡ false → joined_names (map component (filter other (p ∷ filter is_part ps))) ≡ named_from [] (map component (filter other (p ∷ filter is_part ps))) = λ some.
    elim (is_dot p) as (λ b. joined_names (map component (cond (not b) (p ∷ filter other (filter is_part ps)) (filter other (filter is_part ps)))) ≡ named_from [] (map component (cond (not b) (p ∷ filter other (filter is_part ps)) (filter other (filter is_part ps))))) [
      | true ↦ from_none ps
      | false ↦ named some
    ] in
    let at_length : (v : Bool) → (length p == 0) ≡ v → joined_names (map component (filter other (cond (not v) (p ∷ filter is_part ps) (filter is_part ps)))) ≡ named_from [] (map component (filter other (cond (not v) (p ∷ filter is_part ps) (filter is_part ps)))) = λ v.
    elim v as (λ v. (length p == 0) ≡ v → joined_names (map component (filter other (cond (not v) (p ∷ filter is_part ps) (filter is_part ps)))) ≡ named_from [] (map component (filter other (cond (not v) (p ∷ filter is_part ps) (filter is_part ps))))) [
      | true ↦ λ e. from_none ps
      | false ↦ λ e. whole e
    ] in
    at_length (length p == 0) refl

from_left : (path : List ℕ) (rooted : Bool) → joined_names (left rooted path) ≡ named_from [] (left rooted path)
from_left path true = refl
from_left path false = from_none (slice_split (λ b. b == 47) path)

-- a path that does not begin with a dot gives the name of its components without dots
pub name_begins : (path name : List ℕ) (cs : List Component) (dot : Bool) → start path ≡ cond (is_rooted path) (Root ∷ []) (cond dot (Current ∷ []) []) → dot ≡ false → name ≡ [] → cs ≡ bare path → name_of path ≡ named_from name cs
name_begins path name cs dot e undotted empty is =
    let starts : start path ≡ cond (is_rooted path) (Root ∷ []) [] = e ∙ ap (λ d. cond (is_rooted path) (Root ∷ []) (cond d (Current ∷ []) [])) undotted in
    ap (λ l. joined_names (l ++ body path)) starts
    ∙ from_left path (is_rooted path)
    ∙ ap (named_from []) (sym (bare-is path))
    ∙ ap (named_from []) (sym is)
    ∙ ap (λ l. named_from l cs) (sym empty)

pub name_dotted : (path : List ℕ) (dot : Bool) → start path ≡ cond (is_rooted path) (Root ∷ []) (cond dot (Current ∷ []) []) → dot ≡ true → name_of path ≡ None
name_dotted path dot e dotted =
    let starts : start path ≡ cond (is_rooted path) (Root ∷ []) (Current ∷ []) = e ∙ ap (λ d. cond (is_rooted path) (Root ∷ []) (cond d (Current ∷ []) [])) dotted in
    ap (λ l. joined_names (l ++ body path)) starts
    ∙ elim (is_rooted path) as (λ r. joined_names (cond r (Root ∷ []) (Current ∷ []) ++ body path) ≡ None) [ true ↦ refl | false ↦ refl ]

-- a leading dot leads nowhere
without_dot : (cs : List Component) → list_any leads_out (filter (λ c. not (is_current c)) cs) ≡ list_any leads_out cs
without_dot [] = refl
without_dot (Root ∷ cs) = refl
without_dot (Current ∷ cs) = without_dot cs
without_dot (Parent ∷ cs) = refl
without_dot (Named name ∷ cs) = without_dot cs

-- a name leaves its folder by its components without dots
pub escapes_begins : (name : List ℕ) (cs : List Component) → cs ≡ bare name → escapes name ≡ list_any leads_out cs
escapes_begins name cs is = sym (without_dot (components name)) ∙ ap (list_any leads_out) (sym is)
