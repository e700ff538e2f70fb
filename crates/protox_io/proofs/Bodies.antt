-- The components of a path, taken from its begin.
use Rattle.std.proofs.Common.{◌≡◌, ℕ, ◌==◌, ◌&&◌, List, [], ◌∷◌, ◌++◌, Bool, true, false, not, cond, length, map, refl, sym, ap, ◌∙◌, codes}
use Rattle.std.specs.Str.{bytes_eq}
use Rattle.std.specs.List.{filter}
use Rattle.std.proofs.lemmas.List.Elements.{filter-append}
use Rattle.protox_io.specs.Paths.{Component, Root, Current, Parent, Named, parts, is_rooted, is_dot, is_first_dot, start, component, components, is_current, bare}
use Rattle.protox_io.specs.Left.{part_or_none, body, left}

abbrev pub keep : Component → Bool
keep c = not (is_current c)

abbrev pub is_parent : List ℕ → Bool
is_parent part = bytes_eq part (codes "..")

abbrev pub other : List ℕ → Bool
other part = not (is_dot part)

-- the root, if there is one
abbrev pub root : List ℕ → List Component
root path = cond (is_rooted path) (Root ∷ []) []

-- no component of a part is the leading dot
keeps : (ps : List (List ℕ)) → filter keep (map component ps) ≡ map component ps
keeps [] = refl
keeps (p ∷ ps) =
    elim (is_parent p) as (λ b. cond (keep (cond b Parent (Named p))) (cond b Parent (Named p) ∷ filter keep (map component ps)) (filter keep (map component ps)) ≡ cond b Parent (Named p) ∷ map component ps) [
      | true ↦ ap (λ l. Parent ∷ l) (keeps ps)
      | false ↦ ap (λ l. Named p ∷ l) (keeps ps)
    ]

keeps_start : (path : List ℕ) → filter keep (start path) ≡ root path
keeps_start path =
    elim (is_rooted path) as (λ r. filter keep (cond r (Root ∷ []) (cond (is_first_dot (parts path)) (Current ∷ []) [])) ≡ cond r (Root ∷ []) []) [
      | true ↦ refl
      | false ↦ elim (is_first_dot (parts path)) as (λ d. filter keep (cond d (Current ∷ []) []) ≡ []) [ true ↦ refl | false ↦ refl ]
    ]

pub bare-is : (path : List ℕ) → bare path ≡ left (is_rooted path) path
bare-is path =
    filter-append keep (start path) (body path)
    ∙ ap (λ l. l ++ filter keep (body path)) (keeps_start path)
    ∙ ap (λ l. root path ++ l) (keeps (filter other (parts path)))

pub left_new : (path : List ℕ) (rooted : Bool) → rooted ≡ is_rooted path → left rooted path ≡ bare path
left_new path rooted e = ap (λ r. left r path) e ∙ sym (bare-is path)

pub body_none : (path : List ℕ) → parts path ≡ [] → body path ≡ []
body_none path e = ap (λ ps. map component (filter other ps)) e

pub body_dot : (path part rest : List ℕ) → parts path ≡ part ∷ parts rest → is_dot part ≡ true → body path ≡ body rest
body_dot path part rest e dot =
    ap (λ ps. map component (filter other ps)) e ∙ ap (λ b. map component (cond (not b) (part ∷ filter other (parts rest)) (filter other (parts rest)))) dot

pub body_part : (path part rest : List ℕ) → parts path ≡ part ∷ parts rest → is_dot part ≡ false → body path ≡ component part ∷ body rest
body_part path part rest e dot =
    ap (λ ps. map component (filter other ps)) e ∙ ap (λ b. map component (cond (not b) (part ∷ filter other (parts rest)) (filter other (parts rest)))) dot

-- an empty part is none
pub parts_empty : (path part rest : List ℕ) → parts path ≡ part_or_none part ++ parts rest → (length part == 0) ≡ true → parts path ≡ parts rest
parts_empty path part rest e none = e ∙ ap (λ b. cond b [] (part ∷ []) ++ parts rest) none

pub parts_full : (path part rest : List ℕ) → parts path ≡ part_or_none part ++ parts rest → (length part == 0) ≡ false → parts path ≡ part ∷ parts rest
parts_full path part rest e some = e ∙ ap (λ b. cond b [] (part ∷ []) ++ parts rest) some

pub body_empty : (path part rest : List ℕ) → parts path ≡ part_or_none part ++ parts rest → (length part == 0) ≡ true → body path ≡ body rest
body_empty path part rest e none = ap (λ ps. map component (filter other ps)) (parts_empty path part rest e none)

and_left : (a b : Bool) → (a && b) ≡ true → a ≡ true
and_left true b e = refl
and_left false b e = e

-- the root stands before an empty part
pub body_root : (path part rest : List ℕ) → parts path ≡ part_or_none part ++ parts rest → is_rooted path ≡ true → is_rooted path ≡ ((length part == 0) && not (length path == 0)) → body path ≡ body rest
body_root path part rest e rooted is = body_empty path part rest e (and_left (length part == 0) (not (length path == 0)) (sym is ∙ rooted))

-- a path that begins with a part other than a dot has no more components
pub components_part : (path part rest : List ℕ) → parts path ≡ part_or_none part ++ parts rest → (length part == 0) ≡ false → is_dot part ≡ false → is_rooted path ≡ ((length part == 0) && not (length path == 0)) → components path ≡ body path
components_part path part rest e some dot is =
    let unrooted : is_rooted path ≡ false = is ∙ ap (λ b. b && not (length path == 0)) some in
    let first : is_first_dot (parts path) ≡ false = ap is_first_dot (parts_full path part rest e some) ∙ dot in
    ap (λ b. cond b (Root ∷ []) (cond (is_first_dot (parts path)) (Current ∷ []) []) ++ body path) unrooted
    ∙ ap (λ b. cond b (Current ∷ []) [] ++ body path) first

pub components_root : (path : List ℕ) → is_rooted path ≡ true → components path ≡ Root ∷ body path
components_root path rooted = ap (λ b. cond b (Root ∷ []) (cond (is_first_dot (parts path)) (Current ∷ []) []) ++ body path) rooted
