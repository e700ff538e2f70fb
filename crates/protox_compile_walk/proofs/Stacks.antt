-- A stack that is kept in a list, its top last.
use Rattle.std.proofs.Common.{◌≡◌, ◌∷◌, ◌++◌, ◌∙◌, [], ℕ, List, Bool, true, false, refl, sym, ap, map, reverse, length}
use Rattle.std.specs.Prelude.{◌||◌}
use Rattle.std.specs.List.{list_any}
use Rattle.std.specs.Str.{bytes_eq}
use Rattle.std.proofs.lemmas.List.{reverse-append, reverse-reverse, map-append, length-map}
use Rattle.std.proofs.lemmas.List.Folds.{list_any-append}
use Rattle.pbx_link_definitions.specs.Names.{among}
use Rattle.protox_compile_walk.specs.Walk.{Open}
use Rattle.protox_compile_walk.specs.Resume.{names_of}
use Rattle.protox_compile_walk.specs.declared.indexes.Indexes.{Indexes}
use Rattle.protox_compile_walk.specs.Indexes.{AreIndexed}

or_swap : (a b : Bool) → (a || b) ≡ (b || a)
or_swap true true = refl
or_swap true false = refl
or_swap false true = refl
or_swap false false = refl

or_false : (a b : Bool) → ((a || false) || b) ≡ (a || b)
or_false true b = refl
or_false false b = refl

pub list_any_reverse : {X : Type 0} (p : X → Bool) (xs : List X) → list_any p (reverse xs) ≡ list_any p xs
list_any_reverse p [] = refl
list_any_reverse p (x ∷ xs) = let e : reverse (x ∷ xs) ≡ reverse xs ++ x ∷ [] = reverse-append (x ∷ []) xs in
    rw (e, list_any-append, list_any_reverse p xs) (or_swap (list_any p xs) (list_any p (x ∷ [])) ∙ or_false (p x) (list_any p xs))

pub reverse_push : {X : Type 0} (xs : List X) (x : X) → reverse (xs ++ x ∷ []) ≡ x ∷ reverse xs
reverse_push xs x = reverse-append xs (x ∷ [])

pub map_reverse : {X Y : Type 0} (f : X → Y) (xs : List X) → map f (reverse xs) ≡ reverse (map f xs)
map_reverse f [] = refl
map_reverse f (x ∷ xs) =
    let e : reverse (x ∷ xs) ≡ reverse xs ++ x ∷ [] = reverse-append (x ∷ []) xs in
    let g : reverse (f x ∷ map f xs) ≡ reverse (map f xs) ++ f x ∷ [] = reverse-append (f x ∷ []) (map f xs) in
    rw (e, map-append, map_reverse f xs, g) refl

pub names_reversed : {X Y : Type 0} (f : X → Y) (xs : List X) → map f xs ≡ reverse (map f (reverse xs))
names_reversed f xs = rw (map_reverse, reverse-reverse) refl

-- a name is that of one of the files in either order
pub among_reversed : (fs : List Open) (name : List ℕ) → among (names_of fs) name ≡ among (names_of (reverse fs)) name
among_reversed fs name = sym (ap (λ ns. among ns name) (map_reverse (λ (f : Open). f.name) fs) ∙ list_any_reverse (λ n. bytes_eq n name) (names_of fs))

-- the last of the files is taken out
pub indexed_pop : (names now : Indexes) (old fs : List Open) (f : Open) (index : ℕ) → index ≡ length fs → old ≡ fs ++ f ∷ []
    → ((ns : List (List ℕ)) → length ns ≡ index → AreIndexed names (ns ++ f.name ∷ []) → AreIndexed now ns) → AreIndexed names (names_of old)
    → AreIndexed now (names_of fs)
indexed_pop names now old fs f index long is less h =
    let same : length (names_of fs) ≡ index = rw length-map (sym long) in
    less (names_of fs) same (rw (is, map-append) at h)
