-- Paths in lowerCamelCase, joined by commas one by one.
use Rattle.std.proofs.Common.{◌≡◌, ◌⊎◌, ◌∙◌, ℕ, ◌+◌, ◌<◌, List, [], ◌∷◌, ◌++◌, drop, get_or, length, Option, Some, None, option_map, option_and_then, Ok, Err, refl, ap, sym, append_assoc, inl, inr}
use Rattle.std.specs.List.{join_with_byte}
use Rattle.std.proofs.lemmas.List.{at_drop_more}
use Rattle.pbx_text.specs.Decimal.{or_form}
use Rattle.pbx_text.specs.Mask.{camel_of, camel_written, each_of, mask_text, mask_written}
use Rattle.pbx_text.specs.declared.fault.TextFault.{TextFault}
use Rattle.pbx_text.specs.declared.fault.TextFault.TheVariants.{Form, NoMemory}

-- pieces behind a text, a separator in front of each: none in front of the first of all
abbrev pub joined_behind : List ℕ → List ℕ → List (List ℕ) → List ℕ
joined_behind separator text [] = text
joined_behind separator text (p ∷ ps) = text ++ separator ++ join_with_byte 44 (p ∷ ps)

-- the mask text is what was written, and what the paths from the nth on add
abbrev pub HaveWritten : List (List ℕ) → List ℕ → List ℕ → List (List ℕ) → Type 0
HaveWritten paths text separator rest = mask_text paths ≡ option_map (joined_behind separator text) (each_of camel_of rest)

pub none_written : (paths : List (List ℕ)) → HaveWritten paths [] [] paths
unfolding mask_text
none_written paths = at (each_of camel_of paths)
  where
    at : (o : Option (List (List ℕ))) → option_map (join_with_byte 44) o ≡ option_map (joined_behind [] []) o
    at None = refl
    at (Some []) = refl
    at (Some (p ∷ ps)) = refl

pub next_path : (paths : List (List ℕ)) (text separator : List ℕ) (i : ℕ) (path : List ℕ) → HaveWritten paths text separator (drop i paths) → i < length paths
    → path ≡ get_or paths i path → HaveWritten paths text separator (path ∷ drop (i + 1) paths)
next_path paths text separator i path have low is =
    have
    ∙ at_drop_more (λ ps. option_map (joined_behind separator text) (each_of camel_of ps)) paths i path low
    ∙ ap (λ p. option_map (joined_behind separator text) (each_of camel_of (p ∷ drop (i + 1) paths))) (sym is)

more_behind : (separator text piece : List ℕ) (o : Option (List (List ℕ)))
    → option_map (joined_behind separator text) (option_map (λ qs. piece ∷ qs) o) ≡ option_map (joined_behind (44 ∷ []) (text ++ separator ++ piece)) o
more_behind separator text piece None = refl
more_behind separator text piece (Some []) = refl
more_behind separator text piece (Some (p ∷ ps)) =
    let front : List ℕ = text ++ separator in
    let behind : List ℕ = join_with_byte 44 (p ∷ ps) in
    ap Some (sym (append_assoc (front ++ piece) (44 ∷ []) behind ∙ append_assoc front piece (44 ∷ behind)))

path_is : (path piece : List ℕ) → camel_written path ≡ Ok piece → camel_of path ≡ Some piece
path_is path piece is = at (camel_of path) is
  where
    at : (o : Option (List ℕ)) → or_form o ≡ Ok piece → o ≡ Some piece
    at None h = cc h
    at (Some x) h = cc h

no_piece : (path : List ℕ) (e : TextFault) → camel_written path ≡ Err e → (camel_of path ≡ None) × (e ≡ Form)
no_piece path e is = at (camel_of path) is
  where
    at : (o : Option (List ℕ)) → or_form o ≡ Err e → (o ≡ None) × (e ≡ Form)
    at None h = (refl, cc h)
    at (Some x) h = cc h

-- a path in front of others
abbrev before_rest : List ℕ → List ℕ → Option (List ℕ) → List (List ℕ) → Option (List ℕ)
before_rest separator text o rest = option_map (joined_behind separator text) (option_and_then (λ q. option_map (λ qs. q ∷ qs) (each_of camel_of rest)) o)

pub path_goes : (paths : List (List ℕ)) (text separator path piece : List ℕ) (rest : List (List ℕ)) → HaveWritten paths text separator (path ∷ rest)
    → camel_written path ≡ Ok piece → HaveWritten paths (text ++ separator ++ piece) (44 ∷ []) rest
path_goes paths text separator path piece rest have written =
    have
    ∙ ap (λ o. before_rest separator text o rest) (path_is path piece written)
    ∙ more_behind separator text piece (each_of camel_of rest)

pub path_fails : (paths : List (List ℕ)) (text separator path : List ℕ) (rest : List (List ℕ)) (e : TextFault)
    → HaveWritten paths text separator (path ∷ rest) → (e ≡ NoMemory) ⊎ (camel_written path ≡ Err e) → (e ≡ NoMemory) ⊎ (mask_written paths ≡ Err e)
path_fails paths text separator path rest e have (inl h) = inl h
path_fails paths text separator path rest e have (inr written) =
    let why = no_piece path e written in
    let none : mask_text paths ≡ None = have ∙ ap (λ o. before_rest separator text o rest) why.0 in
    inr (rw (none, why.1) refl)

pub paths_end : (paths : List (List ℕ)) (text separator : List ℕ) → HaveWritten paths text separator [] → mask_written paths ≡ Ok text
paths_end paths text separator have = rw have refl
