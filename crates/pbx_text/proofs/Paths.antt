-- The pieces of a mask text, one by one.
use Rattle.std.proofs.Common.{◌≡◌, ◌⊎◌, ◌∙◌, ℕ, ◌+◌, ◌<◌, ◌==◌, List, [], ◌∷◌, ◌++◌, filter, false, get_or, drop, length, Option, Some, None, option_map, option_and_then, Ok, Err, refl, ap, sym, append_assoc, append-nil, arith, inl, inr}
use Rattle.std.specs.List.{slice_split}
use Rattle.std.proofs.lemmas.Bool.Decides.{nat_tests}
use Rattle.std.proofs.lemmas.List.{at_drop_more, at_drop_all}
use Rattle.pbx_text.specs.Decimal.{or_form}
use Rattle.pbx_text.specs.Mask.{each_of, is_filled, mask_of, mask_read, snake_of, snake_read}
use Rattle.pbx_text.specs.declared.fault.TextFault.{TextFault}
use Rattle.pbx_text.specs.declared.fault.TextFault.TheVariants.{Form, NoMemory}

abbrev pub pieces : List ℕ → List (List ℕ)
pieces text = slice_split (λ c. c == 44) text

-- the paths of the pieces that are left
abbrev pub paths_of : List (List ℕ) → Option (List (List ℕ))
paths_of ps = each_of snake_of (filter is_filled ps)

-- the paths of a mask text are those that were read, and those of the pieces from the nth on
abbrev pub HaveRead : List ℕ → List (List ℕ) → ℕ → Type 0
HaveRead text paths n = mask_of text ≡ option_map (λ more. paths ++ more) (paths_of (drop n (pieces text)))

none_before : (o : Option (List (List ℕ))) → o ≡ option_map (λ more. [] ++ more) o
none_before None = refl
none_before (Some x) = refl

more_behind : (paths : List (List ℕ)) (path : List ℕ) (o : Option (List (List ℕ)))
    → option_map (λ more. paths ++ more) (option_map (λ qs. path ∷ qs) o) ≡ option_map (λ more. (paths ++ path ∷ []) ++ more) o
more_behind paths path None = refl
more_behind paths path (Some x) = ap Some (sym (append_assoc paths (path ∷ []) x))

next : (text : List ℕ) (paths : List (List ℕ)) (n : ℕ) (piece : List ℕ) → HaveRead text paths n → n < length (pieces text)
    → piece ≡ get_or (pieces text) n piece → mask_of text ≡ option_map (λ more. paths ++ more) (paths_of (piece ∷ drop (n + 1) (pieces text)))
next text paths n piece have low is =
    have
    ∙ at_drop_more (λ ps. option_map (λ more. paths ++ more) (paths_of ps)) (pieces text) n piece low
    ∙ ap (λ p. option_map (λ more. paths ++ more) (paths_of (p ∷ drop (n + 1) (pieces text)))) (sym is)

pub none_read : (text : List ℕ) → HaveRead text [] 0
unfolding mask_of
none_read text = none_before (paths_of (pieces text))

pub empty_goes : (text : List ℕ) (paths : List (List ℕ)) (n : ℕ) (piece : List ℕ) → HaveRead text paths n → n < length (pieces text)
    → piece ≡ get_or (pieces text) n piece → length piece ≡ 0 → HaveRead text paths (n + 1)
empty_goes text paths n [] have low is none = next text paths n [] have low is
empty_goes text paths n (c ∷ cs) have low is none = absurd (omega arith)

path_is : (piece path : List ℕ) → snake_read piece ≡ Ok path → snake_of piece ≡ Some path
path_is piece path is = at (snake_of piece) is
  where
    at : (o : Option (List ℕ)) → or_form o ≡ Ok path → o ≡ Some path
    at None h = cc h
    at (Some x) h = cc h

no_path : (piece : List ℕ) (e : TextFault) → snake_read piece ≡ Err e → (snake_of piece ≡ None) × (e ≡ Form)
no_path piece e is = at (snake_of piece) is
  where
    at : (o : Option (List ℕ)) → or_form o ≡ Err e → (o ≡ None) × (e ≡ Form)
    at None h = (refl, cc h)
    at (Some x) h = cc h

-- a piece with a path in front of others
abbrev before_paths : Option (List ℕ) → List (List ℕ) → Option (List (List ℕ))
before_paths o ps = option_and_then (λ q. option_map (λ qs. q ∷ qs) (paths_of ps)) o

filled_first : (piece : List ℕ) (ps : List (List ℕ)) → 0 < length piece → paths_of (piece ∷ ps) ≡ before_paths (snake_of piece) ps
filled_first piece ps some =
    let filled : (length piece == 0) ≡ false = grind (arith, nat_tests, some) in
    rw filled refl

pub piece_goes : (text : List ℕ) (paths : List (List ℕ)) (n : ℕ) (piece path : List ℕ) → HaveRead text paths n → n < length (pieces text)
    → piece ≡ get_or (pieces text) n piece → 0 < length piece → snake_read piece ≡ Ok path → HaveRead text (paths ++ path ∷ []) (n + 1)
piece_goes text paths n piece path have low is some read =
    next text paths n piece have low is
    ∙ ap (λ o. option_map (λ more. paths ++ more) o) (filled_first piece (drop (n + 1) (pieces text)) some)
    ∙ ap (λ o. option_map (λ more. paths ++ more) (before_paths o (drop (n + 1) (pieces text)))) (path_is piece path read)
    ∙ more_behind paths path (paths_of (drop (n + 1) (pieces text)))

pub piece_fails : (text : List ℕ) (paths : List (List ℕ)) (n : ℕ) (piece : List ℕ) (e : TextFault) → HaveRead text paths n → n < length (pieces text)
    → piece ≡ get_or (pieces text) n piece → 0 < length piece → (e ≡ NoMemory) ⊎ (snake_read piece ≡ Err e) → (e ≡ NoMemory) ⊎ (mask_read text ≡ Err e)
piece_fails text paths n piece e have low is some (inl h) = inl h
piece_fails text paths n piece e have low is some (inr read) =
    let why = no_path piece e read in
    let none : mask_of text ≡ None =
    next text paths n piece have low is
    ∙ ap (λ o. option_map (λ more. paths ++ more) o) (filled_first piece (drop (n + 1) (pieces text)) some)
    ∙ ap (λ o. option_map (λ more. paths ++ more) (before_paths o (drop (n + 1) (pieces text)))) why.0
    in
    inr (rw (none, why.1) refl)

pub pieces_end : (text : List ℕ) (paths : List (List ℕ)) (n : ℕ) → HaveRead text paths n → n ≡ length (pieces text) → mask_read text ≡ Ok paths
pieces_end text paths n have is =
    let all : mask_of text ≡ Some paths =
    have
    ∙ at_drop_all (λ ps. option_map (λ more. paths ++ more) (paths_of ps)) (pieces text) n (omega (arith, is))
    ∙ ap Some (append-nil paths)
    in
    rw all refl
