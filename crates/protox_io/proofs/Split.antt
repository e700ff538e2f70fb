-- The first part of a path.
use Rattle.std.proofs.Common.{◌≡◌, ◌≢◌, ◌<◌, ℕ, suc, ◌==◌, ◌&&◌, List, [], ◌∷◌, ◌++◌, Bool, true, false, not, cond, length, get_or, refl, sym, ap, ◌∙◌, arith, append-nil, length-append}
use Rattle.std.specs.List.{slice_split, filter, All}
use Rattle.std.proofs.lemmas.List.Elements.{filter-append}
use Rattle.std.proofs.lemmas.List.{get_or_default}
use Rattle.std.proofs.lemmas.List.Splits.{slice_split_none, slice_split_at}
use Rattle.std.proofs.lemmas.Bool.Decides.{nat_tests}
use Rattle.protox_io.specs.Paths.{parts, is_rooted, is_dot}
use Rattle.protox_io.specs.Left.{part_or_none}

abbrev pub is_slash : ℕ → Bool
is_slash b = b == 47

abbrev pub is_part : List ℕ → Bool
is_part part = not (length part == 0)

abbrev pub is_ordinary : List ℕ → Bool
is_ordinary part = not (is_dot part)

not_slash : (b : ℕ) → b ≢ 47 → is_slash b ≡ false
not_slash b n = grind (arith, nat_tests)

pub some_length : (n : ℕ) → (suc n == 0) ≡ false
some_length n = grind (arith, nat_tests)

no_slash : (s : List ℕ) → ((i : ℕ) → i < length s → get_or s i 0 ≢ 47) → All (λ b. is_slash b ≡ false) s
no_slash s h = λ k d below. ap is_slash (get_or_default s k d 0 below) ∙ not_slash (get_or s k 0) (h k below)

one : (part : List ℕ) → filter is_part (part ∷ []) ≡ part_or_none part
one part = elim (length part == 0) as (λ b. cond (not b) (part ∷ []) [] ≡ cond b [] (part ∷ [])) [ true ↦ refl | false ↦ refl ]

-- a path without a slash
pub parts_none : (path : List ℕ) → ((i : ℕ) → i < length path → get_or path i 0 ≢ 47) → parts path ≡ part_or_none path ++ parts []
parts_none path h = ap (filter is_part) (slice_split_none is_slash path (no_slash path h)) ∙ one path ∙ sym (append-nil (part_or_none path))

-- a part, a slash and what stands behind it
pub parts_split : (part rest : List ℕ) → ((i : ℕ) → i < length part → get_or part i 0 ≢ 47) → parts (part ++ 47 ∷ rest) ≡ part_or_none part ++ parts rest
parts_split part rest h =
    ap (filter is_part) (slice_split_at is_slash part 47 rest (no_slash part h) refl)
    ∙ filter-append is_part (part ∷ []) (slice_split is_slash rest)
    ∙ ap (λ l. l ++ parts rest) (one part)

pub parts_some : (path part rest : List ℕ) → path ≡ part ++ 47 ∷ rest → ((i : ℕ) → i < length part → get_or part i 0 ≢ 47) → parts path ≡ part_or_none part ++ parts rest
parts_some path part rest e h = ap parts e ∙ parts_split part rest h

pub rooted_none : (path : List ℕ) → ((i : ℕ) → i < length path → get_or path i 0 ≢ 47) → is_rooted path ≡ ((length path == 0) && not (length path == 0))
rooted_none [] h = refl
rooted_none (b ∷ bs) h = rw (some_length (length bs)) (not_slash b (h 0 (omega arith)))

pub rooted_split : (part rest : List ℕ) → ((i : ℕ) → i < length part → get_or part i 0 ≢ 47) → is_rooted (part ++ 47 ∷ rest) ≡ ((length part == 0) && not (length (part ++ 47 ∷ rest) == 0))
rooted_split [] rest h = rw (some_length (length rest)) refl
rooted_split (b ∷ bs) rest h = rw (some_length (length bs)) (not_slash b (h 0 (omega arith)))

pub rooted_some : (path part rest : List ℕ) → path ≡ part ++ 47 ∷ rest → ((i : ℕ) → i < length part → get_or part i 0 ≢ 47) → is_rooted path ≡ ((length part == 0) && not (length path == 0))
rooted_some path part rest e h = rw e (rooted_split part rest h)

pub shorter_some : (path part rest : List ℕ) → path ≡ part ++ 47 ∷ rest → length rest < length path
shorter_some path part rest e = rw e (omega (arith, length-append part (47 ∷ rest)))
