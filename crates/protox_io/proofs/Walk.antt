-- The components of a path, taken from its end.
use Rattle.std.proofs.Common.{◌≡◌, ◌⊎◌, ⊎_elim, inl, inr, ℕ, zero, suc, ◌+◌, ◌-◌, ◌<◌, ◌≤◌, List, [], ◌∷◌, ◌++◌, Bool, true, false, not, ◌==◌, cond, length, map, take, drop, get_or, refl, sym, ap, ◌∙◌, arith, append_assoc, append-nil, add-one, codes}
use Rattle.std.specs.Str.{bytes_eq}
use Rattle.std.specs.List.{slice_split, onto_first, filter, All}
use Rattle.std.proofs.lemmas.List.{take_more, take_all, take-append-drop, get_or-drop, get_or_default, length-drop, map-append}
use Rattle.std.proofs.lemmas.List.Elements.{filter-append}
use Rattle.std.proofs.lemmas.List.Splits.{slice_split_none, length-slice_split}
use Rattle.std.proofs.lemmas.Bool.Decides.{nat_tests}
use Rattle.protox_io.specs.Paths.{Component, Root, Current, Parent, Named, parts, is_rooted, is_dot, is_first_dot, start, component, is_current, bare}
use Rattle.protox_io.specs.Backwards.{IsPartStart}

abbrev pub is_slash : ℕ → Bool
is_slash b = b == 47

abbrev pub is_part : List ℕ → Bool
is_part part = not (length part == 0)

abbrev pub is_ordinary : List ℕ → Bool
is_ordinary part = not (is_dot part)

abbrev pub keep : Component → Bool
keep c = not (is_current c)

-- the root, if there is one
abbrev pub root : List ℕ → List Component
root path = cond (is_rooted path) (Root ∷ []) []

-- the components behind the root
abbrev pub body : List ℕ → List Component
body path = map component (filter is_ordinary (parts path))

-- the component that a part is, if it is one
abbrev pub single : List ℕ → List Component
single part = cond (is_dot part) [] (component part ∷ [])

onto_first-append : (b : ℕ) (xs ys : List (List ℕ)) → 0 < length xs → onto_first b (xs ++ ys) ≡ onto_first b xs ++ ys
onto_first-append b [] ys h = absurd (let no : ⊥ = omega arith in no)
onto_first-append b (x ∷ xs) ys h = refl

slice_split-append : (s t : List ℕ) → slice_split is_slash (s ++ 47 ∷ t) ≡ slice_split is_slash s ++ slice_split is_slash t
slice_split-append [] t = refl
slice_split-append (b ∷ s) t =
    let some : 0 < length (slice_split is_slash s) = omega (arith, length-slice_split is_slash s) in
    let rest = slice_split-append s t in
    elim (is_slash b) as (λ v. cond v ([] ∷ slice_split is_slash (s ++ 47 ∷ t)) (onto_first b (slice_split is_slash (s ++ 47 ∷ t))) ≡ cond v ([] ∷ slice_split is_slash s) (onto_first b (slice_split is_slash s)) ++ slice_split is_slash t) [
      | true ↦ ap (λ l. [] ∷ l) rest
      | false ↦ ap (onto_first b) rest ∙ onto_first-append b (slice_split is_slash s) (slice_split is_slash t) some
    ]

body-append : (s t : List ℕ) → body (s ++ 47 ∷ t) ≡ body s ++ body t
body-append s t =
    ap (λ l. map component (filter is_ordinary (filter is_part l))) (slice_split-append s t)
    ∙ ap (λ l. map component (filter is_ordinary l)) (filter-append is_part (slice_split is_slash s) (slice_split is_slash t))
    ∙ ap (map component) (filter-append is_ordinary (parts s) (parts t))
    ∙ map-append component (filter is_ordinary (parts s)) (filter is_ordinary (parts t))

abbrev pub is_parent : List ℕ → Bool
is_parent part = bytes_eq part (codes "..")

-- no component of a part is the leading dot
keeps : (ps : List (List ℕ)) → filter keep (map component ps) ≡ map component ps
keeps [] = refl
keeps (p ∷ ps) =
    elim (is_parent p) as (λ b. cond (keep (cond b Parent (Named p))) (cond b Parent (Named p) ∷ filter keep (map component ps)) (filter keep (map component ps)) ≡ cond b Parent (Named p) ∷ map component ps) [
      | true ↦ ap (λ l. Parent ∷ l) (keeps ps)
      | false ↦ ap (λ l. Named p ∷ l) (keeps ps)
    ]

keeps_start : (path : List ℕ) → filter keep (start path) ≡ root path
keeps_start path =
    elim (is_rooted path) as (λ r. filter keep (cond r (Root ∷ []) (cond (is_first_dot (parts path)) (Current ∷ []) [])) ≡ cond r (Root ∷ []) []) [
      | true ↦ refl
      | false ↦ elim (is_first_dot (parts path)) as (λ d. filter keep (cond d (Current ∷ []) []) ≡ []) [ true ↦ refl | false ↦ refl ]
    ]

bare-is : (path : List ℕ) → bare path ≡ root path ++ body path
bare-is path =
    filter-append keep (start path) (body path)
    ∙ ap (λ l. l ++ filter keep (body path)) (keeps_start path)
    ∙ ap (λ l. root path ++ l) (keeps (filter is_ordinary (parts path)))

-- a slash at the end
pub bare_slash : (path front : List ℕ) → path ≡ front ++ 47 ∷ [] → 0 < length front → bare path ≡ bare front ++ []
bare_slash path [] e h = absurd (let no : ⊥ = omega arith in no)
bare_slash path (b ∷ s) e h =
    ap bare e ∙ bare-is ((b ∷ s) ++ 47 ∷ [])
    ∙ ap (λ l. root (b ∷ s) ++ l) (body-append (b ∷ s) [] ∙ append-nil (body (b ∷ s)))
    ∙ sym (bare-is (b ∷ s)) ∙ sym (append-nil (bare (b ∷ s)))

-- a slash alone
pub bare_root : (path front : List ℕ) → path ≡ front ++ 47 ∷ [] → length front ≡ 0 → bare path ≡ bare front ++ Root ∷ []
bare_root path [] e h = ap bare e
bare_root path (b ∷ s) e h = absurd (let no : ⊥ = omega arith in no)

ordinary : (part : List ℕ) → map component (filter is_ordinary (part ∷ [])) ≡ single part
ordinary part =
    elim (is_dot part) as (λ d. map component (cond (not d) (part ∷ []) []) ≡ cond d [] (component part ∷ [])) [ true ↦ refl | false ↦ refl ]

some_part : (b : ℕ) (bs : List ℕ) → filter is_part ((b ∷ bs) ∷ []) ≡ (b ∷ bs) ∷ []
some_part b bs =
    let some : is_part (b ∷ bs) ≡ true = grind (arith, nat_tests) in
    ap (λ v. cond v ((b ∷ bs) ∷ []) []) some

body_single : (part : List ℕ) → 0 < length part → All (λ b. is_slash b ≡ false) part → body part ≡ single part
body_single [] h none = absurd (let no : ⊥ = omega arith in no)
body_single (b ∷ bs) h none =
    ap (λ l. map component (filter is_ordinary (filter is_part l))) (slice_split_none is_slash (b ∷ bs) none)
    ∙ ap (λ l. map component (filter is_ordinary l)) (some_part b bs)
    ∙ ordinary (b ∷ bs)

root_none : (part : List ℕ) → All (λ b. is_slash b ≡ false) part → root part ≡ []
root_none [] none = refl
root_none (b ∷ bs) none =
    let first : is_slash b ≡ false = none 0 0 (omega arith) in
    rw first refl

-- the front is empty, or ends with a slash
abbrev pub IsOpened : List ℕ → Type 0
IsOpened front = (front ≡ []) ⊎ ((s : List ℕ) × (front ≡ s ++ 47 ∷ []))

same_root : (s t u : List ℕ) → root (s ++ 47 ∷ t) ≡ root (s ++ 47 ∷ u)
same_root [] t u = refl
same_root (b ∷ s) t u = refl

-- a part without a slash
bare_part : (front part : List ℕ) → IsOpened front → 0 < length part → All (λ b. is_slash b ≡ false) part → bare (front ++ part) ≡ bare front ++ single part
bare_part front part (inl e) h none =
    ap (λ l. bare (l ++ part)) e ∙ bare-is part
    ∙ ap (λ l. l ++ body part) (root_none part none) ∙ body_single part h none
    ∙ ap (λ l. bare l ++ single part) (sym e)
bare_part front part (inr (s, e)) h none =
    ap (λ l. bare (l ++ part)) e ∙ ap bare (append_assoc s (47 ∷ []) part) ∙ bare-is (s ++ 47 ∷ part)
    ∙ ap (λ l. root (s ++ 47 ∷ part) ++ l) (body-append s part)
    ∙ ap (λ l. l ++ (body s ++ body part)) (same_root s part [])
    ∙ sym (append_assoc (root (s ++ 47 ∷ [])) (body s) (body part))
    ∙ ap (λ l. (root (s ++ 47 ∷ []) ++ l) ++ body part) (sym (body-append s [] ∙ append-nil (body s)))
    ∙ ap (λ l. l ++ body part) (sym (bare-is (s ++ 47 ∷ [])))
    ∙ ap (λ l. bare l ++ body part) (sym e)
    ∙ ap (λ l. bare front ++ l) (body_single part h none)

not_slash : (b : ℕ) → ¬ (b ≡ 47) → is_slash b ≡ false
not_slash b n = grind (arith, nat_tests)

unbroken : (path : List ℕ) (at : ℕ) → IsPartStart path at → All (λ b. is_slash b ≡ false) (drop at path)
unbroken path at h k d below =
    let within : at + k < length path = omega (arith, length-drop at path) in
    let read : get_or (drop at path) k d ≡ get_or path (at + k) 0 = get_or-drop at path k d ∙ get_or_default path (at + k) d 0 within in
    let other : ¬ (get_or path (at + k) 0 ≡ 47) = h.unbroken (at + k) (omega arith) within in
    not_slash (get_or (drop at path) k d) (λ e. other (sym read ∙ e))

ends_with_slash : (path : List ℕ) (at : ℕ) → 0 < at → IsPartStart path at → take at path ≡ take (at - 1) path ++ 47 ∷ []
ends_with_slash path zero h s = absurd (let no : ⊥ = omega arith in no)
ends_with_slash path (suc n) h s =
    let n_is : suc n - 1 ≡ n = omega arith in
    let read : get_or path n 0 ≡ 47 = ⊎_elim (λ e. absurd (let no : ⊥ = omega arith in no)) (λ e. ap (λ k. get_or path k 0) (sym n_is) ∙ e) s.opened in
    let within : n < length path = let w = s.within in omega arith in
    ap (λ k. take k path) (sym (add-one n)) ∙ take_more path n 0 within
    ∙ ap (λ b. take n path ++ b ∷ []) read ∙ ap (λ k. take k path ++ 47 ∷ []) (sym n_is)

opened : (path : List ℕ) (at : ℕ) → IsPartStart path at → IsOpened (take at path)
opened path zero s = inl refl
opened path (suc n) s = inr (take (suc n - 1) path, ends_with_slash path (suc n) (omega arith) s)

-- the last part of a path, and what stands before it
pub bare_last : (path : List ℕ) (at : ℕ) → IsPartStart path at → at < length path → bare path ≡ bare (take at path) ++ single (drop at path)
bare_last path at s h =
    let some : 0 < length (drop at path) = omega (arith, length-drop at path) in
    ap bare (sym (take-append-drop at path)) ∙ bare_part (take at path) (drop at path) (opened path at s) some (unbroken path at s)

-- where the last part is empty, the path ends with a slash
pub path_slash : (path : List ℕ) (at : ℕ) → IsPartStart path at → length path ≤ at → 0 < length path → path ≡ take (at - 1) path ++ 47 ∷ []
path_slash path at s h some =
    let whole : take at path ≡ path = take_all at path h in
    sym whole ∙ ends_with_slash path at (omega arith) s

pub no_bytes : (bytes : List ℕ) → length bytes ≡ 0 → bytes ≡ []
no_bytes [] h = refl
no_bytes (b ∷ bs) h = absurd (let no : ⊥ = omega arith in no)
