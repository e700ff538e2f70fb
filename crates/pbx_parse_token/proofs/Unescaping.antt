-- Strings from one byte or escape on.
use Rattle.std.proofs.Common.{◌≡◌, ℕ, zero, suc, ◌-◌, ◌<◌, ◌≤◌, Bool, true, List, [], ◌∷◌, length, take, drop, get_or, length-drop, refl, sym, ap, ◌∙◌, ◌≢◌, arith, not}
use Rattle.std.specs.Prelude.{◌&&◌, ◌==◌, ◌↔◌, IsTrue}
use Rattle.std.proofs.lemmas.Bool.{eqb-true}
use Rattle.std.proofs.lemmas.List.{take_all}
use Rattle.pbx_parse_token.specs.declared.escape.Escape.{Escape}
use Rattle.pbx_parse_token.specs.Escapes.{first_at, unescaped_after, unescaped}
use Rattle.pbx_parse_token.specs.Scan.{is_bad, are_good_after, has_good_escapes}

good_past : (n : ℕ) (bs : List ℕ) → are_good_after n bs ≡ are_good_after 0 (drop n bs)
unfolding are_good_after
good_past zero bs = refl
good_past (suc n) [] = refl
good_past (suc n) (b ∷ bs) = good_past n bs

unescaped_past : (n : ℕ) (bs : List ℕ) → unescaped_after n bs ≡ unescaped_after 0 (drop n bs)
unfolding unescaped_after
unescaped_past zero bs = refl
unescaped_past (suc n) [] = refl
unescaped_past (suc n) (b ∷ bs) = unescaped_past n bs

-- the bytes after the first, and those after so many of these, as the code slices them
abbrev pub tail_of : List ℕ → List ℕ
tail_of bs = take (length bs - 1) (drop 1 bs)

abbrev pub slice_from : ℕ → List ℕ → List ℕ
slice_from n bs = take (length bs - n) (drop n bs)

pub slice_is : (n : ℕ) (bs : List ℕ) → slice_from n bs ≡ drop n bs
slice_is n bs = take_all (length bs - n) (drop n bs) (omega (arith, length-drop n bs))

-- what is left is no longer
pub slice_length : (n : ℕ) (bs : List ℕ) → length (slice_from n bs) ≡ length bs - n
slice_length n bs = ap length (slice_is n bs) ∙ length-drop n bs

pub next_length : (n : ℕ) (bs : List ℕ) → length (slice_from n (tail_of bs)) ≤ length bs
next_length n bs = omega (arith, slice_length n (tail_of bs), slice_length 1 bs)

pub good_none : (bs : List ℕ) → length bs < 1 → has_good_escapes bs ≡ true
unfolding are_good_after
good_none [] lt = refl
good_none (b ∷ bs) lt = absurd (omega arith)

pub good_first : (b : ℕ) (bs : List ℕ) → has_good_escapes (b ∷ bs) ≡ (not (is_bad b bs) && has_good_escapes (drop (first_at b bs).size bs))
unfolding are_good_after
good_first b bs = ap (λ (t : Bool). not (is_bad b bs) && t) (good_past (first_at b bs).size bs)

good_with : (b : ℕ) (bs tail : List ℕ) → tail ≡ bs → has_good_escapes (b ∷ bs) ≡ (not (is_bad b tail) && has_good_escapes (slice_from (first_at b tail).size tail))
good_with b bs tail e = rw e (rw (slice_is (first_at b bs).size bs) (good_first b bs))

pub good_more : (bs : List ℕ) → 1 ≤ length bs → (bad : Bool) (e : Escape) → bad ≡ is_bad (get_or bs 0 0) (tail_of bs) → e ≡ first_at (get_or bs 0 0) (tail_of bs) → has_good_escapes bs ≡ (not bad && has_good_escapes (slice_from e.size (tail_of bs)))
good_more [] le bad e is first = absurd (omega arith)
good_more (b ∷ bs) le bad e is first = rw (is, first) (good_with b bs (tail_of (b ∷ bs)) (slice_is 1 (b ∷ bs)))

pub unescaped_none : (bs : List ℕ) → length bs < 1 → unescaped bs ≡ []
unfolding unescaped_after
unescaped_none [] lt = refl
unescaped_none (b ∷ bs) lt = absurd (omega arith)

pub unescaped_first : (b : ℕ) (bs : List ℕ) → unescaped (b ∷ bs) ≡ (first_at b bs).value ∷ unescaped (drop (first_at b bs).size bs)
unfolding unescaped_after
unescaped_first b bs = ap (λ (t : List ℕ). (first_at b bs).value ∷ t) (unescaped_past (first_at b bs).size bs)

unescaped_with : (b : ℕ) (bs tail : List ℕ) → tail ≡ bs → unescaped (b ∷ bs) ≡ (first_at b tail).value ∷ unescaped (slice_from (first_at b tail).size tail)
unescaped_with b bs tail e = rw e (rw (slice_is (first_at b bs).size bs) (unescaped_first b bs))

pub unescaped_more : (bs : List ℕ) → 1 ≤ length bs → (e : Escape) → e ≡ first_at (get_or bs 0 0) (tail_of bs) → unescaped bs ≡ e.value ∷ unescaped (slice_from e.size (tail_of bs))
unescaped_more [] le e first = absurd (omega arith)
unescaped_more (b ∷ bs) le e first = rw first (unescaped_with b bs (tail_of (b ∷ bs)) (slice_is 1 (b ∷ bs)))

-- ---- whether a string stands for these bytes

pub same_none : (rest wanted : List ℕ) (t : Bool) → length rest < 1 → t ≡ (length wanted == 0) → IsTrue t ↔ (unescaped rest ≡ wanted)
same_none rest [] t lt e = (λ h. unescaped_none rest lt, λ h. e)
same_none rest (b ∷ bs) t lt e = (λ h. let zero_is = eqb-true (length (b ∷ bs)) 0 (sym e ∙ h) in absurd (omega arith), λ h. let none = unescaped_none rest lt in absurd cc)

pub not_shorter : (rest wanted : List ℕ) → 1 ≤ length rest → length wanted < 1 → unescaped rest ≢ wanted
not_shorter rest [] le lt h = let more = unescaped_more rest le (first_at (get_or rest 0 0) (tail_of rest)) refl in cc
not_shorter rest (b ∷ bs) le lt h = absurd (omega arith)

pub same_more : (rest wanted : List ℕ) → 1 ≤ length rest → 1 ≤ length wanted → (e : Escape) → e ≡ first_at (get_or rest 0 0) (tail_of rest) → e.value ≡ get_or wanted 0 0
    → (unescaped (slice_from e.size (tail_of rest)) ≡ tail_of wanted) ↔ (unescaped rest ≡ wanted)
same_more rest [] le lt e first same = absurd (omega arith)
same_more rest (b ∷ bs) le lt e first same =
    let more = unescaped_more rest le e first in
    let tail : tail_of (b ∷ bs) ≡ bs = slice_is 1 (b ∷ bs) in
    (λ h. cc, λ h. cc)

pub not_other : (rest wanted : List ℕ) → 1 ≤ length rest → 1 ≤ length wanted → (e : Escape) → e ≡ first_at (get_or rest 0 0) (tail_of rest) → e.value ≢ get_or wanted 0 0 → unescaped rest ≢ wanted
not_other rest [] le lt e first other h = absurd (omega arith)
not_other rest (b ∷ bs) le lt e first other h = let more = unescaped_more rest le e first in other cc
