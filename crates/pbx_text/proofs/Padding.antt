-- The `=` at the end of a text, one by one from behind.
use Rattle.std.proofs.Common.{◌≡◌, ◌≢◌, ◌⊎◌, ℕ, zero, suc, ◌+◌, ◌-◌, ◌<◌, ◌≤◌, length, take, slice_index, arith, ◌==◌, List, [], ◌∷◌, ◌++◌, false, refl, inl, inr}
use Rattle.std.proofs.lemmas.Bool.{cases_Bool, ne_eqb}
use Rattle.std.proofs.lemmas.List.{take_more}
use Rattle.std.specs.List.{list_all}
use Rattle.pbx_text.specs.Base64.{without_padding}

all_padding : (xs : List ℕ) → list_all (λ d. d == 61) (xs ++ 61 ∷ []) ≡ list_all (λ d. d == 61) xs
all_padding [] = refl
all_padding (x ∷ xs) = rw (all_padding xs) refl

pub padding_ends : (xs : List ℕ) → without_padding (xs ++ 61 ∷ []) ≡ without_padding xs
padding_ends [] = refl
padding_ends (x ∷ xs) = rw (all_padding xs, padding_ends xs) refl

not_padding : (xs : List ℕ) (c : ℕ) → (c == 61) ≡ false → list_all (λ d. d == 61) (xs ++ c ∷ []) ≡ false
not_padding [] c h = rw h refl
not_padding (x ∷ xs) c h = elim (cases_Bool (x == 61)) [
  | inl p ↦ rw (p, not_padding xs c h) refl
  | inr p ↦ rw p refl
]

pub symbol_ends : (xs : List ℕ) (c : ℕ) → (c == 61) ≡ false → without_padding (xs ++ c ∷ []) ≡ xs ++ c ∷ []
symbol_ends [] c h = rw h refl
symbol_ends (x ∷ xs) c h = rw (not_padding (x ∷ xs) c h, symbol_ends xs c h) refl

pub padding_before : (text : List ℕ) (end : ℕ) → end < length text → slice_index text end ≡ 61
    → without_padding (take end text) ≡ without_padding (take (end + 1) text)
padding_before text end h is = rw (take_more text end 0 h, is, padding_ends (take end text)) refl

pub padding_done : (text : List ℕ) (end : ℕ) → end ≤ length text → (end ≡ 0) ⊎ (slice_index text (end - 1) ≢ 61)
    → without_padding (take end text) ≡ take end text
padding_done text zero h why = refl
padding_done text (suc end) h (inl none) = absurd (omega arith)
padding_done text (suc end) h (inr other) =
    let next : suc end ≡ end + 1 = omega arith in
    let at_end : suc end - 1 ≡ end = omega arith in
    let cut = take_more text end 0 (omega arith) in
    rw (next, cut, symbol_ends (take end text) (slice_index text end) (ne_eqb _ _ (rw at_end at other))) refl
