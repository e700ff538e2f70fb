-- Parts of mask texts, character by character.
use Rattle.std.proofs.Common.{◌≡◌, ◌≢◌, ◌∙◌, ℕ, ◌<◌, ◌≤◌, ◌+◌, ◌/◌, ◌%◌, cond, ◌==◌, nat_lt, nat_le, List, [], ◌∷◌, ◌++◌, Bool, true, false, Option, Some, None, option_map, length, refl, ap, sym, arith, append_assoc, append-nil, inl, inr}
use Rattle.std.specs.Char.{to_ascii_lowercase, encode_utf8}
use Rattle.std.specs.Int.{is_in_range}
use Rattle.std.specs.List.{flat_map, list_all, list_any}
use Rattle.std.proofs.Math.Utf8.{encode}
use Rattle.std.proofs.lemmas.Bool.{cases_Bool, le-leb}
use Rattle.std.proofs.lemmas.Bool.Decides.{nat_tests}
use Rattle.std.proofs.lemmas.Grind.{flat_map-append}
use Rattle.std.proofs.lemmas.List.Folds.{list_any-append}
use Rattle.std.proofs.lemmas.Str.{encode_ascii}
use Rattle.pbx_text.specs.Mask.{snake_char, snake_of}

abbrev pub is_high : ℕ → Bool
is_high b = nat_le 128 b

abbrev pub of_two : ℕ → List ℕ
of_two c = (192 + c / 64) ∷ (128 + c % 64) ∷ []

abbrev pub of_three : ℕ → List ℕ
of_three c = (224 + c / 4096) ∷ (128 + (c / 64) % 64) ∷ (128 + c % 64) ∷ []

abbrev pub of_four : ℕ → List ℕ
of_four c = (240 + c / 262144) ∷ (128 + (c / 4096) % 64) ∷ (128 + (c / 64) % 64) ∷ (128 + c % 64) ∷ []

pub high : (n m : ℕ) → 128 ≤ n → is_high (n + m) ≡ true
high n m h = le-leb 128 (n + m) (omega arith)

-- a character that is no ASCII has no byte that is
pub all_high : (c : ℕ) → 128 ≤ c → list_all is_high (encode_utf8 c) ≡ true
unfolding encode
all_high c h =
    let no : nat_lt c 128 ≡ false = grind (arith, nat_tests, h) in
    rw no (at (nat_lt c 2048) (nat_lt c 65536))
  where
    at : (s t : Bool) → list_all is_high (cond s (of_two c) (cond t (of_three c) (of_four c))) ≡ true
    at true t = rw (high 192 (c / 64) (omega arith), high 128 (c % 64) (omega arith)) refl
    at false true = rw (high 224 (c / 4096) (omega arith), high 128 ((c / 64) % 64) (omega arith), high 128 (c % 64) (omega arith)) refl
    at false false =
        rw (
          high 240 (c / 262144) (omega arith),
          high 128 ((c / 4096) % 64) (omega arith),
          high 128 ((c / 64) % 64) (omega arith),
          high 128 (c % 64) (omega arith),
        ) refl

pub high_snake : (b : ℕ) → is_high b ≡ true → snake_char b ≡ b ∷ []
high_snake b h =
    let low : nat_le 65 b ≡ true = grind (arith, nat_tests, h) in
    let past : nat_le b 90 ≡ false = grind (arith, nat_tests, h) in
    rw (low, past) refl

pub high_line : (b : ℕ) → is_high b ≡ true → (b == 95) ≡ false
high_line b h = grind (arith, nat_tests, h)

snakes : (ds : List ℕ) → list_all is_high ds ≡ true → flat_map snake_char ds ≡ ds
snakes [] h = refl
snakes (d ∷ ds) h = elim (cases_Bool (is_high d)) [
  | inl p ↦ rw (high_snake d p, snakes ds (rw p at h)) refl
  | inr p ↦ cc (rw p at h)
]

no_line : (ds : List ℕ) → list_all is_high ds ≡ true → list_any (λ c. c == 95) ds ≡ false
no_line [] h = refl
no_line (d ∷ ds) h = elim (cases_Bool (is_high d)) [
  | inl p ↦ rw (high_line d p, no_line ds (rw p at h)) refl
  | inr p ↦ cc (rw p at h)
]

-- what is added for a character
pub snake_upper : (old : List ℕ) (c : ℕ) → is_in_range 65 90 c ≡ true
    → (old ++ 95 ∷ []) ++ encode_utf8 (to_ascii_lowercase c) ≡ old ++ flat_map snake_char (encode_utf8 c)
snake_upper old c h =
    let from : nat_lt c 65 ≡ false = grind (arith, nat_tests, h) in
    let to : nat_lt c 91 ≡ true = grind (arith, nat_tests, h) in
    let low : c < 128 = grind (arith, nat_tests, h) in
    let below : c + 32 < 128 = grind (arith, nat_tests, h) in
    rw (from, to, encode_ascii (c + 32) below, encode_ascii c low, h) (append_assoc old (95 ∷ []) ((c + 32) ∷ []))

same_lower : (c : ℕ) → is_in_range 65 90 c ≡ false → to_ascii_lowercase c ≡ c
same_lower c h = elim (cases_Bool (nat_lt c 65)) [
  | inl p ↦ rw p refl
  | inr p ↦
      let past : nat_lt c 91 ≡ false = grind (arith, nat_tests, h, p) in
      rw (p, past) refl
]

pub snake_other : (old : List ℕ) (c : ℕ) → is_in_range 65 90 c ≡ false
    → old ++ encode_utf8 (to_ascii_lowercase c) ≡ old ++ flat_map snake_char (encode_utf8 c)
snake_other old c h = rw (same_lower c h) (ap (λ xs. old ++ xs) (elim (cases_Bool (nat_lt c 128)) [
  | inl p ↦
      let low : c < 128 = grind (arith, nat_tests, p) in
      rw (encode_ascii c low, h) refl
  | inr p ↦
      let past : 128 ≤ c = grind (arith, nat_tests, p) in
      sym (snakes (encode_utf8 c) (all_high c past))
]))

no_line_in : (c : ℕ) → c ≢ 95 → list_any (λ b. b == 95) (encode_utf8 c) ≡ false
no_line_in c h = elim (cases_Bool (nat_lt c 128)) [
  | inl p ↦
      let low : c < 128 = grind (arith, nat_tests, p) in
      let other : (c == 95) ≡ false = grind (arith, nat_tests, h) in
      rw (encode_ascii c low, other) refl
  | inr p ↦
      let past : 128 ≤ c = grind (arith, nat_tests, p) in
      no_line (encode_utf8 c) (all_high c past)
]

-- a part is its front in snake_case, and what is left
abbrev pub Left : List ℕ → List ℕ → List ℕ → Type 0
Left part snake rest = snake_of part ≡ option_map (λ more. snake ++ more) (snake_of rest)

front : (xs rest : List ℕ) → list_any (λ b. b == 95) xs ≡ false → snake_of (xs ++ rest) ≡ option_map (λ more. flat_map snake_char xs ++ more) (snake_of rest)
front xs rest h = elim (cases_Bool (list_any (λ b. b == 95) rest)) [
  | inl p ↦ rw (list_any-append (λ b. b == 95) xs rest, h, p) refl
  | inr p ↦ rw (list_any-append (λ b. b == 95) xs rest, h, p, flat_map-append snake_char xs rest) refl
]

more_behind : (a b : List ℕ) (o : Option (List ℕ)) → option_map (λ more. a ++ more) (option_map (λ more. b ++ more) o) ≡ option_map (λ more. (a ++ b) ++ more) o
more_behind a b None = refl
more_behind a b (Some x) = ap Some (sym (append_assoc a b x))

pub snake_goes : (part snake rest next : List ℕ) (c : ℕ) → c ≢ 95 → Left part snake rest → rest ≡ encode_utf8 c ++ next
    → Left part (snake ++ flat_map snake_char (encode_utf8 c)) next
snake_goes part snake rest next c other left is =
    left
    ∙ ap (λ xs. option_map (λ more. snake ++ more) (snake_of xs)) is
    ∙ ap (λ o. option_map (λ more. snake ++ more) o) (front (encode_utf8 c) next (no_line_in c other))
    ∙ more_behind snake (flat_map snake_char (encode_utf8 c)) (snake_of next)

pub snake_fails : (part snake rest next : List ℕ) (c : ℕ) → c ≡ 95 → Left part snake rest → rest ≡ encode_utf8 c ++ next → snake_of part ≡ None
snake_fails part snake rest next c line left is =
    let whole : rest ≡ 95 ∷ next = rw (line, encode_ascii 95 (omega arith)) at is in
    left ∙ ap (λ xs. option_map (λ more. snake ++ more) (snake_of xs)) whole

pub snake_ends : (part snake rest : List ℕ) → Left part snake rest → length rest ≡ 0 → snake_of part ≡ Some snake
snake_ends part snake [] left none = left ∙ ap Some (append-nil snake)
snake_ends part snake (x ∷ xs) left none = absurd (omega arith)
