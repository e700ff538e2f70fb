-- Paths in lowerCamelCase, character by character.
use Rattle.std.proofs.Common.{◌≡◌, ◌≢◌, ◌⊎◌, ◌∙◌, ℕ, ◌<◌, ◌≤◌, ◌+◌, ◌-◌, ◌/◌, ◌%◌, cond, ◌==◌, nat_lt, nat_le, List, [], ◌∷◌, ◌++◌, Bool, true, false, Option, Some, None, option_map, length, refl, ap, sym, arith, append_assoc, append-nil, inl, inr}
use Rattle.std.specs.Char.{to_ascii_uppercase, encode_utf8}
use Rattle.std.specs.Int.{is_in_range}
use Rattle.std.specs.List.{list_all}
use Rattle.std.proofs.Math.Utf8.{encode}
use Rattle.std.proofs.lemmas.Bool.{cases_Bool}
use Rattle.std.proofs.lemmas.Bool.Decides.{nat_tests}
use Rattle.std.proofs.lemmas.Str.{encode_ascii}
use Rattle.pbx_text.specs.Mask.{camel_after}
use Rattle.pbx_text.proofs.Masks.{all_high, high, high_line, is_high, of_four, of_three, of_two}

-- a path is its front in lowerCamelCase, and what is left, behind a `_` or not
abbrev pub Left : List ℕ → List ℕ → Bool → List ℕ → Type 0
Left part camel raised rest = camel_after false part ≡ option_map (λ more. camel ++ more) (camel_after raised rest)

first_high : (b : ℕ) (bs : List ℕ) → is_high b ≡ true → camel_after true (b ∷ bs) ≡ None
first_high b bs h =
    let low : nat_le 97 b ≡ true = grind (arith, nat_tests, h) in
    let past : nat_le b 122 ≡ false = grind (arith, nat_tests, h) in
    rw (low, past) refl

raised_high : (c : ℕ) (next : List ℕ) → 128 ≤ c → camel_after true (encode_utf8 c ++ next) ≡ None
unfolding encode
raised_high c next h =
    let no : nat_lt c 128 ≡ false = grind (arith, nat_tests, h) in
    rw no (at (nat_lt c 2048) (nat_lt c 65536))
  where
    at : (s t : Bool) → camel_after true (cond s (of_two c) (cond t (of_three c) (of_four c)) ++ next) ≡ None
    at true t = first_high (192 + c / 64) ((128 + c % 64) ∷ next) (high 192 (c / 64) (omega arith))
    at false true = first_high (224 + c / 4096) ((128 + (c / 64) % 64) ∷ (128 + c % 64) ∷ next) (high 224 (c / 4096) (omega arith))
    at false false = first_high (240 + c / 262144) ((128 + (c / 4096) % 64) ∷ (128 + (c / 64) % 64) ∷ (128 + c % 64) ∷ next) (high 240 (c / 262144) (omega arith))

high_stays : (ds next : List ℕ) → list_all is_high ds ≡ true → camel_after false (ds ++ next) ≡ option_map (λ more. ds ++ more) (camel_after false next)
high_stays [] next h = none_before (camel_after false next)
  where
    none_before : (o : Option (List ℕ)) → o ≡ option_map (λ more. [] ++ more) o
    none_before None = refl
    none_before (Some x) = refl
high_stays (d ∷ ds) next h = elim (cases_Bool (is_high d)) [
  | inl p ↦
      let low : nat_le 65 d ≡ true = grind (arith, nat_tests, p) in
      let past : nat_le d 90 ≡ false = grind (arith, nat_tests, p) in
      let comma : (d == 44) ≡ false = grind (arith, nat_tests, p) in
      rw (high_line d p, low, past, comma, high_stays ds next (rw p at h)) (put d ds (camel_after false next))
  | inr p ↦ cc (rw p at h)
]
  where
    put : (d : ℕ) (ds : List ℕ) (o : Option (List ℕ)) → option_map (λ more. d ∷ more) (option_map (λ more. ds ++ more) o) ≡ option_map (λ more. (d ∷ ds) ++ more) o
    put d ds None = refl
    put d ds (Some x) = refl

more_behind : (a b : List ℕ) (o : Option (List ℕ)) → option_map (λ more. a ++ more) (option_map (λ more. b ++ more) o) ≡ option_map (λ more. (a ++ b) ++ more) o
more_behind a b None = refl
more_behind a b (Some x) = ap Some (sym (append_assoc a b x))

-- behind a `_`
pub raised_goes : (part camel rest next : List ℕ) (c : ℕ) → is_in_range 97 122 c ≡ true → Left part camel true rest → rest ≡ encode_utf8 c ++ next
    → Left part (camel ++ encode_utf8 (to_ascii_uppercase c)) false next
raised_goes part camel rest next c h left is =
    let low : c < 128 = grind (arith, nat_tests, h) in
    let above : c - 32 < 128 = grind (arith, nat_tests, h) in
    let from : nat_lt c 97 ≡ false = grind (arith, nat_tests, h) in
    let to : nat_lt c 123 ≡ true = grind (arith, nat_tests, h) in
    let whole : rest ≡ c ∷ next = is ∙ ap (λ xs. xs ++ next) (encode_ascii c low) in
    let step : camel_after true rest ≡ option_map (λ ds. (c - 32) ∷ ds) (camel_after false next) = rw (whole, h) refl in
    left
    ∙ ap (λ o. option_map (λ more. camel ++ more) o) step
    ∙ rw (from, to, encode_ascii (c - 32) above) (more_behind camel ((c - 32) ∷ []) (camel_after false next))

pub raised_fails : (part camel rest next : List ℕ) (c : ℕ) → is_in_range 97 122 c ≡ false → Left part camel true rest → rest ≡ encode_utf8 c ++ next
    → camel_after false part ≡ None
raised_fails part camel rest next c h left is =
    let step : camel_after true (encode_utf8 c ++ next) ≡ None = elim (cases_Bool (nat_lt c 128)) [
      | inl p ↦
          let low : c < 128 = grind (arith, nat_tests, p) in
          rw (encode_ascii c low, h) refl
      | inr p ↦
          let past : 128 ≤ c = grind (arith, nat_tests, p) in
          raised_high c next past
    ] in
    left ∙ ap (λ xs. option_map (λ more. camel ++ more) (camel_after true xs)) is ∙ ap (λ o. option_map (λ more. camel ++ more) o) step

-- and elsewhere
pub plain_raises : (part camel rest next : List ℕ) (c : ℕ) → c ≡ 95 → Left part camel false rest → rest ≡ encode_utf8 c ++ next → Left part camel true next
plain_raises part camel rest next c line left is =
    let whole : rest ≡ 95 ∷ next = rw (line, encode_ascii 95 (omega arith)) at is in
    left ∙ ap (λ xs. option_map (λ more. camel ++ more) (camel_after false xs)) whole

pub plain_goes : (part camel rest next : List ℕ) (c : ℕ) → c ≢ 95 → c ≢ 44 → is_in_range 65 90 c ≡ false → Left part camel false rest
    → rest ≡ encode_utf8 c ++ next → Left part (camel ++ encode_utf8 c) false next
plain_goes part camel rest next c line comma upper left is =
    let step : camel_after false (encode_utf8 c ++ next) ≡ option_map (λ more. encode_utf8 c ++ more) (camel_after false next) =
    elim (cases_Bool (nat_lt c 128)) [
      | inl p ↦
          let low : c < 128 = grind (arith, nat_tests, p) in
          let no_line : (c == 95) ≡ false = grind (arith, nat_tests, line) in
          let no_comma : (c == 44) ≡ false = grind (arith, nat_tests, comma) in
          rw (encode_ascii c low, no_line, upper, no_comma) refl
      | inr p ↦
          let past : 128 ≤ c = grind (arith, nat_tests, p) in
          high_stays (encode_utf8 c) next (all_high c past)
    ] in
    left
    ∙ ap (λ xs. option_map (λ more. camel ++ more) (camel_after false xs)) is
    ∙ ap (λ o. option_map (λ more. camel ++ more) o) step
    ∙ more_behind camel (encode_utf8 c) (camel_after false next)

pub plain_fails : (part camel rest next : List ℕ) (c : ℕ) → c ≢ 95 → (c ≡ 44) ⊎ (is_in_range 65 90 c ≡ true) → Left part camel false rest
    → rest ≡ encode_utf8 c ++ next → camel_after false part ≡ None
plain_fails part camel rest next c line (inl comma) left is =
    let whole : rest ≡ 44 ∷ next = rw (comma, encode_ascii 44 (omega arith)) at is in
    left ∙ ap (λ xs. option_map (λ more. camel ++ more) (camel_after false xs)) whole
plain_fails part camel rest next c line (inr upper) left is =
    let low : c < 128 = grind (arith, nat_tests, upper) in
    let no_line : (c == 95) ≡ false = grind (arith, nat_tests, line) in
    let whole : rest ≡ c ∷ next = is ∙ ap (λ xs. xs ++ next) (encode_ascii c low) in
    let step : camel_after false (c ∷ next) ≡ None = rw (no_line, upper) refl in
    left ∙ ap (λ xs. option_map (λ more. camel ++ more) (camel_after false xs)) whole ∙ ap (λ o. option_map (λ more. camel ++ more) o) step

pub ends_raised : (part camel rest : List ℕ) → Left part camel true rest → length rest ≡ 0 → camel_after false part ≡ None
ends_raised part camel [] left none = left
ends_raised part camel (x ∷ xs) left none = absurd (omega arith)

pub ends : (part camel rest : List ℕ) → Left part camel false rest → length rest ≡ 0 → camel_after false part ≡ Some camel
ends part camel [] left none = left ∙ ap Some (append-nil camel)
ends part camel (x ∷ xs) left none = absurd (omega arith)
