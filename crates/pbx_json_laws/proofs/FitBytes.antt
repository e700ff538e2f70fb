-- What a base64 text means is bytes.
use Rattle.std.proofs.Common.{◌≡◌, ℕ, zero, suc, ◌+◌, ◌*◌, ◌/◌, ◌%◌, ◌<◌, ◌==◌, List, [], ◌∷◌, length, Option, Some, None, option_map, refl, arith}
use Rattle.std.specs.Option.{option_or}
use Rattle.std.proofs.lemmas.List.Quantifiers.{position-Some}
use Rattle.base64.specs.GeneralPurpose.{IsBytes}
use Rattle.pbx_text.specs.Base64.{standard_symbols, url_symbols, value_in, values_in, bytes_of_values, bytes_in, bytes_of_symbols, without_padding, is_padded, base64_of}
use Rattle.pbx_json_laws.proofs.Parts.{from_then, from_map, if_some, of_some}

-- each number is below m
abbrev pub AreBelow : ℕ → List ℕ → Type 0
AreBelow m [] = Unit {0}
AreBelow m (x ∷ xs) = (x < m) × AreBelow m xs

pub bytes_below : (xs : List ℕ) → AreBelow 256 xs → IsBytes xs
bytes_below [] h i = omega arith
bytes_below (x ∷ xs) h zero = h.0
bytes_below (x ∷ xs) h (suc i) = bytes_below xs h.1 i

value_below : (symbols : List ℕ) → length symbols ≡ 64 → (c v : ℕ) → value_in symbols c ≡ Some v → v < 64
value_below symbols n c v h = let it = position-Some (λ s. s == c) symbols v 0 h in omega (arith, it.0, n)

values_below : (symbols : List ℕ) → length symbols ≡ 64 → (cs vs : List ℕ) → values_in symbols cs ≡ Some vs → AreBelow 64 vs
values_below symbols n [] vs h = let same : [] ≡ vs = of_some [] vs h in rw (← same) tt
values_below symbols n (c ∷ cs) vs h =
    let one = from_then (λ v. option_map (λ vs. v ∷ vs) (values_in symbols cs)) (value_in symbols c) vs h in
    let rest = from_map (λ vs. one.0 ∷ vs) (values_in symbols cs) vs one.2 in
    rw (← rest.2) (value_below symbols n c one.0 one.1, values_below symbols n cs rest.0 rest.1)

first_byte : (a b : ℕ) → a < 64 → b < 64 → a * 4 + b / 16 < 256
first_byte a b p q = omega arith

second_byte : (b c : ℕ) → c < 64 → b % 16 * 16 + c / 4 < 256
second_byte b c q = omega arith

third_byte : (c d : ℕ) → d < 64 → c % 4 * 64 + d < 256
third_byte c d q = omega arith

read_below : (vs bs : List ℕ) → AreBelow 64 vs → bytes_of_values vs ≡ Some bs → AreBelow 256 bs
read_below [] bs p h = let same : [] ≡ bs = of_some [] bs h in rw (← same) tt
read_below (a ∷ []) bs p h = absurd (cc)
read_below (a ∷ b ∷ []) bs p h =
    let same : (a * 4 + b / 16) ∷ [] ≡ bs = of_some _ bs h in
    rw (← same) (first_byte a b p.0 p.1.0, tt)
read_below (a ∷ b ∷ c ∷ []) bs p h =
    let same : (a * 4 + b / 16) ∷ (b % 16 * 16 + c / 4) ∷ [] ≡ bs = of_some _ bs h in
    rw (← same) (first_byte a b p.0 p.1.0, (second_byte b c p.1.1.0, tt))
read_below (a ∷ b ∷ c ∷ d ∷ rest) bs p h =
    let it = from_map (λ bytes. (a * 4 + b / 16) ∷ (b % 16 * 16 + c / 4) ∷ (c % 4 * 64 + d) ∷ bytes) (bytes_of_values rest) bs h in
    rw (← it.2) (first_byte a b p.0 p.1.0, (second_byte b c p.1.1.0, (third_byte c d p.1.1.1.0, read_below rest it.0 p.1.1.1.1 it.1)))

in_below : (symbols : List ℕ) → length symbols ≡ 64 → (cs bs : List ℕ) → bytes_in symbols cs ≡ Some bs → AreBelow 256 bs
in_below symbols n cs bs h =
    let it = from_then bytes_of_values (values_in symbols cs) bs h in
    read_below it.0 bs (values_below symbols n cs it.0 it.1) it.2

either_below : (cs bs : List ℕ) → bytes_of_symbols cs ≡ Some bs → AreBelow 256 bs
either_below cs bs h = at (bytes_in standard_symbols cs) refl h
  where
    at : (o : Option (List ℕ)) → bytes_in standard_symbols cs ≡ o → option_or o (bytes_in url_symbols cs) ≡ Some bs → AreBelow 256 bs
    at None e k = in_below url_symbols refl cs bs k
    at (Some x) e k = let same : x ≡ bs = of_some x bs k in rw (← same) (in_below standard_symbols refl cs x e)

pub base64_bytes : (text bs : List ℕ) → base64_of text ≡ Some bs → IsBytes bs
unfolding base64_of
base64_bytes text bs h =
    let it = if_some (is_padded text) (bytes_of_symbols (without_padding text)) bs h in
    bytes_below bs (either_below (without_padding text) bs it.1)
