-- What is written in base64 reads as the bytes.
use Rattle.std.proofs.Common.{◌≡◌, ℕ, zero, suc, ◌+◌, ◌*◌, ◌/◌, ◌%◌, ◌<◌, ◌≤◌, ◌==◌, List, [], ◌∷◌, ◌++◌, true, not, Option, Some, None, option_map, length, replicate, slice_index, refl, arith, inl, inr}
use Rattle.std.specs.Option.{option_and_then}
use Rattle.std.specs.List.{list_all}
use Rattle.std.proofs.lemmas.Bool.{cases_Bool, eqb-true, le-leb}
use Rattle.std.proofs.lemmas.List.{length-append, length-replicate}
use Rattle.base64.specs.GeneralPurpose.{IsBytes}
use Rattle.base64.specs.Rfc4648.{encode_symbols, unpadded_len, padding_len}
use Rattle.base64.proofs.RoundTrip.{length-encode_symbols}
use Rattle.pbx_text.specs.Base64.{base64_of, base64_text, bytes_in, bytes_of_values, canonical_padding, is_padded, standard_symbols, value_in, values_in, without_padding}
use Rattle.pbx_text.proofs.Groups.{bytes_in_more}
use Rattle.pbx_text.proofs.Symbols.{symbol_value}

abbrev symbol : ℕ → ℕ
symbol v = slice_index standard_symbols v

-- the symbols of the values a, b, c and d
three : (a b c d : ℕ) → a < 64 → b < 64 → c < 64 → d < 64
    → bytes_in standard_symbols (symbol a ∷ symbol b ∷ symbol c ∷ symbol d ∷ []) ≡ Some ((a * 4 + b / 16) ∷ (b % 16 * 16 + c / 4) ∷ (c % 4 * 64 + d) ∷ [])
three a b c d p q r s = rw (symbol_value a p, symbol_value b q, symbol_value c r, symbol_value d s) refl

two : (a b c : ℕ) → a < 64 → b < 64 → c < 64
    → bytes_in standard_symbols (symbol a ∷ symbol b ∷ symbol c ∷ []) ≡ Some ((a * 4 + b / 16) ∷ (b % 16 * 16 + c / 4) ∷ [])
two a b c p q r = rw (symbol_value a p, symbol_value b q, symbol_value c r) refl

one : (a b : ℕ) → a < 64 → b < 64 → bytes_in standard_symbols (symbol a ∷ symbol b ∷ []) ≡ Some ((a * 4 + b / 16) ∷ [])
one a b p q = rw (symbol_value a p, symbol_value b q) refl

-- the symbols of bytes are read as the bytes
symbols_read : (bytes : List ℕ) → IsBytes bytes → bytes_in standard_symbols (encode_symbols standard_symbols bytes) ≡ Some bytes
unfolding encode_symbols
symbols_read [] h = refl
symbols_read (a ∷ []) h =
    let small : a < 256 = h 0 in
    let first : a / 4 * 4 + a % 4 * 16 / 16 ≡ a = omega arith in
    rw (one (a / 4) (a % 4 * 16) (omega arith) (omega arith), first) refl
symbols_read (a ∷ b ∷ []) h =
    let small : a < 256 = h 0 in
    let small_b : b < 256 = h 1 in
    let first : a / 4 * 4 + (a % 4 * 16 + b / 16) / 16 ≡ a = omega arith in
    let second : (a % 4 * 16 + b / 16) % 16 * 16 + b % 16 * 4 / 4 ≡ b = omega arith in
    rw (two (a / 4) (a % 4 * 16 + b / 16) (b % 16 * 4) (omega arith) (omega arith) (omega arith), first, second) refl
symbols_read (a ∷ b ∷ c ∷ rest) h =
    let small : a < 256 = h 0 in
    let small_b : b < 256 = h 1 in
    let small_c : c < 256 = h 2 in
    let behind = symbols_read rest (λ i. h (suc (suc (suc i)))) in
    let first : a / 4 * 4 + (a % 4 * 16 + b / 16) / 16 ≡ a = omega arith in
    let second : (a % 4 * 16 + b / 16) % 16 * 16 + (b % 16 * 4 + c / 64) / 4 ≡ b = omega arith in
    let third : (b % 16 * 4 + c / 64) % 4 * 64 + c % 64 ≡ c = omega arith in
    rw (
      bytes_in_more standard_symbols (slice_index standard_symbols (a / 4)) (slice_index standard_symbols (a % 4 * 16 + b / 16))
          (slice_index standard_symbols (b % 16 * 4 + c / 64)) (slice_index standard_symbols (c % 64)) (encode_symbols standard_symbols rest),
      behind,
      three (a / 4) (a % 4 * 16 + b / 16) (b % 16 * 4 + c / 64) (c % 64) (omega arith) (omega arith) (omega arith) (omega arith),
      first,
      second,
      third,
    ) refl

-- no symbol is `=`
tail_values : (v : Option ℕ) (o : Option (List ℕ)) (vs : List ℕ) → option_and_then (λ v. option_map (λ vs. v ∷ vs) o) v ≡ Some vs
    → (ws : List ℕ) × (o ≡ Some ws)
tail_values None o vs h = cc h
tail_values (Some v) None vs h = cc h
tail_values (Some v) (Some ws) vs h = (ws, refl)

no_padding : (xs vs : List ℕ) → values_in standard_symbols xs ≡ Some vs → list_all (λ d. not (d == 61)) xs ≡ true
no_padding [] vs h = refl
no_padding (x ∷ xs) vs h = elim (cases_Bool (x == 61)) [
  | inl p ↦ cc (rw (eqb-true x 61 p) at h)
  | inr p ↦
      let behind = tail_values (value_in standard_symbols x) (values_in standard_symbols xs) vs h in
      rw p (no_padding xs behind.0 behind.1)
]

found : (o : Option (List ℕ)) (bytes : List ℕ) → option_and_then bytes_of_values o ≡ Some bytes → (vs : List ℕ) × (o ≡ Some vs)
found None bytes h = cc h
found (Some vs) bytes h = (vs, refl)

only : (n : ℕ) → list_all (λ d. d == 61) (replicate n 61) ≡ true
only zero = refl
only (suc n) = only n

-- `=` alone is taken off
all_equal : (n : ℕ) → without_padding (replicate n 61) ≡ []
all_equal zero = refl
all_equal (suc n) = rw (only n) refl

-- and behind symbols
trimmed : (xs : List ℕ) (n : ℕ) → list_all (λ d. not (d == 61)) xs ≡ true → without_padding (xs ++ replicate n 61) ≡ xs
trimmed [] n h = all_equal n
trimmed (x ∷ xs) n h = elim (cases_Bool (x == 61)) [
  | inl p ↦ cc (rw p at h)
  | inr p ↦ rw (p, trimmed xs n (rw p at h)) refl
]

-- the padding that is written is the canonical one
lengths : (n : ℕ) → unpadded_len n + padding_len n ≤ unpadded_len n + canonical_padding (unpadded_len n)
lengths n = omega arith

pub bytes_read : (bytes : List ℕ) → IsBytes bytes → base64_of (base64_text bytes) ≡ Some bytes
unfolding base64_of base64_text
bytes_read bytes h =
    let symbols : List ℕ = encode_symbols standard_symbols bytes in
    let padding : List ℕ = replicate (padding_len (length bytes)) 61 in
    let read : bytes_in standard_symbols symbols ≡ Some bytes = symbols_read bytes h in
    let values = found (values_in standard_symbols symbols) bytes read in
    let front : without_padding (symbols ++ padding) ≡ symbols = trimmed symbols (padding_len (length bytes)) (no_padding symbols values.0 values.1) in
    let whole : length (symbols ++ padding) ≡ unpadded_len (length bytes) + padding_len (length bytes) =
    rw (length-append symbols padding, length-encode_symbols standard_symbols bytes, length-replicate {A = ℕ} (padding_len (length bytes)) 61) refl in
    let padded : is_padded (symbols ++ padding) ≡ true =
    rw (front, whole, length-encode_symbols standard_symbols bytes) (le-leb _ _ (lengths (length bytes))) in
    rw (padded, front, read) refl
