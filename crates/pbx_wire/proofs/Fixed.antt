-- Numbers of a fixed width: what is written reads back, and each is of its width.
use Rattle.std.proofs.Common.{◌≡◌, ℕ, ◌%◌, ◌^◌, ◌<◌, List, ap, sym, ◌∙◌, arith}
use Rattle.std.proofs.lemmas.Nat.{from_le_bytes-to_le_bytes_4, from_le_bytes-to_le_bytes_8}
use Rattle.std.specs.Int.{w32, w64, from_le_bytes, to_le_bytes}
use Rattle.pbx_wire.specs.Fixed.{fixed}

same_32 : (n : ℕ) → n < 2 ^ 32 → n % 2 ^ 32 ≡ n
same_32 n h = omega arith

same_64 : (n : ℕ) → n < 2 ^ 64 → n % 2 ^ 64 ≡ n
same_64 n h = omega arith

pub fixed_back_4 : (n : ℕ) → n < 2 ^ 32 → fixed w32 (to_le_bytes w32 n) ≡ n
fixed_back_4 n h = ap (λ (m : ℕ). m % 2 ^ 32) (from_le_bytes-to_le_bytes_4 n h) ∙ same_32 n h

pub fixed_back_8 : (n : ℕ) → n < 2 ^ 64 → fixed w64 (to_le_bytes w64 n) ≡ n
fixed_back_8 n h = ap (λ (m : ℕ). m % 2 ^ 64) (from_le_bytes-to_le_bytes_8 n h) ∙ same_64 n h

rest_32 : (n : ℕ) → n % 2 ^ 32 < 2 ^ 32
rest_32 n = omega arith

rest_64 : (n : ℕ) → n % 2 ^ 64 < 2 ^ 64
rest_64 n = omega arith

pub fits_4 : (bytes : List ℕ) → fixed w32 bytes < 2 ^ 32
fits_4 bytes = rest_32 (from_le_bytes w32 bytes)

pub fits_8 : (bytes : List ℕ) → fixed w64 bytes < 2 ^ 64
fits_8 bytes = rest_64 (from_le_bytes w64 bytes)

-- a number in memory, read from bytes, is the number that they spell
pub fixed_is_4 : (bytes : List ℕ) (n : ℕ) → n < 2 ^ 32 → n ≡ from_le_bytes w32 bytes → n ≡ fixed w32 bytes
fixed_is_4 bytes n h e = sym (ap (λ (m : ℕ). m % 2 ^ 32) (sym e) ∙ same_32 n h)

pub fixed_is_8 : (bytes : List ℕ) (n : ℕ) → n < 2 ^ 64 → n ≡ from_le_bytes w64 bytes → n ≡ fixed w64 bytes
fixed_is_8 bytes n h e = sym (ap (λ (m : ℕ). m % 2 ^ 64) (sym e) ∙ same_64 n h)
