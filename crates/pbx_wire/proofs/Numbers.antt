-- Reading a number byte by byte, as a loop does.
use Rattle.std.proofs.Common.{◌≡◌, ℕ, zero, suc, ◌+◌, ◌-◌, ◌*◌, ◌%◌, ◌^◌, ◌<◌, ◌≤◌, List, [], ◌∷◌, length, take, drop, get_or, Result, Ok, Err, refl, sym, ap}
use Rattle.std.proofs.Common.{◌∙◌, arith}
use Rattle.std.proofs.Math.Nat.{mul_assoc, mul_comm, add-mul, pow-suc, pow-le-pow_right, mul-le-mul_right}
use Rattle.std.proofs.lemmas.Bool.{lt-ltb, le-ltb}
use Rattle.std.proofs.lemmas.List.{take_all}
use Rattle.pbx_wire.specs.declared.error.DecodeError.{DecodeError}
use Rattle.pbx_wire.specs.declared.error.DecodeError.TheVariants as errors
use Rattle.pbx_wire.specs.Reading.{◌>>=◌, varint_at}

abbrev pub Number : Type 0
Number = Result (ℕ × List ℕ) DecodeError

-- the number whose lower bits were read before
abbrev pub with_low : ℕ → ℕ → Number → Number
with_low low weight r = r >>= λ x. Ok (low + x.0 * weight, x.1)

pub none_low : (r : Number) → with_low 0 1 r ≡ r
none_low (Ok x) = ap (λ (n : ℕ). Ok (n, x.1)) (omega arith)
none_low (Err e) = refl

-- the bytes after the first, as the code slices them
abbrev pub tail_of : List ℕ → List ℕ
tail_of bytes = take (length bytes - 1) (drop 1 bytes)

tail_is : (b : ℕ) (bs : List ℕ) → tail_of (b ∷ bs) ≡ bs
tail_is b bs = take_all (length (b ∷ bs) - 1) bs (omega arith)

pub low_ends : (low weight at more : ℕ) (bytes : List ℕ) (whole : Number) → length bytes < 1 → with_low low weight (varint_at at more bytes) ≡ whole
    → whole ≡ Err (errors.Underflow at)
unfolding varint_at
low_ends low weight at more [] whole none h = sym h
low_ends low weight at more (b ∷ bs) whole none h = absurd (omega arith)

pub low_tenth : (low weight at more b : ℕ) (bytes : List ℕ) (whole : Number) → more ≡ 0 → 1 ≤ length bytes → b ≡ get_or bytes 0 0 → b < 2
    → with_low low weight (varint_at at more bytes) ≡ whole
    → whole ≡ Ok (low + b * weight, tail_of bytes)
unfolding varint_at
low_tenth low weight at more b [] whole none some is below h = absurd (omega arith)
low_tenth low weight at more b (d ∷ bs) whole none some is below h =
    let small : d < 2 = omega (arith, is) in
    rw (tail_is, is) (sym (rw (none, lt-ltb d 2 small) at h))

pub low_long : (low weight at more : ℕ) (bytes : List ℕ) (whole : Number) → more ≡ 0 → 1 ≤ length bytes → 2 ≤ get_or bytes 0 0
    → with_low low weight (varint_at at more bytes) ≡ whole → whole ≡ Err (errors.Varint at)
unfolding varint_at
low_long low weight at more [] whole none some above h = absurd (omega arith)
low_long low weight at more (b ∷ bs) whole none some above h = sym (rw (none, le-ltb b 2 above) at h)

pub low_last : (low weight at more part : ℕ) (bytes : List ℕ) (whole : Number) → 0 < more → 1 ≤ length bytes → get_or bytes 0 0 < 128
    → part ≡ get_or bytes 0 0 % 128
    → with_low low weight (varint_at at more bytes) ≡ whole → whole ≡ Ok (low + part * weight, tail_of bytes)
unfolding varint_at
low_last low weight at more part [] whole left some below is h = absurd (omega arith)
low_last low weight at zero part (b ∷ bs) whole left some below is h = absurd (omega arith)
low_last low weight at (suc more) part (b ∷ bs) whole left some below is h =
    let all : part ≡ b = omega (arith, is, below) in
    rw (tail_is, all) (sym (rw (lt-ltb b 128 below) at h))

scaled : (low weight part high : ℕ) → low + part * weight + high * (weight * 128) ≡ low + (high * 128 + part) * weight
scaled low weight part high =
    let left : high * (weight * 128) ≡ high * weight * 128 = sym (mul_assoc high weight 128) in
    let right : (high * 128 + part) * weight ≡ high * 128 * weight + part * weight = add-mul (high * 128) part weight in
    let over : high * 128 * weight ≡ high * weight * 128 = mul_assoc high 128 weight ∙ ap (λ n. high * n) (mul_comm 128 weight) ∙ left in
    omega (arith, left, right, over)

higher : (low weight part : ℕ) (r : Number)
    → with_low (low + part * weight) (weight * 128) r ≡ with_low low weight (r >>= λ high. Ok (high.0 * 128 + part, high.1))
higher low weight part (Ok x) = ap (λ (n : ℕ). Ok (n, x.1)) (scaled low weight part x.0)
higher low weight part (Err e) = refl

pub low_more : (low weight at more part : ℕ) (bytes : List ℕ) (whole : Number) → 0 < more → 1 ≤ length bytes → 128 ≤ get_or bytes 0 0
    → part ≡ get_or bytes 0 0 % 128
    → with_low low weight (varint_at at more bytes) ≡ whole → with_low (low + part * weight) (weight * 128) (varint_at at (more - 1) (tail_of bytes)) ≡ whole
unfolding varint_at
low_more low weight at more part [] whole left some above is h = absurd (omega arith)
low_more low weight at zero part (b ∷ bs) whole left some above is h = absurd (omega arith)
low_more low weight at (suc more) part (b ∷ bs) whole left some above is h =
    let one : suc more - 1 ≡ more = omega arith in
    rw (one, tail_is, is) (higher low weight (b % 128) (varint_at at more bs) ∙ rw (le-ltb b 128 above) at h)

-- what is read so far, and with one byte more, fits
pub record LowFits (more weight low part : ℕ) : Type 0 where
  pub product : part * weight < 2 ^ 64
  pub sum : low + part * weight < weight * 128
  pub next : weight * 128 ≤ 128 ^ 9
  pub next_is : weight * 128 ≡ 128 ^ (9 - (more - 1))

pub low_fits : (more weight low part : ℕ) → 0 < more → more ≤ 9 → weight ≡ 128 ^ (9 - more) → low < weight → part < 128 → LowFits more weight low part
low_fits more weight low part some few is below small =
    let le : part ≤ 127 = omega arith in
    let times : part * weight ≤ 127 * weight = mul-le-mul_right weight le in
    let exponent : 9 - (more - 1) ≡ suc (9 - more) = omega arith in
    let next_is : weight * 128 ≡ 128 ^ (9 - (more - 1)) = rw (exponent, is) (sym (pow-suc 128 (9 - more))) in
    let pos : 0 < 128 = omega arith in
    let few_more : 9 - (more - 1) ≤ 9 = omega arith in
    let top : 128 ^ (9 - (more - 1)) ≤ 128 ^ 9 = pow-le-pow_right pos few_more in
    record { product = omega (arith, next_is, top, times); sum = omega (arith, times); next = omega (arith, next_is, top); next_is = next_is }

pub tenth_fits : (more weight low b : ℕ) → more ≡ 0 → weight ≡ 128 ^ (9 - more) → low < weight → b < 2 → low + b * weight < 2 ^ 64
tenth_fits more weight low b none is below small =
    let le : b ≤ 1 = omega arith in
    let times : b * weight ≤ 1 * weight = mul-le-mul_right weight le in
    let whole : weight ≡ 128 ^ 9 = rw none at is in
    omega (arith, times, whole)
