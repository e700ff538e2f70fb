-- The numbers that texts of times say have the bits of their fields.
use Rattle.std.proofs.Common.{◌≡◌, ◌∙◌, ℕ, zero, suc, ◌+◌, ◌-◌, ◌*◌, ◌<◌, ◌≤◌, ◌^◌, ◌==◌, ◌&&◌, nat_le, List, [], ◌∷◌, ◌++◌, take, drop, length, replicate, codes, fold, Bool, true, false, if◌then◌else◌, ℤ, pos, negsuc, neg_ℤ, ◌-ℤ◌, w32, w64, Option, Some, None, option_map, option_and_then, Ok, Err, refl, ap, sym, subst, arith}
use Rattle.std.specs.Int.RustNames.{FitsSigned, unsigned_abs}
use Rattle.std.specs.List.{list_all}
use Rattle.std.specs.Prelude.{int_le}
use Rattle.std.specs.Str.{bytes_eq}
use Rattle.std.proofs.lemmas.Bool.Decides.{nat_tests}
use Rattle.std.proofs.lemmas.Int.{fits_signed_from_abs}
use Rattle.std.proofs.lemmas.List.{length-take}
use Rattle.pbx_text.specs.Clock.{dotted, fraction_of, front_digits, after_digits, nanos_of_digits}
use Rattle.pbx_text.specs.Decimal.{and_then, is_digit, natural_of, or_form}
use Rattle.pbx_text.specs.Duration.{duration_of, duration_read, is_duration_second, length_of, nanos_before_s, negated, with_nanos}
use Rattle.pbx_text.specs.Timestamp.{at_zone, greatest_seconds, is_local, is_timestamp_second, least_seconds, local_seconds, timestamp_of, timestamp_read, zone_of}
use Rattle.pbx_text.specs.declared.fault.TextFault.TheVariants.{Range}
use Rattle.pbx_text.proofs.Clocks.{front_digits_are}

both : (a b : Bool) → (a && b) ≡ true → (a ≡ true) × (b ≡ true)
both true b h = (refl, h)
both false b h = cc h

-- ---- fractions

-- m with k zeros behind it
abbrev tens : ℕ → ℕ → ℕ
tens zero m = m
tens (suc k) m = tens k (m * 10)

tens_up : (k m : ℕ) → m ≤ tens k m
tens_up zero m = omega arith
tens_up (suc k) m = omega (arith, tens_up k (m * 10))

digits_below : (k n m : ℕ) (ds : List ℕ) → length ds ≤ k → list_all is_digit ds ≡ true → n < m → fold (λ n c. n * 10 + (c - 48)) n ds < tens k m
digits_below k n m [] short are low = omega (arith, tens_up k m)
digits_below zero n m (c ∷ cs) short are low = absurd (omega arith)
digits_below (suc k) n m (c ∷ cs) short are low =
    let it = both (is_digit c) (list_all is_digit cs) are in
    let digit : c ≤ 57 = (let p : is_digit c ≡ true = it.0 in grind (arith, nat_tests, p)) in
    digits_below k (n * 10 + (c - 48)) (m * 10) cs (omega arith) it.1 (omega arith)

all_front : (p : ℕ → Bool) (n : ℕ) (xs : List ℕ) → list_all p xs ≡ true → list_all p (take n xs) ≡ true
all_front p zero xs h = refl
all_front p (suc n) [] h = refl
all_front p (suc n) (x ∷ xs) h = let it = both (p x) (list_all p xs) h in rw (it.0, all_front p n xs it.1) refl

all_joined : (p : ℕ → Bool) (xs ys : List ℕ) → list_all p xs ≡ true → list_all p ys ≡ true → list_all p (xs ++ ys) ≡ true
all_joined p [] ys h k = k
all_joined p (x ∷ xs) ys h k = let it = both (p x) (list_all p xs) h in rw (it.0, all_joined p xs ys it.1 k) refl

nanos_low : (ds : List ℕ) → list_all is_digit ds ≡ true → nanos_of_digits ds < 1000000000
nanos_low ds are =
    digits_below 9 0 1 (take 9 (ds ++ replicate 9 48)) (omega (arith, length-take 9 (ds ++ replicate 9 48)))
    (all_front is_digit 9 (ds ++ replicate 9 48) (all_joined is_digit ds (replicate 9 48) are refl)) (omega arith)

dotted_low : (ds rest : List ℕ) (f : ℕ × List ℕ) → list_all is_digit ds ≡ true → dotted ds rest ≡ Some f → f.0 < 1000000000
dotted_low [] rest f are h = cc h
dotted_low (d ∷ ds) rest f are h =
    let same : nanos_of_digits (d ∷ ds) ≡ f.0 = ap fst_or h in
    rw (← same) (nanos_low (d ∷ ds) are)
  where
    fst_or : Option (ℕ × List ℕ) → ℕ
    fst_or None = 0
    fst_or (Some f) = f.0

pub fraction_low : (text : List ℕ) (f : ℕ × List ℕ) → fraction_of text ≡ Some f → f.0 < 1000000000
fraction_low [] f h = let same : (0, []) ≡ f = cc h in rw (← same) (omega arith)
fraction_low (c ∷ cs) f h = at (c == 46) h
  where
    at : (b : Bool) → (if b then dotted (front_digits cs) (after_digits cs) else Some (0, c ∷ cs)) ≡ Some f → f.0 < 1000000000
    at true k = dotted_low (front_digits cs) (after_digits cs) f (front_digits_are cs) k
    at false k = let same : (0, c ∷ cs) ≡ f = cc k in rw (← same) (omega arith)

-- ---- times

-- the seconds have 64 bits, and the nanoseconds 32
abbrev pub HasBits : ℤ × ℤ → Type 0
HasBits t = FitsSigned w64 t.0 × FitsSigned w32 t.1

-- the nanoseconds are less than a second
abbrev IsShort : ℤ × ℤ → Type 0
IsShort t = unsigned_abs t.1 < 1000000000

short_bits : (t : ℤ × ℤ) → IsShort t → FitsSigned w32 t.1
short_bits t h = fits_signed_from_abs w32 t.1 (omega arith)

short_instant : (text : List ℕ) (t : ℤ × ℤ) → timestamp_of text ≡ Some t → IsShort t
unfolding timestamp_of
short_instant text t h = at (is_local (take 19 text)) (fraction_of (drop 19 text)) refl h
  where
    zoned : (f : ℕ × List ℕ) → f.0 < 1000000000 → (o : Option ℤ) → option_map (λ offset. (local_seconds (take 19 text) -ℤ offset, pos f.0)) o ≡ Some t → IsShort t
    zoned f low None k = cc k
    zoned f low (Some offset) k = let same : (local_seconds (take 19 text) -ℤ offset, pos f.0) ≡ t = cc k in subst IsShort same low

    at : (b : Bool) (o : Option (ℕ × List ℕ)) → fraction_of (drop 19 text) ≡ o
        → (if b then option_and_then (at_zone (local_seconds (take 19 text))) o else None) ≡ Some t → IsShort t
    at false o e k = cc k
    at true None e k = cc k
    at true (Some f) e k = zoned f (fraction_low (drop 19 text) f e) (zone_of f.1) k

-- what a test lets through
pub limited : (o : Option (ℤ × ℤ)) (p : ℤ → Bool) (t : ℤ × ℤ) → and_then (or_form o) (λ u. if p u.0 then Ok u else Err Range) ≡ Ok t → (o ≡ Some t) × (p t.0 ≡ true)
limited None p t h = cc h
limited (Some u) p t h = at (p u.0) refl h
  where
    at : (b : Bool) → p u.0 ≡ b → (if b then Ok u else Err Range) ≡ Ok t → (Some u ≡ Some t) × (p t.0 ≡ true)
    at false e k = cc k
    at true e k = let same : u ≡ t = cc k in (ap Some same, ap (λ x. p x.0) (sym same) ∙ e)

second_bits : (z : ℤ) → is_timestamp_second z ≡ true → FitsSigned w64 z
second_bits z h = fits_signed_from_abs w64 z (at z (both (int_le least_seconds z) (int_le z greatest_seconds) h))
  where
    at : (z : ℤ) → (int_le least_seconds z ≡ true) × (int_le z greatest_seconds ≡ true) → unsigned_abs z < 2 ^ 63
    at (pos n) e = let low : nat_le n 253402300799 ≡ true = e.1 in grind (arith, nat_tests, low)
    at (negsuc n) e = let low : nat_le n 62135596799 ≡ true = e.0 in grind (arith, nat_tests, low)

-- The numbers that a timestamp's text says have the bits of its fields.
pub timestamp_bits : (text : List ℕ) (t : ℤ × ℤ) → timestamp_read text ≡ Ok t → HasBits t
timestamp_bits text t h =
    let it = limited (timestamp_of text) is_timestamp_second t h in
    (second_bits t.0 it.1, short_bits t (short_instant text t it.0))

-- the seconds of a length and its nanoseconds
pub short_parts : (text : List ℕ) (u : ℕ × ℕ) → length_of text ≡ Some u → u.1 < 1000000000
short_parts text u h = at (natural_of (front_digits text)) (fraction_of (after_digits text)) refl h
  where
    ended : (f : ℕ × List ℕ) (seconds : ℕ) (b : Bool) → f.0 < 1000000000 → option_map (λ n. (seconds, n)) (if b then Some f.0 else None) ≡ Some u
        → u.1 < 1000000000
    ended f seconds true low k = let same : (seconds, f.0) ≡ u = cc k in rw (← same) low
    ended f seconds false low k = cc k

    at : (o : Option ℕ) (q : Option (ℕ × List ℕ)) → fraction_of (after_digits text) ≡ q
        → option_and_then (with_nanos (option_and_then nanos_before_s q)) o ≡ Some u → u.1 < 1000000000
    at None q e k = cc k
    at (Some seconds) None e k = cc k
    at (Some seconds) (Some f) e k = ended f seconds (bytes_eq f.1 (codes "s")) (fraction_low (after_digits text) f e) k

pub abs_of_neg : (n : ℕ) → unsigned_abs (neg_ℤ (pos n)) ≡ n
abs_of_neg zero = refl
abs_of_neg (suc n) = refl

short_length : (text : List ℕ) (t : ℤ × ℤ) → duration_of text ≡ Some t → IsShort t
unfolding duration_of
short_length [] t h = cc h
short_length (c ∷ cs) t h = at (c == 45) h
  where
    minus : (o : Option (ℕ × ℕ)) → length_of cs ≡ o → option_map negated o ≡ Some t → IsShort t
    minus None e k = cc k
    minus (Some u) e k =
        let same : negated u ≡ t = cc k in
        subst IsShort same (rw (abs_of_neg u.1) (short_parts cs u e))

    plain : (o : Option (ℕ × ℕ)) → length_of (c ∷ cs) ≡ o → option_map (λ u. (pos u.0, pos u.1)) o ≡ Some t → IsShort t
    plain None e k = cc k
    plain (Some u) e k = let same : (pos u.0, pos u.1) ≡ t = cc k in subst IsShort same (short_parts (c ∷ cs) u e)

    at : (b : Bool) → (if b then option_map negated (length_of cs) else option_map (λ u. (pos u.0, pos u.1)) (length_of (c ∷ cs))) ≡ Some t → IsShort t
    at true k = minus (length_of cs) refl k
    at false k = plain (length_of (c ∷ cs)) refl k

-- The same of a duration's text.
pub duration_bits : (text : List ℕ) (t : ℤ × ℤ) → duration_read text ≡ Ok t → HasBits t
duration_bits text t h =
    let it = limited (duration_of text) is_duration_second t h in
    (fits_signed_from_abs w64 t.0 (let low : nat_le (unsigned_abs t.0) 315576000000 ≡ true = it.1 in grind (arith, nat_tests, low)), short_bits t (short_length text t it.0))
