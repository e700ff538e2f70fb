-- What the text of a time says may be written as a text again.
use Rattle.std.proofs.Common.{◌≡◌, ◌⊎◌, inl, inr, ℕ, zero, suc, ◌<◌, ◌==◌, nat_le, List, [], ◌∷◌, take, drop, Bool, true, false, if◌then◌else◌, ℤ, pos, neg_ℤ, ◌-ℤ◌, Option, Some, None, option_map, option_and_then, Ok, refl, ap, ◌∙◌, arith, rules}
use Rattle.std.specs.Int.RustNames.{unsigned_abs}
use Rattle.std.specs.Prelude.{int_le}
use Rattle.std.proofs.lemmas.Bool.{le-leb}
use Rattle.pbx_text.specs.Clock.{fraction_of}
use Rattle.pbx_text.specs.Duration.{duration_of, duration_read, duration_text, is_duration_second, length_of, negated, signs_agree}
use Rattle.pbx_text.specs.Timestamp.{at_zone, is_local, is_timestamp_second, local_seconds, timestamp_of, timestamp_read, timestamp_text, timestamp_written, zone_of}
use Rattle.pbx_text.proofs.Ranges.{fraction_low, limited, short_parts, abs_of_neg}

-- ---- timestamps

-- the nanoseconds of a text are from 0 to 999,999,999
abbrev HasNanos : ℤ × ℤ → Type 0
HasNanos t = (n : ℕ) × (t.1 ≡ pos n) × (n < 1000000000)

instant_nanos : (text : List ℕ) (t : ℤ × ℤ) → timestamp_of text ≡ Some t → HasNanos t
unfolding timestamp_of
instant_nanos text t h = at (is_local (take 19 text)) (fraction_of (drop 19 text)) refl h
  where
    zoned : (f : ℕ × List ℕ) → f.0 < 1000000000 → (o : Option ℤ) → option_map (λ offset. (local_seconds (take 19 text) -ℤ offset, pos f.0)) o ≡ Some t
        → HasNanos t
    zoned f low None k = cc k
    zoned f low (Some offset) k = let same : (local_seconds (take 19 text) -ℤ offset, pos f.0) ≡ t = cc k in rw (← same) (f.0, refl, low)

    at : (b : Bool) (o : Option (ℕ × List ℕ)) → fraction_of (drop 19 text) ≡ o
        → (if b then option_and_then (at_zone (local_seconds (take 19 text))) o else None) ≡ Some t → HasNanos t
    at false o e k = cc k
    at true None e k = cc k
    at true (Some f) e k = zoned f (fraction_low (drop 19 text) f e) (zone_of f.1) k

instant_written : (seconds nanos : ℤ) (n : ℕ) → is_timestamp_second seconds ≡ true → nanos ≡ pos n → n < 1000000000
    → (text : List ℕ) × (timestamp_written seconds nanos ≡ Ok text)
unfolding timestamp_text
instant_written seconds nanos n second is low =
    let some : int_le (pos 0) (pos n) ≡ true = search rules in
    let small : nat_le n 999999999 ≡ true = le-leb n 999999999 (omega arith) in
    rw (is, second, some, small) (_, refl)

-- what a timestamp's text says
pub timestamp_rewritten : (text : List ℕ) (t : ℤ × ℤ) → timestamp_read text ≡ Ok t → (again : List ℕ) × (timestamp_written t.0 t.1 ≡ Ok again)
timestamp_rewritten text t h =
    let it = limited (timestamp_of text) is_timestamp_second t h in
    let nanos = instant_nanos text t it.0 in
    instant_written t.0 t.1 nanos.0 it.1 nanos.1 nanos.2

-- ---- durations

-- seconds and nanoseconds, or the same behind a `-`
abbrev HasLength : ℤ × ℤ → Type 0
HasLength t = (u : ℕ × ℕ) × (u.1 < 1000000000) × (((pos u.0, pos u.1) ≡ t) ⊎ (negated u ≡ t))

has_length : (text : List ℕ) (t : ℤ × ℤ) → duration_of text ≡ Some t → HasLength t
unfolding duration_of
has_length [] t h = cc h
has_length (c ∷ cs) t h = at (c == 45) h
  where
    minus : (o : Option (ℕ × ℕ)) → length_of cs ≡ o → option_map negated o ≡ Some t → HasLength t
    minus None e k = cc k
    minus (Some u) e k = (u, short_parts cs u e, inr (let same : negated u ≡ t = cc k in same))

    plain : (o : Option (ℕ × ℕ)) → length_of (c ∷ cs) ≡ o → option_map (λ u. (pos u.0, pos u.1)) o ≡ Some t → HasLength t
    plain None e k = cc k
    plain (Some u) e k = (u, short_parts (c ∷ cs) u e, inl (let same : (pos u.0, pos u.1) ≡ t = cc k in same))

    at : (b : Bool) → (if b then option_map negated (length_of cs) else option_map (λ u. (pos u.0, pos u.1)) (length_of (c ∷ cs))) ≡ Some t → HasLength t
    at true k = minus (length_of cs) refl k
    at false k = plain (length_of (c ∷ cs)) refl k

-- nanoseconds of the sign of the seconds, less than a second of them
abbrev IsLength : ℤ × ℤ → Type 0
IsLength t = (nat_le (unsigned_abs t.1) 999999999 ≡ true) × (signs_agree t.0 t.1 ≡ true)

plain_agree : (s n : ℕ) → signs_agree (pos s) (pos n) ≡ true
plain_agree s n =
    let seconds : int_le (pos 0) (pos s) ≡ true = search rules in
    let nanos : int_le (pos 0) (pos n) ≡ true = search rules in
    rw (seconds, nanos) refl

minus_agree : (s n : ℕ) → signs_agree (neg_ℤ (pos s)) (neg_ℤ (pos n)) ≡ true
minus_agree zero zero = refl
minus_agree zero (suc n) = refl
minus_agree (suc s) zero = refl
minus_agree (suc s) (suc n) = refl

is_length : (t : ℤ × ℤ) → HasLength t → IsLength t
is_length t (u, low, inl e) = rw (← e) (le-leb u.1 999999999 (omega arith), plain_agree u.0 u.1)
is_length t (u, low, inr e) = rw (← e) (ap (λ n. nat_le n 999999999) (abs_of_neg u.1) ∙ le-leb u.1 999999999 (omega arith), minus_agree u.0 u.1)

length_written : (seconds nanos : ℤ) → is_duration_second seconds ≡ true → nat_le (unsigned_abs nanos) 999999999 ≡ true → signs_agree seconds nanos ≡ true
    → (text : List ℕ) × (duration_text seconds nanos ≡ Some text)
unfolding duration_text
length_written seconds nanos second low agree = rw (second, low, agree) (_, refl)

-- what a duration's text says
pub duration_rewritten : (text : List ℕ) (t : ℤ × ℤ) → duration_read text ≡ Ok t
    → (is_duration_second t.0 ≡ true) × ((again : List ℕ) × (duration_text t.0 t.1 ≡ Some again))
duration_rewritten text t h =
    let it = limited (duration_of text) is_duration_second t h in
    let is = is_length t (has_length text t it.0) in
    (it.1, length_written t.0 t.1 it.1 is.0 is.1)
