-- An integer is read digit by digit, and no further than 64 bits hold.
use Rattle.std.proofs.Common.{◌≡◌, ℕ, suc, ◌+◌, ◌-◌, ◌*◌, ◌^◌, ◌<◌, ◌≤◌, Bool, true, false, List, [], ◌∷◌, length, take, drop, Option, Some, None, refl, sym, ap, subst, ◌∙◌, arith, ◌⊎◌, inl, inr, Bor}
use Rattle.std.specs.Prelude.{◌==◌, ◌&&◌, ◌||◌, fold, nat_lt, nat_le, MatchOption, unwrap_or, slice_range}
use Rattle.std.specs.List.{list_all, prefix_len}
use Rattle.std.proofs.Math.Nat.{le-mul_of_pos_right}
use Rattle.std.proofs.lemmas.Bool.{eqb-true, ltb-true, lt-ltb, le-leb, and_from, and_right}
use Rattle.std.proofs.lemmas.List.{take_all, take-append-le, take-append-drop}
use Rattle.std.proofs.lemmas.List.Sums.{prefix_len-le-length}
use Rattle.std.proofs.lemmas.Bool.Decides.{nat_tests}
use Rattle.pbx_parse_token.specs.declared.escape.Escape.{Escape}
use Rattle.pbx_parse_token.specs.declared.run.Run.TheVariants as runs
use Rattle.pbx_parse_token.specs.Bytes.{passes, digit_of, digits_value, IsNumeral, IsInteger}
use Rattle.pbx_parse_token.specs.Escapes.{number_of, number_at}
use Rattle.pbx_parse_token.specs.Scan.{digits_from, hexadecimal, after_zero, int_value}
use Rattle.pbx_parse_token.proofs.Options.{done, some_is}
use Rattle.pbx_parse_token.proofs.Classes.{by_test, by_bool, both}

-- the value of digits behind a front of that value
abbrev value_from : ℕ → ℕ → List ℕ → ℕ
value_from base n digits = fold (λ n d. n * base + digit_of d) n digits

-- it is no smaller than the front's
grows : (base n : ℕ) (ds : List ℕ) → list_all (passes (runs.Digits base)) ds ≡ true → n ≤ value_from base n ds
grows base n [] e = omega arith
grows base n (b ∷ ds) e =
    let h = both (nat_lt (digit_of b) base) (list_all (passes (runs.Digits base)) ds) e in
    let small : digit_of b < base = ltb-true (digit_of b) base h.0 in
    let more : n ≤ n * base = le-mul_of_pos_right n (omega arith) in
    let rest : n * base + digit_of b ≤ value_from base (n * base + digit_of b) ds = grows base (n * base + digit_of b) ds h.1 in
    omega (arith, more, rest)

found : (base n : ℕ) (ds : List ℕ) (m : ℕ) → digits_from base n ds ≡ Some m → (list_all (passes (runs.Digits base)) ds ≡ true) × (value_from base n ds ≡ m) × (n < 2 ^ 64 → m < 2 ^ 64)
unfolding digits_from
found base n [] m e = let is = some_is n m e in (refl, is, λ lt. subst (λ k. k < 2 ^ 64) is lt)
found base n (b ∷ ds) m e =
    let next = n * base + digit_of b in
    by_test (nat_lt (digit_of b) base && nat_lt next (2 ^ 64)) (digits_from base next ds) None (Some m) e
    (λ p q. let h = both (nat_lt (digit_of b) base) (nat_lt next (2 ^ 64)) p in
    let rest = found base next ds m q in
    (and_from (nat_lt (digit_of b) base) (list_all (passes (runs.Digits base)) ds) h.0 rest.0, rest.1, λ lt. rest.2 (ltb-true next (2 ^ 64) h.1)))
    (λ p q. absurd cc)

again : (base n : ℕ) (ds : List ℕ) → list_all (passes (runs.Digits base)) ds ≡ true → value_from base n ds < 2 ^ 64 → digits_from base n ds ≡ Some (value_from base n ds)
unfolding digits_from
again base n [] e lt = refl
again base n (b ∷ ds) e lt =
    let next = n * base + digit_of b in
    let h = both (nat_lt (digit_of b) base) (list_all (passes (runs.Digits base)) ds) e in
    let fits : next < 2 ^ 64 = omega (arith, grows base next ds h.1, lt) in
    rw (h.0, lt-ltb next (2 ^ 64) fits) (again base next ds h.1 lt)

-- ---- integers

numeral : (base : ℕ) (ds : List ℕ) (n : ℕ) → 0 < length ds → digits_from base 0 ds ≡ Some n → IsNumeral base ds n
numeral base ds n some e = let h = found base 0 ds n e in record { some = some; digits_of_base = h.0; value = h.1; small = h.2 (omega arith) }

read : (base : ℕ) (ds : List ℕ) (n : ℕ) → IsNumeral base ds n → digits_from base 0 ds ≡ Some n
read base ds n h = again base 0 ds h.digits_of_base (subst (λ k. k < 2 ^ 64) (sym h.value) h.small) ∙ ap done h.value

-- a 0 comes first
octal_zero : (ds : List ℕ) → digits_from 8 0 (48 ∷ ds) ≡ digits_from 8 0 ds
unfolding digits_from
octal_zero ds = refl

only_zero : digits_from 8 0 [] ≡ Some 0
unfolding digits_from
only_zero = refl

hexadecimal_integer : (bs : List ℕ) (n : ℕ) → hexadecimal bs ≡ Some n → IsNumeral 16 bs n
hexadecimal_integer [] n e = absurd cc
hexadecimal_integer (b ∷ bs) n e = numeral 16 (b ∷ bs) n (omega arith) e

zero_integer : (bs : List ℕ) (n : ℕ) → after_zero bs ≡ Some n → IsInteger (48 ∷ bs) n
zero_integer [] n e = numeral 8 (48 ∷ []) n (omega arith) (octal_zero [] ∙ only_zero ∙ e)
zero_integer (x ∷ bs) n e =
    by_test ((x == 120) || (x == 88)) (hexadecimal bs) (digits_from 8 0 (x ∷ bs)) (Some n) e
    (λ p q. rw p (hexadecimal_integer bs n q))
    (λ p q. rw p (numeral 8 (48 ∷ x ∷ bs) n (omega arith) (octal_zero (x ∷ bs) ∙ q)))

pub to_integer : (text : List ℕ) (n : ℕ) → int_value text ≡ Some n → IsInteger text n
to_integer [] n e = absurd cc
to_integer (b ∷ bs) n e =
    by_test (b == 48) (after_zero bs) (digits_from 10 0 (b ∷ bs)) (Some n) e
    (λ p q. subst (λ (x : ℕ). IsInteger (x ∷ bs) n) (sym (eqb-true b 48 p)) (zero_integer bs n q))
    (λ p q. rw p (numeral 10 (b ∷ bs) n (omega arith) q))

read_hexadecimal : (bs : List ℕ) (n : ℕ) → IsNumeral 16 bs n → hexadecimal bs ≡ Some n
read_hexadecimal [] n h = absurd (omega (arith, h.some))
read_hexadecimal (b ∷ bs) n h = read 16 (b ∷ bs) n h

read_zero : (bs : List ℕ) (n : ℕ) → IsInteger (48 ∷ bs) n → after_zero bs ≡ Some n
read_zero [] n h = sym only_zero ∙ sym (octal_zero []) ∙ read 8 (48 ∷ []) n h
read_zero (x ∷ bs) n h =
    by_test ((x == 120) || (x == 88)) (hexadecimal bs) (digits_from 8 0 (x ∷ bs)) (after_zero (x ∷ bs)) refl
    (λ p q. sym q ∙ read_hexadecimal bs n (let i : IsInteger (48 ∷ x ∷ bs) n = h in rw p at i))
    (λ p q. sym q ∙ sym (octal_zero (x ∷ bs)) ∙ read 8 (48 ∷ x ∷ bs) n (let i : IsInteger (48 ∷ x ∷ bs) n = h in rw p at i))

pub from_integer : (text : List ℕ) (n : ℕ) → IsInteger text n → int_value text ≡ Some n
from_integer [] n h = absurd (omega (arith, h.some))
from_integer (b ∷ bs) n h =
    by_test (b == 48) (after_zero bs) (digits_from 10 0 (b ∷ bs)) (int_value (b ∷ bs)) refl
    (λ p q. sym q ∙ read_zero bs n (subst (λ (x : ℕ). IsInteger (x ∷ bs) n) (eqb-true b 48 p) h))
    (λ p q. sym q ∙ read 10 (b ∷ bs) n (let i : IsInteger (b ∷ bs) n = h in rw p at i))

-- ---- numbers of escapes

-- as the code finds it
abbrev pub number_found : ℕ → Option ℕ → Option Escape
number_found n None = None
number_found n (Some v) = number_of n v

le_false : (v : ℕ) → nat_lt v (2 ^ 64) ≡ false → nat_le v 255 ≡ false
le_false v e = grind (arith, nat_tests)

too_large : (n v : ℕ) → nat_lt v (2 ^ 64) ≡ false → number_of n v ≡ None
too_large n v e =
    let large : nat_le v 255 ≡ false = le_false v e in
    rw (and_right (nat_lt 0 n) (nat_le v 255) large) refl

number_is : (base n : ℕ) (ds : List ℕ) (o : Option ℕ) → list_all (passes (runs.Digits base)) ds ≡ true → o ≡ digits_from base 0 ds → number_found n o ≡ number_of n (digits_value base ds)
number_is base n ds None all e =
    by_bool (nat_lt (digits_value base ds) (2 ^ 64))
    (λ p. let some = again base 0 ds all (ltb-true (digits_value base ds) (2 ^ 64) p) in absurd (let h : None ≡ done (digits_value base ds) = e ∙ some in cc))
    (λ p. sym (too_large n (digits_value base ds) p))
number_is base n ds (Some v) all e = let h = found base 0 ds v (sym e) in ap (number_of n) (sym h.1)

digits_pass : (p : ℕ → Bool) (xs : List ℕ) → list_all p (take (prefix_len p xs) xs) ≡ true
digits_pass p [] = refl
digits_pass p (x ∷ xs) =
    by_test (p x) (1 + prefix_len p xs) 0 (prefix_len p (x ∷ xs)) refl
    (λ t q. let n : 1 + prefix_len p xs ≡ suc (prefix_len p xs) = omega arith in rw (sym q, n) (and_from (p x) (list_all p (take (prefix_len p xs) xs)) t (digits_pass p xs)))
    (λ t q. rw (sym q) refl)

-- digits at the front of bytes, of which so many may be read
pub front_digits : (p : ℕ → Bool) (most : ℕ) (bytes : List ℕ) → list_all p (take (prefix_len p (take most bytes)) bytes) ≡ true
front_digits p most bytes =
    let front = take most bytes in
    let n = prefix_len p front in
    let same : take n front ≡ take n bytes = sym (take-append-le n front (drop most bytes) (prefix_len-le-length p front)) ∙ ap (take n) (take-append-drop most bytes) in
    ap (list_all p) (sym same) ∙ digits_pass p front

-- the digits at the front of bytes, of which so many may be read
pub digits_number : (base most : ℕ) (bytes some : List ℕ) (o : Option ℕ) (n : ℕ) → some ≡ take most bytes → n ≡ prefix_len (passes (runs.Digits base)) some → o ≡ digits_from base 0 (take n bytes) → number_found n o ≡ number_at base most bytes
digits_number base most bytes some o n e is read =
    let p = passes (runs.Digits base) in
    let front = take most bytes in
    let n_is : n ≡ prefix_len p front = is ∙ ap (prefix_len p) e in
    let all : list_all p (take n bytes) ≡ true = ap (λ k. list_all p (take k bytes)) n_is ∙ front_digits p most bytes in
    number_is base n (take n bytes) o all read ∙ ap (λ k. number_of k (digits_value base (take k bytes))) n_is

pub number_good : (n v : ℕ) → 0 < n → v ≤ 255 → done (record { value = v; size = n }) ≡ number_of n v
number_good n v some small = rw (and_from (nat_lt 0 n) (nat_le v 255) (lt-ltb 0 n some) (le-leb v 255 small)) refl

pub number_bad : (n v : ℕ) → 255 < v → None ≡ number_of n v
number_bad n v large = let not : nat_le v 255 ≡ false = grind (arith, nat_tests) in rw (and_right (nat_lt 0 n) (nat_le v 255) not) refl

-- the front of bytes, as the code slices it
pub front_is : (bytes : Bor (List ℕ)) (most : ℕ) (o : Option (Bor (List ℕ)))
    → MatchOption o ((most < 0) ⊎ (length bytes.now < most)) (λ x. (0 ≤ most) × (most ≤ length bytes.now) × (x.now ≡ slice_range bytes.now 0 most) × (length x.now + 0 ≡ most))
    → (unwrap_or o bytes).now ≡ take most bytes.now
front_is bytes most None (inl h) = absurd (omega arith)
front_is bytes most None (inr h) = sym (take_all most bytes.now (omega arith))
front_is bytes most (Some x) h = let n : most - 0 ≡ most = omega arith in h.2 ∙ ap (λ k. take k bytes.now) n
