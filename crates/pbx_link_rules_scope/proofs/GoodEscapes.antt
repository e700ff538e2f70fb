-- Texts from one escape on, with the first byte behind a backslash passed alone.
use Rattle.std.proofs.Common.{◌≡◌, ◌≢◌, ◌∙◌, ℕ, zero, suc, ◌+◌, ◌-◌, ◌*◌, ◌<◌, ◌≤◌, Bool, true, false, not, cond, List, [], ◌∷◌}
use Rattle.std.proofs.Common.{length, take, drop, get_or, length-drop, refl, ap, sym, subst, arith}
use Rattle.std.specs.Prelude.{Option, Some, None, is_some, is_none, option_map, unwrap_or, nat_lt, nat_le, ◌&&◌, ◌==◌, if◌then◌else◌}
use Rattle.std.specs.List.{list_all, prefix_len}
use Rattle.std.proofs.lemmas.Bool.{eqb-true, ltb-true}
use Rattle.std.proofs.lemmas.Bool.Decides.{nat_tests}
use Rattle.std.proofs.lemmas.List.{take_all}
use Rattle.pbx_parse_token.specs.declared.escape.Escape.{Escape}
use Rattle.pbx_parse_token.specs.declared.run.Run.TheVariants as runs
use Rattle.pbx_parse_token.specs.Bytes.{passes, digit_of, digits_value}
use Rattle.pbx_parse_token.specs.Escapes.{simple_value, number_of, number_at, escape_at}
use Rattle.pbx_parse_token.specs.Scan.{has_good_escapes}
use Rattle.pbx_parse_token.proofs.Classes.{by_test, by_bool, both}
use Rattle.pbx_parse_token.proofs.Integers.{front_digits, number_good, number_bad}
use Rattle.pbx_parse_token.proofs.Options.{done, some_is, mapped}
use Rattle.pbx_parse_token.proofs.Unescaping.{good_none, good_first}

pub mapped_is : {A B : Type 0} (f : A → B) (o : Option A) → is_some (option_map f o) ≡ is_some o
mapped_is f None = refl
mapped_is f (Some x) = refl

-- ---- digits at the front

fits : (n v : ℕ) → 0 < n → v ≤ 255 → is_some (number_of n v) ≡ true
fits n v some small = ap is_some (sym (number_good n v some small))

too_large : (n v : ℕ) → 255 < v → is_some (number_of n v) ≡ false
too_large n v large = ap is_some (sym (number_bad n v large))

hexadecimal_by : (a b : ℕ) (rest : List ℕ) (t u : Bool) → nat_lt (digit_of a) 16 ≡ t → nat_lt (digit_of b) 16 ≡ u
    → is_some (let n = cond t (1 + cond u 1 0) 0 in number_of n (digits_value 16 (take n (a ∷ b ∷ rest)))) ≡ t
hexadecimal_by a b rest false u e f = refl
hexadecimal_by a b rest true false e f = fits 1 (0 * 16 + digit_of a) (omega arith) (omega (arith, ltb-true (digit_of a) 16 e))
hexadecimal_by a b rest true true e f =
    fits 2 ((0 * 16 + digit_of a) * 16 + digit_of b) (omega arith) (omega (arith, ltb-true (digit_of a) 16 e, ltb-true (digit_of b) 16 f))

-- hexadecimal digits, where the first byte is one
pub hexadecimal_is : (bs : List ℕ) → 1 ≤ length bs → is_some (number_at 16 2 bs) ≡ nat_lt (digit_of (get_or bs 0 0)) 16
hexadecimal_is [] le = absurd (omega arith)
hexadecimal_is (a ∷ []) le = at (nat_lt (digit_of a) 16) refl
  where
    at : (t : Bool) → nat_lt (digit_of a) 16 ≡ t → is_some (let n = cond t 1 0 in number_of n (digits_value 16 (take n (a ∷ [])))) ≡ t
    at false e = refl
    at true e = fits 1 (0 * 16 + digit_of a) (omega arith) (omega (arith, ltb-true (digit_of a) 16 e))
hexadecimal_is (a ∷ b ∷ rest) le = hexadecimal_by a b rest (nat_lt (digit_of a) 16) (nat_lt (digit_of b) 16) refl refl

-- an octal digit
abbrev pub is_octal : ℕ → Bool
is_octal b = nat_le 48 b && nat_le b 55

octal_test : (b : ℕ) → nat_lt (digit_of b) 8 ≡ is_octal b
octal_test b = grind (arith, nat_tests)

octal_digit : (b : ℕ) → is_octal b ≡ true → digit_of b ≡ b - 48
octal_digit b e = grind (arith, nat_tests)

octal_by : (a b c : ℕ) (rest : List ℕ) (u v : Bool) → is_octal a ≡ true → nat_lt (digit_of b) 8 ≡ u → nat_lt (digit_of c) 8 ≡ v
    → is_some (let n = 1 + cond u (1 + cond v 1 0) 0 in number_of n (digits_value 8 (take n (a ∷ b ∷ c ∷ rest)))) ≡ not (u && v && nat_le 52 a)
octal_by a b c rest false v e f g =
    fits 1 (0 * 8 + digit_of a) (omega arith) (omega (arith, ltb-true (digit_of a) 8 (octal_test a ∙ e)))
octal_by a b c rest true false e f g =
    fits 2 ((0 * 8 + digit_of a) * 8 + digit_of b) (omega arith)
    (omega (arith, ltb-true (digit_of a) 8 (octal_test a ∙ e), ltb-true (digit_of b) 8 f))
octal_by a b c rest true true e f g = at (nat_le 52 a) refl
  where
    at : (t : Bool) → nat_le 52 a ≡ t → is_some (number_of 3 (((0 * 8 + digit_of a) * 8 + digit_of b) * 8 + digit_of c)) ≡ not t
    at true h =
        let large : 52 ≤ a = grind (arith, nat_tests, h) in
        too_large 3 (((0 * 8 + digit_of a) * 8 + digit_of b) * 8 + digit_of c) (omega (arith, large, octal_digit a e))
    at false h =
        let small : a < 52 = grind (arith, nat_tests, h) in
        fits 3 (((0 * 8 + digit_of a) * 8 + digit_of b) * 8 + digit_of c) (omega arith)
        (omega (arith, small, octal_digit a e, ltb-true (digit_of b) 8 f, ltb-true (digit_of c) 8 g))

-- octal digits, where the first byte is one, of a value that fits a byte: not three of them from 4 on
pub octal_is : (bs : List ℕ) → is_octal (get_or bs 0 0) ≡ true
    → is_some (number_at 8 3 bs) ≡ not (nat_le 3 (length bs) && (is_octal (get_or bs 1 0) && is_octal (get_or bs 2 0) && nat_le 52 (get_or bs 0 0)))
octal_is [] e = absurd (cc)
octal_is (a ∷ []) e = rw (octal_test a, e) (fits 1 (0 * 8 + digit_of a) (omega arith) (omega (arith, ltb-true (digit_of a) 8 (octal_test a ∙ e))))
octal_is (a ∷ b ∷ []) e = rw (octal_test a, e) (at (nat_lt (digit_of b) 8) refl)
  where
    at : (u : Bool) → nat_lt (digit_of b) 8 ≡ u → is_some (let n = 1 + cond u 1 0 in number_of n (digits_value 8 (take n (a ∷ b ∷ [])))) ≡ true
    at false f = fits 1 (0 * 8 + digit_of a) (omega arith) (omega (arith, ltb-true (digit_of a) 8 (octal_test a ∙ e)))
    at true f =
        fits 2 ((0 * 8 + digit_of a) * 8 + digit_of b) (omega arith)
        (omega (arith, ltb-true (digit_of a) 8 (octal_test a ∙ e), ltb-true (digit_of b) 8 f))
octal_is (a ∷ b ∷ c ∷ rest) e =
    let three : nat_le 3 (length (a ∷ b ∷ c ∷ rest)) ≡ true = grind (arith, nat_tests) in
    rw (three, ← octal_test b, ← octal_test c, octal_test a, e) (octal_by a b c rest (nat_lt (digit_of b) 8) (nat_lt (digit_of c) 8) e refl refl)

-- a byte that is no backslash
good_other : (b : ℕ) (bs : List ℕ) → (b == 92) ≡ false → has_good_escapes (b ∷ bs) ≡ has_good_escapes bs
good_other b bs h =
    good_first b bs
    ∙ ap (λ t. not (t && is_none (escape_at bs))
    && has_good_escapes (drop (unwrap_or (if t then escape_at bs else None) (record { value = b; size = 0 })).size bs)) h

-- a backslash
good_backslash : (bs : List ℕ) (o : Option Escape) → escape_at bs ≡ o
    → has_good_escapes (92 ∷ bs) ≡ (not (is_none o) && has_good_escapes (drop (unwrap_or o (record { value = 92; size = 0 })).size bs))
good_backslash bs o e =
    good_first 92 bs ∙ ap (λ (r : Option Escape). not (is_none r) && has_good_escapes (drop (unwrap_or r (record { value = 92; size = 0 })).size bs)) e

-- ---- digits are no backslashes

apart : (x y base : ℕ) → x ≡ y → x < base → base ≤ 16 → 16 ≤ y → ⊥
apart x y base e lt le big = omega arith

no_backslash : (b base : ℕ) → base ≤ 16 → passes (runs.Digits base) b ≡ true → (b == 92) ≡ false
no_backslash b base le e =
    by_bool (b == 92) (λ p. absurd (apart (digit_of b) 99 base (ap digit_of (eqb-true b 92 p)) (ltb-true (digit_of b) base e) le (omega arith))) (λ p. p)

past_digits : (base n : ℕ) (bs : List ℕ) → base ≤ 16 → list_all (passes (runs.Digits base)) (take n bs) ≡ true
    → has_good_escapes (drop n bs) ≡ has_good_escapes bs
past_digits base zero bs le e = refl
past_digits base (suc n) [] le e = refl
past_digits base (suc n) (b ∷ bs) le e =
    let two = both (passes (runs.Digits base) b) (list_all (passes (runs.Digits base)) (take n bs)) e in
    past_digits base n bs le two.1 ∙ sym (good_other b bs (no_backslash b base le two.0))

record AreDigits (base : ℕ) (bytes : List ℕ) (n : ℕ) : Type 0 where
  some : 0 < n
  all : list_all (passes (runs.Digits base)) (take n bytes) ≡ true

number_digits : (base most : ℕ) (bytes : List ℕ) (e : Escape) → number_at base most bytes ≡ Some e → AreDigits base bytes e.size
number_digits base most bytes e h =
    let p = passes (runs.Digits base) in
    let n = prefix_len p (take most bytes) in
    let v = digits_value base (take n bytes) in
    by_test (nat_lt 0 n && nat_le v 255) (done (record { value = v; size = n })) None (Some e) h
    (λ t q.
    let its : AreDigits base bytes n = record { some = ltb-true 0 n (both (nat_lt 0 n) (nat_le v 255) t).0; all = front_digits p most bytes } in
    subst (λ (x : Escape). AreDigits base bytes x.size) (some_is (record { value = v; size = n }) e q) its)
    (λ t q. absurd cc)

past_hexadecimal : (b : ℕ) (bs : List ℕ) (n : ℕ) → AreDigits 16 bs n → has_good_escapes (drop (n + 1) (b ∷ bs)) ≡ has_good_escapes bs
past_hexadecimal b bs n are =
    let more : n + 1 ≡ suc n = omega arith in
    ap (λ k. has_good_escapes (drop k (b ∷ bs))) more ∙ past_digits 16 n bs (omega arith) are.all

past_octal : (b : ℕ) (bs : List ℕ) (n : ℕ) → AreDigits 8 (b ∷ bs) n → has_good_escapes (drop n (b ∷ bs)) ≡ has_good_escapes bs
past_octal b bs zero are = absurd (omega (arith, are.some))
past_octal b bs (suc n) are =
    past_digits 8 n bs (omega arith) (both (passes (runs.Digits 8) b) (list_all (passes (runs.Digits 8)) (take n bs)) are.all).1

-- what is behind the escape has good escapes where all behind its first byte has
past_escape : (b : ℕ) (bs : List ℕ) (e : Escape) → escape_at (b ∷ bs) ≡ Some e → has_good_escapes (drop e.size (b ∷ bs)) ≡ has_good_escapes bs
unfolding escape_at
past_escape b bs e h =
    by_test (b == 120) (option_map (λ (d : Escape). let x : Escape = record { value = d.value; size = d.size + 1 } in x) (number_at 16 2 bs)) _ (Some e) h
    (λ p q.
    let d = mapped (λ (d : Escape). let x : Escape = record { value = d.value; size = d.size + 1 } in x) (number_at 16 2 bs) e q in
    ap (λ (x : Escape). has_good_escapes (drop x.size (b ∷ bs))) (sym d.2) ∙ past_hexadecimal b bs d.0.size (number_digits 16 2 bs d.0 d.1))
    (λ p q. by_test (nat_le 48 b && nat_le b 55) (number_at 8 3 (b ∷ bs)) _ (Some e) q
    (λ p2 q2. past_octal b bs e.size (number_digits 8 3 (b ∷ bs) e q2))
    (λ p2 q2.
    let d = mapped (λ (v : ℕ). let x : Escape = record { value = v; size = 1 } in x) (simple_value b) e q2 in
    ap (λ (x : Escape). has_good_escapes (drop x.size (b ∷ bs))) (sym d.2)))

-- ---- steps of a scan

-- the bytes from this index on, as the code slices them
abbrev pub from : ℕ → List ℕ → List ℕ
from n bs = take (length bs - n) (drop n bs)

from_is : (n : ℕ) (bs : List ℕ) → from n bs ≡ drop n bs
from_is n bs = take_all (length bs - n) (drop n bs) (omega (arith, length-drop n bs))

pub scan_none : (bs : List ℕ) → length bs < 1 → true ≡ has_good_escapes bs
scan_none bs lt = sym (good_none bs lt)

pub scan_bad : (bs : List ℕ) → 1 ≤ length bs → get_or bs 0 0 ≡ 92 → is_some (escape_at (from 1 bs)) ≡ false → false ≡ has_good_escapes bs
scan_bad [] le first h = absurd (omega arith)
scan_bad (b ∷ bs) le first h =
    at (escape_at bs) refl (ap (λ t. is_some (escape_at t)) (sym (from_is 1 (b ∷ bs))) ∙ h)
  where
    at : (o : Option Escape) → escape_at bs ≡ o → is_some o ≡ false → false ≡ has_good_escapes (b ∷ bs)
    at None e k = sym (ap (λ c. has_good_escapes (c ∷ bs)) first ∙ good_backslash bs None e)
    at (Some x) e k = absurd (cc)

pub some_behind : (bs : List ℕ) → is_some (escape_at bs) ≡ true → 1 ≤ length bs
unfolding escape_at
some_behind [] h = absurd (cc)
some_behind (b ∷ bs) h = omega arith

pub scan_escape : (bs : List ℕ) → 1 ≤ length bs → get_or bs 0 0 ≡ 92 → is_some (escape_at (from 1 bs)) ≡ true
    → has_good_escapes (from 1 (from 1 bs)) ≡ has_good_escapes bs
scan_escape [] le first h = absurd (omega arith)
scan_escape (b ∷ []) le first h = absurd (omega (arith, some_behind [] (ap (λ t. is_some (escape_at t)) (sym (from_is 1 (b ∷ []))) ∙ h)))
scan_escape (b ∷ c ∷ bs) le first h =
    ap (λ t. has_good_escapes (from 1 t)) (from_is 1 (b ∷ c ∷ bs)) ∙ ap has_good_escapes (from_is 1 (c ∷ bs))
    ∙ at (escape_at (c ∷ bs)) refl (ap (λ t. is_some (escape_at t)) (sym (from_is 1 (b ∷ c ∷ bs))) ∙ h)
  where
    at : (o : Option Escape) → escape_at (c ∷ bs) ≡ o → is_some o ≡ true → has_good_escapes bs ≡ has_good_escapes (b ∷ c ∷ bs)
    at None e k = absurd (cc)
    at (Some x) e k =
        sym (past_escape c bs x e) ∙ sym (ap (λ d. has_good_escapes (d ∷ c ∷ bs)) first ∙ good_backslash (c ∷ bs) (Some x) e)

pub scan_other : (bs : List ℕ) → 1 ≤ length bs → get_or bs 0 0 ≢ 92 → has_good_escapes (from 1 bs) ≡ has_good_escapes bs
scan_other [] le h = absurd (omega arith)
scan_other (b ∷ bs) le h =
    ap has_good_escapes (from_is 1 (b ∷ bs)) ∙ sym (good_other b bs (by_bool (b == 92) (λ p. absurd (h (eqb-true b 92 p))) (λ p. p)))
