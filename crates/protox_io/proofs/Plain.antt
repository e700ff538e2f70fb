-- A text as it is shown has no control character.
use Rattle.std.proofs.Common.{◌≡◌, ◌<◌, ◌+◌, ◌%◌, ◌/◌, ◌==◌, ◌++◌, ◌∙◌, ◌∷◌, ◌||◌, ◌&&◌, [], ℕ, nat_lt, List, Bool, true, false, codes, sym, ap, refl, arith, append-nil}
use Rattle.std.specs.Bool.{if◌then◌else◌}
use Rattle.std.specs.Char.{is_control}
use Rattle.std.specs.List.{flat_map, list_any}
use Rattle.std.specs.Str.{chars}
use Rattle.std.proofs.Math.Utf8.{encode, encodes, scalar, scalars, low_scalar}
use Rattle.std.proofs.lemmas.Bool.Decides.{nat_tests}
use Rattle.std.proofs.lemmas.List.Folds.{list_any-append}
use Rattle.std.proofs.lemmas.Str.{chars-encodes, encode_ascii, encodes-append, scalars-chars}
use Rattle.pbx_text.specs.Invisible.{is_invisible}
use Rattle.protox_io.specs.Shown.{hexadecimal, hexadecimals, numbered, escape, shown_char, ShownIsPlain}

-- the characters that stand for one
abbrev pub shown_as : ℕ → List ℕ
shown_as c = if is_invisible c then escape c else c ∷ []

small_digit : (n : ℕ) → n < 16 → hexadecimal n < 128
small_digit n h = at (nat_lt n 10)
  where
    at : (v : Bool) → (if v then 48 + n else 87 + n) < 128
    at true = omega arith
    at false = omega arith

plain_digit : (n : ℕ) → n < 16 → is_control (hexadecimal n) ≡ false
plain_digit n h = grind (arith, nat_tests)

-- ---- what stands for an invisible character

-- characters below 128 are their bytes, and no control characters
record Is (text : List ℕ) : Type 0 where
  bytes : text ≡ encodes text
  sound : scalars text ≡ true
  plain : list_any is_control text ≡ false

and_true : (a b : Bool) → a ≡ true → b ≡ true → (a && b) ≡ true
and_true a b p q = ap (λ x. x && b) p ∙ q

or_false : (a b : Bool) → a ≡ false → b ≡ false → (a || b) ≡ false
or_false a b p q = ap (λ x. x || b) p ∙ q

nothing : Is []
nothing = record { bytes = refl; sound = refl; plain = refl }

with_char : (n : ℕ) (text : List ℕ) → n < 128 → is_control n ≡ false → Is text → Is (n ∷ text)
with_char n text low seen is = record {
  bytes = ap (λ l. n ∷ l) is.bytes ∙ sym (ap (λ x. x ++ encodes text) (encode_ascii n low));
  sound = and_true (scalar n) (scalars text) (low_scalar n (omega arith)) is.sound;
  plain = or_false (is_control n) (list_any is_control text) seen is.plain;
}

with_digit : (n : ℕ) (text : List ℕ) → n < 16 → Is text → Is (hexadecimal n ∷ text)
with_digit n text h is = with_char (hexadecimal n) text (small_digit n h) (plain_digit n h) is

with_digits : (n : ℕ) (text : List ℕ) → Is text → Is (hexadecimals n ++ text)
with_digits n text is =
    with_digit (n / 4096 % 16) _ (omega arith) (with_digit (n / 256 % 16) _ (omega arith) (with_digit (n / 16 % 16) _ (omega arith) (with_digit (n % 16) text (omega arith) is)))

digits : (n : ℕ) → Is (hexadecimals n)
digits n = with_digits n [] nothing

escape_is : (c : ℕ) → Is (escape c)
escape_is c = at (c == 10) (c == 13) (c == 9) (nat_lt c 65536)
  where
    two : (n : ℕ) (text : List ℕ) → n < 128 → is_control n ≡ false → Is text → Is (92 ∷ n ∷ text)
    two n text low seen is = with_char 92 _ (omega arith) refl (with_char n text low seen is)

    at : (a b d e : Bool) → Is (if a then codes "\\n" else (if b then codes "\\r" else (if d then codes "\\t" else (if e then codes "\\u" ++ hexadecimals c else codes "\\U" ++ hexadecimals (c / 65536) ++ hexadecimals c))))
    at true b d e = two 110 [] (omega arith) refl nothing
    at false true d e = two 114 [] (omega arith) refl nothing
    at false false true e = two 116 [] (omega arith) refl nothing
    at false false false true = two 117 (hexadecimals c) (omega arith) refl (digits c)
    at false false false false = two 85 _ (omega arith) refl (with_digits (c / 65536) (hexadecimals c) (digits c))

-- ---- what stands for each character

as_bytes : (c : ℕ) → shown_char c ≡ encodes (shown_as c)
as_bytes c = at (is_invisible c)
  where
    at : (v : Bool) → (if v then escape c else encode c) ≡ encodes (if v then escape c else c ∷ [])
    at true = (escape_is c).bytes
    at false = sym (append-nil (encode c))

as_scalars : (c : ℕ) → scalar c ≡ true → scalars (shown_as c) ≡ true
as_scalars c h = at (is_invisible c)
  where
    at : (v : Bool) → scalars (if v then escape c else c ∷ []) ≡ true
    at true = (escape_is c).sound
    at false = ap (λ x. x && true) h

-- a character that is not invisible is no control character
left_false : (a b : Bool) → (a || b) ≡ false → a ≡ false
left_false true b e = e
left_false false b e = refl

as_plain : (c : ℕ) → list_any is_control (shown_as c) ≡ false
as_plain c = at (is_invisible c) refl
  where
    at : (v : Bool) → is_invisible c ≡ v → list_any is_control (if v then escape c else c ∷ []) ≡ false
    at true e = (escape_is c).plain
    at false e = ap (λ x. x || false) (left_false (is_control c) _ e)

-- ---- what stands for a text

all_bytes : (cs : List ℕ) → flat_map shown_char cs ≡ encodes (flat_map shown_as cs)
all_bytes [] = refl
all_bytes (c ∷ cs) =
    ap (λ l. l ++ flat_map shown_char cs) (as_bytes c) ∙ ap (λ l. encodes (shown_as c) ++ l) (all_bytes cs) ∙ sym (encodes-append (shown_as c) (flat_map shown_as cs))

first : (a b : Bool) → (a && b) ≡ true → a ≡ true
first true b e = refl
first false b e = e

second : (a b : Bool) → (a && b) ≡ true → b ≡ true
second true b e = e
second false true e = refl
second false false e = e

scalars_both : (xs ys : List ℕ) → scalars xs ≡ true → scalars ys ≡ true → scalars (xs ++ ys) ≡ true
scalars_both [] ys p q = q
scalars_both (x ∷ xs) ys p q =
    ap (λ v. v && scalars (xs ++ ys)) (first (scalar x) (scalars xs) p) ∙ scalars_both xs ys (second (scalar x) (scalars xs) p) q

all_scalars : (cs : List ℕ) → scalars cs ≡ true → scalars (flat_map shown_as cs) ≡ true
all_scalars [] h = refl
all_scalars (c ∷ cs) h =
    scalars_both (shown_as c) (flat_map shown_as cs) (as_scalars c (first (scalar c) (scalars cs) h)) (all_scalars cs (second (scalar c) (scalars cs) h))

all_plain : (cs : List ℕ) → list_any is_control (flat_map shown_as cs) ≡ false
all_plain [] = refl
all_plain (c ∷ cs) =
    list_any-append is_control (shown_as c) (flat_map shown_as cs) ∙ ap (λ v. v || list_any is_control (flat_map shown_as cs)) (as_plain c) ∙ all_plain cs

pub shown_plain : ShownIsPlain
shown_plain text u =
    ap (λ bs. list_any is_control (chars bs)) (all_bytes (chars text))
    ∙ ap (list_any is_control) (chars-encodes (flat_map shown_as (chars text)) (all_scalars (chars text) (scalars-chars text u)))
    ∙ all_plain (chars text)
