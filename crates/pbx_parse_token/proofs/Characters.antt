-- The first character of bytes.
use Rattle.std.proofs.Common.{◌≡◌, ℕ, ◌+◌, ◌<◌, true, List, [], ◌∷◌, ◌++◌, length, take, drop, get_or, refl, sym, ap, subst, ◌∙◌, arith}
use Rattle.std.specs.Str.{IsUtf8, continuation_len}
use Rattle.std.proofs.Math.ListN.{get_or-append}
use Rattle.std.proofs.lemmas.List.{take_at, drop_at, length-append, append-nil}
use Rattle.std.proofs.lemmas.Str.{IsUtf8-encode}
use Rattle.pbx_parse_token.proofs.Classes.{both}
use Rattle.std.proofs.lemmas.Bool.Decides.{nat_tests}
use lib.Utf8.{scalar, scalars, encode, encodes}

-- how long a character is, by its first byte
lead : (c d : ℕ) → length (encode c) ≡ 1 + continuation_len (get_or (encode c) 0 d)
unfolding encode
lead c d = grind (arith, nat_tests)

-- the first character of a text, and the text after it
record Begins (bs : List ℕ) : Type 0 where
  char : ℕ
  rest : List ℕ
  is : bs ≡ encode char ++ rest
  its : scalar char ≡ true
  text : IsUtf8 rest

begins : (bs : List ℕ) → 0 < length bs → IsUtf8 bs → Begins bs
begins bs some ([], (s, e)) = absurd (omega (arith, ap length e))
begins bs some (c ∷ cs, (s, e)) = let t = both (scalar c) (scalars cs) s in record { char = c; rest = encodes cs; is = sym e; its = t.0; text = (cs, (t.1, refl)) }

-- the first byte tells how long it is
begins_length : (front back : List ℕ) (c : ℕ) (rest : List ℕ) → 0 < length front → front ++ back ≡ encode c ++ rest → length (encode c) ≡ 1 + continuation_len (get_or front 0 0)
begins_length front back c rest some e =
    let n = lead c 0 in
    let here : get_or (front ++ back) 0 0 ≡ get_or front 0 0 = get_or-append front back 0 0 some in
    let there : get_or (encode c ++ rest) 0 0 ≡ get_or (encode c) 0 0 = get_or-append (encode c) rest 0 0 (omega (arith, n)) in
    n ∙ ap (λ b. 1 + continuation_len b) (sym there ∙ sym (ap (λ (bs : List ℕ). get_or bs 0 0) e) ∙ here)

-- a text is cut after its first character
after_first : (front back : List ℕ) → 0 < length front → length front ≡ 1 + continuation_len (get_or front 0 0) → IsUtf8 (front ++ back) → IsUtf8 front × IsUtf8 back
after_first front back some whole u =
    let b = begins (front ++ back) (omega (arith, length-append front back)) u in
    let n : length front ≡ length (encode b.char) = whole ∙ sym (begins_length front back b.char b.rest some b.is) in
    let first : front ≡ encode b.char = sym (take_at front back (length front) refl) ∙ ap (take (length front)) b.is ∙ take_at (encode b.char) b.rest (length front) (sym n) in
    let after : back ≡ b.rest = sym (drop_at front back (length front) refl) ∙ ap (drop (length front)) b.is ∙ drop_at (encode b.char) b.rest (length front) (sym n) in
    (subst IsUtf8 (sym first) (IsUtf8-encode b.char b.its), subst IsUtf8 (sym after) b.text)

pub cut_after : (front back : List ℕ) (b : ℕ) (bs : List ℕ) → front ++ back ≡ b ∷ bs → length front ≡ 1 + continuation_len b → IsUtf8 (b ∷ bs) → IsUtf8 front × IsUtf8 back
cut_after [] back b bs e n u = absurd (omega arith)
cut_after (a ∷ front) back b bs e n u =
    let same : a ≡ b = ap (λ (cs : List ℕ). get_or cs 0 0) e in
    after_first (a ∷ front) back (omega arith) (n ∙ ap (λ c. 1 + continuation_len c) (sym same)) (subst IsUtf8 (sym e) u)

-- a text holds its first character
pub too_short : (b : ℕ) (bs : List ℕ) → length bs < continuation_len b → IsUtf8 (b ∷ bs) → ⊥
too_short b bs short u =
    let c = begins (b ∷ bs) (omega arith) u in
    let n = begins_length (b ∷ bs) [] c.char c.rest (omega arith) (append-nil (b ∷ bs) ∙ c.is) in
    omega (arith, n, ap length c.is, length-append (encode c.char) c.rest)
