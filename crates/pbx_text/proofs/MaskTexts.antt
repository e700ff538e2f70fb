-- The paths of a mask text that is UTF-8 are UTF-8.
use Rattle.std.proofs.Common.{◌≡◌, ℕ, ◌+◌, ◌<◌, ◌≤◌, ◌==◌, ◌&&◌, nat_lt, List, [], ◌∷◌, ◌++◌, filter, Bool, true, false, if◌then◌else◌, Option, Some, None, option_map, option_and_then, Ok, refl, ap, sym, subst, append-nil, arith, inl, inr}
use Rattle.std.specs.Char.{encode_utf8, IsScalar}
use Rattle.std.specs.List.{AllByRecursion, flat_map, list_all, list_any, onto_first, slice_split}
use Rattle.std.specs.Str.{IsUtf8, is_utf8}
use Rattle.std.proofs.Math.Utf8.{scalar, scalars, encodes, low_scalar}
use Rattle.std.proofs.lemmas.Bool.{cases_Bool, eqb-true}
use Rattle.std.proofs.lemmas.Bool.Decides.{nat_tests}
use Rattle.std.proofs.lemmas.Grind.{flat_map-append}
use Rattle.std.proofs.lemmas.Str.{encode_ascii, IsUtf8-append, IsUtf8-encode, IsUtf8-from_is_utf8, IsUtf8-nil, is_utf8-from_IsUtf8}
use Rattle.pbx_text.specs.Decimal.{or_form}
use Rattle.pbx_text.specs.Mask.{each_of, filled_pieces, is_filled, is_upper, mask_of, mask_read, snake_char, snake_of}
use Rattle.pbx_text.proofs.Masks.{all_high, high_snake, is_high}

both : (a b : Bool) → (a && b) ≡ true → (a ≡ true) × (b ≡ true)
both true b h = (refl, h)
both false b h = cc h

one_utf8 : (c : ℕ) → c < 128 → IsUtf8 (c ∷ [])
one_utf8 c low = subst IsUtf8 (encode_ascii c low) (IsUtf8-encode c (low_scalar c (omega arith)))

-- ---- characters in snake_case

high_same : (ds : List ℕ) → list_all is_high ds ≡ true → flat_map snake_char ds ≡ ds
high_same [] h = refl
high_same (d ∷ ds) h =
    let it = both (is_high d) (list_all is_high ds) h in
    rw (high_snake d it.0, high_same ds it.1) refl

snake_of_ascii : (c : ℕ) → c < 128 → IsUtf8 (snake_char c)
snake_of_ascii c low = elim (cases_Bool (is_upper c)) [
  | inl h ↦
      let below : c + 32 < 128 = grind (arith, nat_tests, h) in
      rw h (IsUtf8-append (95 ∷ []) ((c + 32) ∷ []) (one_utf8 95 (omega arith)) (one_utf8 (c + 32) below))
  | inr h ↦ rw h (one_utf8 c low)
]

snake_of_char : (c : ℕ) → IsScalar c → IsUtf8 (flat_map snake_char (encode_utf8 c))
snake_of_char c s = elim (cases_Bool (nat_lt c 128)) [
  | inl h ↦
      let low : c < 128 = grind (arith, nat_tests, h) in
      rw (encode_ascii c low, append-nil (snake_char c)) (snake_of_ascii c low)
  | inr h ↦
      let past : 128 ≤ c = grind (arith, nat_tests, h) in
      rw (high_same (encode_utf8 c) (all_high c past)) (IsUtf8-encode c s)
]

snake_of_chars : (cs : List ℕ) → scalars cs ≡ true → IsUtf8 (flat_map snake_char (encodes cs))
snake_of_chars [] h = IsUtf8-nil
snake_of_chars (c ∷ cs) h =
    let it = both (scalar c) (scalars cs) h in
    rw (flat_map-append snake_char (encode_utf8 c) (encodes cs))
    (IsUtf8-append (flat_map snake_char (encode_utf8 c)) (flat_map snake_char (encodes cs)) (snake_of_char c it.0) (snake_of_chars cs it.1))

snake_utf8 : (part path : List ℕ) → IsUtf8 part → snake_of part ≡ Some path → IsUtf8 path
snake_utf8 part path u h = at (list_any (λ c. c == 95) part) h
  where
    whole : IsUtf8 (flat_map snake_char part)
    whole = subst (λ xs. IsUtf8 (flat_map snake_char xs)) u.1.1 (snake_of_chars u.0 u.1.0)

    at : (b : Bool) → (if b then None else Some (flat_map snake_char part)) ≡ Some path → IsUtf8 path
    at true k = cc k
    at false k = let same : flat_map snake_char part ≡ path = cc k in subst IsUtf8 same whole

-- ---- pieces between commas

abbrev AreUtf8 : List (List ℕ) → Type 0
AreUtf8 ps = AllByRecursion IsUtf8 ps

abbrev is_comma : ℕ → Bool
is_comma c = c == 44

abbrev pieces : List ℕ → List (List ℕ)
pieces text = slice_split is_comma text

-- the first piece, and the others
record Pieces (text : List ℕ) : Type 0 where
  first : List ℕ
  rest : List (List ℕ)
  are : pieces text ≡ first ∷ rest

some_pieces : (text : List ℕ) → Pieces text
some_pieces [] = record { first = []; rest = []; are = refl }
some_pieces (c ∷ cs) = elim (cases_Bool (is_comma c)) [
  | inl h ↦ record { first = []; rest = pieces cs; are = rw h refl }
  | inr h ↦ let it = some_pieces cs in record { first = c ∷ it.first; rest = it.rest; are = rw h (ap (onto_first c) it.are) }
]

-- bytes that are no comma stand before the first piece
put_before : (xs text first : List ℕ) (rest : List (List ℕ)) → list_any is_comma xs ≡ false → pieces text ≡ first ∷ rest
    → pieces (xs ++ text) ≡ (xs ++ first) ∷ rest
put_before [] text first rest h are = are
put_before (x ∷ xs) text first rest h are = elim (cases_Bool (is_comma x)) [
  | inl p ↦ cc (rw p at h)
  | inr p ↦ rw p (ap (onto_first x) (put_before xs text first rest (rw p at h) are))
]

high_no_comma : (ds : List ℕ) → list_all is_high ds ≡ true → list_any is_comma ds ≡ false
high_no_comma [] h = refl
high_no_comma (d ∷ ds) h =
    let it = both (is_high d) (list_all is_high ds) h in
    let other : (d == 44) ≡ false = (let p : is_high d ≡ true = it.0 in grind (arith, nat_tests, p)) in
    rw (other, high_no_comma ds it.1) refl

no_comma : (c : ℕ) → is_comma c ≡ false → list_any is_comma (encode_utf8 c) ≡ false
no_comma c other = elim (cases_Bool (nat_lt c 128)) [
  | inl h ↦
      let low : c < 128 = grind (arith, nat_tests, h) in
      rw (encode_ascii c low, other) refl
  | inr h ↦
      let past : 128 ≤ c = grind (arith, nat_tests, h) in
      high_no_comma (encode_utf8 c) (all_high c past)
]

pieces_utf8 : (cs : List ℕ) → scalars cs ≡ true → AreUtf8 (pieces (encodes cs))
pieces_utf8 [] h = (IsUtf8-nil, tt)
pieces_utf8 (c ∷ cs) h = at (is_comma c) refl (pieces_utf8 cs (both (scalar c) (scalars cs) h).1)
  where
    parts : (scalar c ≡ true) × (scalars cs ≡ true)
    parts = both (scalar c) (scalars cs) h

    it : Pieces (encodes cs)
    it = some_pieces (encodes cs)

    at : (b : Bool) → is_comma c ≡ b → AreUtf8 (pieces (encodes cs)) → AreUtf8 (pieces (encode_utf8 c ++ encodes cs))
    at true e more =
        let same : c ≡ 44 = eqb-true c 44 e in
        let whole : encode_utf8 c ++ encodes cs ≡ 44 ∷ encodes cs = rw (same, encode_ascii 44 (omega arith)) refl in
        subst (λ text. AreUtf8 (pieces text)) (sym whole) (IsUtf8-nil, more)
    at false e more =
        let own : AreUtf8 (it.first ∷ it.rest) = subst AreUtf8 it.are more in
        subst AreUtf8 (sym (put_before (encode_utf8 c) (encodes cs) it.first it.rest (no_comma c e) it.are))
        (IsUtf8-append (encode_utf8 c) it.first (IsUtf8-encode c parts.0) own.0, own.1)

filled_utf8 : (ps : List (List ℕ)) → AreUtf8 ps → AreUtf8 (filter is_filled ps)
filled_utf8 [] h = tt
filled_utf8 (p ∷ ps) h = elim (cases_Bool (is_filled p)) [
  | inl e ↦ rw e (h.0, filled_utf8 ps h.1)
  | inr e ↦ rw e (filled_utf8 ps h.1)
]

-- ---- paths

abbrev pub AreTexts : List (List ℕ) → Type 0
AreTexts ps = AllByRecursion (λ p. is_utf8 p ≡ true) ps

each_utf8 : (ps qs : List (List ℕ)) → AreUtf8 ps → each_of snake_of ps ≡ Some qs → AreTexts qs
each_utf8 [] qs u h = let same : [] ≡ qs = cc h in subst AreTexts same tt
each_utf8 (p ∷ ps) qs u h = at (snake_of p) refl (each_of snake_of ps) refl (λ rest e. each_utf8 ps rest u.1 e) h
  where
    at : (o : Option (List ℕ)) → snake_of p ≡ o → (r : Option (List (List ℕ))) → each_of snake_of ps ≡ r
        → ((rest : List (List ℕ)) → each_of snake_of ps ≡ Some rest → AreTexts rest)
        → option_and_then (λ q. option_map (λ rest. q ∷ rest) r) o ≡ Some qs → AreTexts qs
    at None e r f more k = cc k
    at (Some q) e None f more k = cc k
    at (Some q) e (Some rest) f more k =
        let same : q ∷ rest ≡ qs = cc k in
        subst AreTexts same (is_utf8-from_IsUtf8 q (snake_utf8 p q u.0 e), more rest f)

-- The paths that a mask text says are UTF-8, where the text is.
pub mask_texts : (text : List ℕ) (paths : List (List ℕ)) → is_utf8 text ≡ true → mask_read text ≡ Ok paths → AreTexts paths
unfolding mask_of
mask_texts text paths u h = at (each_of snake_of (filled_pieces text)) refl h
  where
    whole : AreUtf8 (pieces text)
    whole = let it = IsUtf8-from_is_utf8 text u in subst (λ xs. AreUtf8 (pieces xs)) it.1.1 (pieces_utf8 it.0 it.1.0)

    at : (o : Option (List (List ℕ))) → each_of snake_of (filled_pieces text) ≡ o → or_form o ≡ Ok paths → AreTexts paths
    at None e k = cc k
    at (Some ps) e k =
        let same : ps ≡ paths = cc k in
        subst AreTexts same (each_utf8 (filled_pieces text) ps (filled_utf8 (pieces text) whole) e)
