-- What is read as a piece is spelled so, and what is spelled so is read.
use Rattle.std.proofs.Common.{◌≡◌, ℕ, zero, suc, ◌+◌, ◌<◌, ◌≤◌, Bool, true, false, List, [], ◌∷◌, ◌++◌, length, take, drop, Option, Some, None, refl, sym, ap, subst, ◌∙◌, append_assoc, arith, not}
use Rattle.std.specs.List.{prefix_len}
use Rattle.std.specs.Prelude.{option_map, ◌==◌, ◌&&◌, ◌||◌}
use Rattle.std.proofs.lemmas.List.{take-append-drop, take_at, drop_at, length-take, length-append}
use Rattle.std.proofs.lemmas.List.Sums.{prefix_len-le-length}
use Rattle.std.proofs.lemmas.Bool.{eqb-true}
use Rattle.pbx_parse_token.specs.declared.run.Run.{Run}
use Rattle.pbx_parse_token.specs.declared.run.Run.TheVariants as runs
use Rattle.pbx_parse_token.specs.declared.piece.Class.{Class}
use Rattle.pbx_parse_token.specs.declared.piece.Class.TheVariants as classes
use Rattle.pbx_parse_token.specs.Bytes.{is_start, is_digit, is_break, passes, class_of}
use Rattle.pbx_parse_token.specs.Tokens.{Token}
use Rattle.pbx_parse_token.specs.Pieces.{Piece, blank, line, block, name, number, quoted, sign, piece_then, class_of_piece, Extent, FitsPiece, pieces_text, FitAll, tokens_from, origin, significant, Lexes}
use Rattle.pbx_parse_token.specs.Scan.{int_value, quoted_end, has_good_escapes, block_end, begins_slash, more, pieces_by, pieces_in, pieces_at, number_with, block_with, quoted_with, quoted_at, one_at, piece_by, piece_at}
use Rattle.pbx_parse_token.proofs.Options.{done, some_is, map_some, mapped}
use Rattle.pbx_parse_token.proofs.Integers.{to_integer, from_integer}
use Rattle.pbx_parse_token.proofs.Strings.{to_string, from_string}
use Rattle.pbx_parse_token.proofs.Comments.{slash_is, no_end, first_end}
use Rattle.pbx_parse_token.proofs.Classes.{first_of, quote_of, line_is, block_is, first_start, first_digit, by_test, both}

pub at_end : (P : Piece → List ℕ → Type 0) (p : Piece) (rest : List ℕ) (y : Piece × List ℕ) → done (p, rest) ≡ Some y → P p rest → P y.0 y.1
at_end P p rest y e h = subst (λ z. P z.0 z.1) (some_is (p, rest) y e) h

abbrev Taken : List ℕ → Piece → List ℕ → Type 0
Taken bytes p rest = (bytes ≡ piece_then p rest) × FitsPiece p rest

-- a front of a list
module _ (bytes : List ℕ) (n : ℕ) (le : n ≤ length bytes) where
  pub front_length : length (take n bytes) ≡ n
  front_length = omega (arith, length-take n bytes)

-- class of the bytes, as they are spelled
spelled : (bytes : List ℕ) (p : Piece) (rest : List ℕ) → bytes ≡ piece_then p rest → class_of bytes ≡ class_of_piece p → Extent p rest → Taken bytes p rest
spelled bytes p rest e k x = (e, record { «class» = ap class_of (sym e) ∙ k; extent = x })

one_takes : (make : ℕ → Piece) (k : Class) → ((b : ℕ) → class_of_piece (make b) ≡ k) → ((b : ℕ) (rest : List ℕ) → piece_then (make b) rest ≡ b ∷ rest) → ((b : ℕ) (rest : List ℕ) → Extent (make b) rest)
    → (bytes : List ℕ) (x : Piece × List ℕ) → class_of bytes ≡ k → one_at make bytes ≡ Some x → Taken bytes x.0 x.1
one_takes make k kind text fit [] x h e = absurd cc
one_takes make k kind text fit (b ∷ bytes) x h e = at_end (Taken (b ∷ bytes)) (make b) bytes x e (spelled (b ∷ bytes) (make b) bytes (sym (text b bytes)) (h ∙ sym (kind b)) (fit b bytes))

name_takes : (bytes : List ℕ) (x : Piece × List ℕ) → class_of bytes ≡ classes.Identifier → piece_by classes.Identifier bytes ≡ Some x → Taken bytes x.0 x.1
name_takes bytes x h e =
    let n = prefix_len (passes runs.Identifier) bytes in
    let le = prefix_len-le-length (passes runs.Identifier) bytes in
    let whole = take-append-drop n bytes in
    at_end (Taken bytes) (name (take n bytes)) (drop n bytes) x e
    (spelled bytes (name (take n bytes)) (drop n bytes) (sym whole) h (ap (prefix_len (passes runs.Identifier)) whole ∙ sym (front_length bytes n le)))

line_takes : (bytes : List ℕ) (x : Piece × List ℕ) → class_of bytes ≡ classes.Line → piece_by classes.Line bytes ≡ Some x → Taken bytes x.0 x.1
line_takes bytes x h e =
    let d = drop 2 bytes in
    let n = prefix_len (passes runs.Line) d in
    let le = prefix_len-le-length (passes runs.Line) d in
    let whole = take-append-drop n d in
    at_end (Taken bytes) (line (take n d)) (drop n d) x e
    (spelled bytes (line (take n d)) (drop n d) (line_is bytes h ∙ ap (λ (r : List ℕ). 47 ∷ 47 ∷ r) (sym whole)) h (ap (prefix_len (passes runs.Line)) whole ∙ sym (front_length d n le)))

number_with_takes : (o : Option ℕ) (n : ℕ) (bytes : List ℕ) (x : Piece × List ℕ) → n ≤ length bytes → n ≡ prefix_len (passes runs.Number) bytes → int_value (take n bytes) ≡ o → class_of bytes ≡ classes.Number → number_with o n bytes ≡ Some x → Taken bytes x.0 x.1
number_with_takes None n bytes x le is v h e = absurd cc
number_with_takes (Some k) n bytes x le is v h e =
    let whole = take-append-drop n bytes in
    at_end (Taken bytes) (number (take n bytes) k) (drop n bytes) x e
    (spelled bytes (number (take n bytes) k) (drop n bytes) (sym whole) h (ap (prefix_len (passes runs.Number)) whole ∙ sym is ∙ sym (front_length bytes n le), to_integer (take n bytes) k v))

-- a `*/` that was found stands there
one_more : (a : ℕ) (bs gap : List ℕ) (m g : ℕ) → m ≤ length bs → bs ≡ take m bs ++ (gap ++ drop (m + g) bs) → (suc m ≤ length (a ∷ bs)) × (a ∷ bs ≡ take (suc m) (a ∷ bs) ++ (gap ++ drop (suc m + g) (a ∷ bs)))
one_more a bs gap m g le is =
    let k : suc m + g ≡ suc (m + g) = omega arith in
    (omega arith, rw k (ap (λ (r : List ℕ). a ∷ r) is))

block_found : (bytes : List ℕ) (n : ℕ) → block_end bytes ≡ Some n → (n ≤ length bytes) × (bytes ≡ take n bytes ++ (42 ∷ 47 ∷ drop (n + 2) bytes))
unfolding block_end
block_found [] n e = absurd cc
block_found (a ∷ bs) n e =
    by_test ((a == 42) && begins_slash bs) (Some 0) (option_map (λ k. 1 + k) (block_end bs)) (Some n) e
    (λ p q. let t = both (a == 42) (begins_slash bs) p in
    let zero_is : 0 ≡ n = some_is 0 n q in
    let here : a ∷ bs ≡ 42 ∷ 47 ∷ drop 1 bs = ap (λ (x : ℕ). x ∷ bs) (eqb-true a 42 t.0) ∙ ap (λ (r : List ℕ). 42 ∷ r) (slash_is bs t.1) in
    subst (λ k. (k ≤ length (a ∷ bs)) × (a ∷ bs ≡ take k (a ∷ bs) ++ (42 ∷ 47 ∷ drop (k + 2) (a ∷ bs)))) zero_is (omega arith, here))
    (λ p q. let m = map_some (block_end bs) n q in
    let ih = block_found bs m.0 m.1 in
    subst (λ k. (k ≤ length (a ∷ bs)) × (a ∷ bs ≡ take k (a ∷ bs) ++ (42 ∷ 47 ∷ drop (k + 2) (a ∷ bs)))) m.2 (one_more a bs (42 ∷ 47 ∷ []) m.0 2 ih.0 ih.1))

pub quoted_found : (q : ℕ) (escaped : Bool) (bytes : List ℕ) (n : ℕ) → quoted_end q escaped bytes ≡ Some n → (n ≤ length bytes) × (bytes ≡ take n bytes ++ (q ∷ drop (n + 1) bytes))
unfolding quoted_end
quoted_found q escaped [] n e = absurd cc
quoted_found q escaped (a ∷ bs) n e =
    let P : ℕ → Type 0 = λ k. (k ≤ length (a ∷ bs)) × (a ∷ bs ≡ take k (a ∷ bs) ++ (q ∷ drop (k + 1) (a ∷ bs))) in
    let others = quoted_end q ((a == 92) && not escaped) bs in
    by_test ((a == q) && not escaped) (Some 0) _ (Some n) e
    (λ p h. let t = both (a == q) (not escaped) p in subst P (some_is 0 n h) (omega arith, ap (λ (x : ℕ). x ∷ bs) (eqb-true a q t.0)))
    (λ p h. by_test (is_break a) None (option_map (λ k. 1 + k) others) (Some n) h
    (λ p2 h2. absurd cc)
    (λ p2 h2. let m = map_some others n h2 in
    let ih = quoted_found q ((a == 92) && not escaped) bs m.0 m.1 in
    subst P m.2 (one_more a bs (q ∷ []) m.0 1 ih.0 ih.1)))

block_with_takes : (o : Option ℕ) (bytes : List ℕ) (x : Piece × List ℕ) → block_end (drop 2 bytes) ≡ o → class_of bytes ≡ classes.Block → block_with o (drop 2 bytes) ≡ Some x → Taken bytes x.0 x.1
block_with_takes None bytes x is h e = absurd cc
block_with_takes (Some n) bytes x is h e =
    let d = drop 2 bytes in
    let f = block_found d n is in
    at_end (Taken bytes) (block (take n d)) (drop (n + 2) d) x e
    (spelled bytes (block (take n d)) (drop (n + 2) d) (block_is bytes h ∙ ap (λ (r : List ℕ). 47 ∷ 42 ∷ r) f.1) h (no_end (take n d) (drop (n + 2) d) (ap block_end (sym f.1) ∙ is ∙ ap done (sym (front_length d n f.0)))))

quoted_with_takes : (q : ℕ) (o : Option ℕ) (bytes : List ℕ) (x : Piece × List ℕ) → quoted_end q false bytes ≡ o → class_of (q ∷ bytes) ≡ classes.Quote → quoted_with q o bytes ≡ Some x → Taken (q ∷ bytes) x.0 x.1
quoted_with_takes q None bytes x is h e = absurd cc
quoted_with_takes q (Some n) bytes x is h e =
    let f = quoted_found q false bytes n is in
    by_test (has_good_escapes (take n bytes)) (done (quoted q (take n bytes), drop (n + 1) bytes)) None (Some x) e
    (λ good e2. at_end (Taken (q ∷ bytes)) (quoted q (take n bytes)) (drop (n + 1) bytes) x e2
    (spelled (q ∷ bytes) (quoted q (take n bytes)) (drop (n + 1) bytes) (ap (λ (r : List ℕ). q ∷ r) f.1) h (to_string q (quote_of q bytes h) (take n bytes) (drop (n + 1) bytes) (ap (quoted_end q false) (sym f.1) ∙ is ∙ ap done (sym (front_length bytes n f.0))) good)))
    (λ bad e2. absurd cc)

pub quoted_at_takes : (bytes : List ℕ) (x : Piece × List ℕ) → class_of bytes ≡ classes.Quote → quoted_at bytes ≡ Some x → Taken bytes x.0 x.1
quoted_at_takes [] x h e = absurd cc
quoted_at_takes (q ∷ bytes) x h e = quoted_with_takes q (quoted_end q false bytes) bytes x refl h e

by_takes : (k : Class) (bytes : List ℕ) (x : Piece × List ℕ) → class_of bytes ≡ k → piece_by k bytes ≡ Some x → Taken bytes x.0 x.1
by_takes classes.Blank bytes x h e = one_takes blank classes.Blank (λ b. refl) (λ b rest. refl) (λ b rest. tt) bytes x h e
by_takes classes.Line bytes x h e = line_takes bytes x h e
by_takes classes.Block bytes x h e = block_with_takes (block_end (drop 2 bytes)) bytes x refl h e
by_takes classes.Identifier bytes x h e = name_takes bytes x h e
by_takes classes.Number bytes x h e =
    let n = prefix_len (passes runs.Number) bytes in
    number_with_takes (int_value (take n bytes)) n bytes x (prefix_len-le-length (passes runs.Number) bytes) refl refl h e
by_takes classes.Quote bytes x h e = quoted_at_takes bytes x h e
by_takes classes.Mark bytes x h e = one_takes sign classes.Mark (λ b. refl) (λ b rest. refl) (λ b rest. tt) bytes x h e
by_takes classes.Bad bytes x h e = absurd cc

pub piece_takes : (bytes : List ℕ) (x : Piece × List ℕ) → piece_at bytes ≡ Some x → (bytes ≡ piece_then x.0 x.1) × FitsPiece x.0 x.1
unfolding piece_at
piece_takes bytes x e = by_takes (class_of bytes) bytes x refl e

-- ---- what is spelled so is read

past : (t gap rest : List ℕ) → drop (length t + length gap) (t ++ (gap ++ rest)) ≡ rest
past t gap rest = ap (drop (length t + length gap)) (sym (append_assoc t gap rest)) ∙ drop_at (t ++ gap) rest (length t + length gap) (length-append t gap)

by_again : (p : Piece) (rest : List ℕ) → FitsPiece p rest → piece_by (class_of_piece p) (piece_then p rest) ≡ Some (p, rest)
by_again (blank b) rest x = refl
by_again (line t) rest x = rw (x.extent, take_at t rest (length t) refl, drop_at t rest (length t) refl) refl
by_again (block t) rest x = rw (first_end t rest x.extent) (rw (take_at t (42 ∷ 47 ∷ rest) (length t) refl) (ap (λ r. done (block t, r)) (past t (42 ∷ 47 ∷ []) rest)))
by_again (name t) rest x = rw (x.extent, take_at t rest (length t) refl, drop_at t rest (length t) refl) refl
by_again (number t n) rest x =
    let tk = take_at t rest (length t) refl in
    ap (λ k. number_with (int_value (take k (t ++ rest))) k (t ++ rest)) x.extent.0
    ∙ ap (λ o. number_with o (length t) (t ++ rest)) (ap int_value tk ∙ from_integer t n x.extent.1)
    ∙ ap (λ (s : List ℕ). done (number s n, drop (length t) (t ++ rest))) tk
    ∙ ap (λ (r : List ℕ). done (number t n, r)) (drop_at t rest (length t) refl)
by_again (quoted q t) rest x =
    let read = from_string q (quote_of q (t ++ (q ∷ rest)) x.class) t rest x.extent in
    rw (read.0) (rw (take_at t (q ∷ rest) (length t) refl) (rw (read.1) (ap (λ r. done (quoted q t, r)) (past t (q ∷ []) rest))))
by_again (sign b) rest x = refl

pub piece_again : (p : Piece) (rest : List ℕ) → FitsPiece p rest → piece_at (piece_then p rest) ≡ Some (p, rest)
unfolding piece_at
piece_again p rest fits = ap (λ k. piece_by k (piece_then p rest)) fits.class ∙ by_again p rest fits

-- ---- a piece is not empty

positive : (run : Run) (bytes : List ℕ) (b : ℕ) (r : List ℕ) → bytes ≡ b ∷ r → passes run b ≡ true → 0 < prefix_len (passes run) bytes
positive run bytes b r e h = subst (λ (s : List ℕ). 0 < prefix_len (passes run) s) (sym e) (rw h (omega arith))

or_true : (a b : Bool) → b ≡ true → (a || b) ≡ true
or_true true b e = refl
or_true false b e = e

true_or : (a b : Bool) → a ≡ true → (a || b) ≡ true
true_or true b e = refl
true_or false b e = absurd cc

pub identifier_runs : (bytes : List ℕ) → class_of bytes ≡ classes.Identifier → 0 < prefix_len (passes runs.Identifier) bytes
identifier_runs bytes e =
    let f = first_of bytes classes.Identifier tt (λ h. absurd cc) e in
    positive runs.Identifier bytes f.byte f.rest f.is (true_or (is_start f.byte) (is_digit f.byte) (first_start f.byte f.its))

pub piece_longer : (p : Piece) (rest : List ℕ) → FitsPiece p rest → length rest < length (piece_then p rest)
piece_longer (blank b) rest fits = omega arith
piece_longer (line t) rest fits = omega (arith, length-append t rest)
piece_longer (block t) rest fits = omega (arith, length-append t (42 ∷ 47 ∷ rest))
piece_longer (name t) rest fits =
    let f = first_of (t ++ rest) classes.Identifier tt (λ h. absurd cc) fits.class in
    omega (arith, length-append t rest, fits.extent, positive runs.Identifier (t ++ rest) f.byte f.rest f.is (true_or (is_start f.byte) (is_digit f.byte) (first_start f.byte f.its)))
piece_longer (number t n) rest fits =
    let f = first_of (t ++ rest) classes.Number tt (λ h. absurd cc) fits.class in
    omega (arith, length-append t rest, fits.extent.0, positive runs.Number (t ++ rest) f.byte f.rest f.is (true_or (is_start f.byte || is_digit f.byte) (f.byte == 46) (or_true (is_start f.byte) (is_digit f.byte) (first_digit f.byte f.its))))
piece_longer (quoted q t) rest fits = omega (arith, length-append t (q ∷ rest))
piece_longer (sign b) rest fits = omega arith

-- ---- all pieces

pub more_takes : (o : Option (Piece × List ℕ)) (self : List ℕ → Option (List Piece)) (ps : List Piece) → more o self ≡ Some ps → (x : Piece × List ℕ) × (qs : List Piece) × (o ≡ Some x) × (self x.1 ≡ Some qs) × (x.0 ∷ qs ≡ ps)
more_takes None self ps e = absurd cc
more_takes (Some x) self ps e = let m = mapped (λ qs. x.0 ∷ qs) (self x.1) ps e in (x, m.0, refl, m.1, m.2)

pub in_takes : (n : ℕ) (bytes : List ℕ) (ps : List Piece) → pieces_in n bytes ≡ Some ps → FitAll ps × (bytes ≡ pieces_text ps)
unfolding pieces_in
in_takes zero bytes ps e = absurd cc
in_takes (suc n) [] ps e = subst (λ (qs : List Piece). FitAll qs × ([] ≡ pieces_text qs)) (some_is [] ps e) (tt, refl)
in_takes (suc n) (b ∷ bs) ps e =
    let m = more_takes (piece_at (b ∷ bs)) (λ us. pieces_in n us) ps e in
    let first = piece_takes (b ∷ bs) m.0 m.2 in
    let rest = in_takes n m.0.1 m.1 m.3 in
    let fits : FitsPiece m.0.0 (pieces_text m.1) = subst (FitsPiece m.0.0) rest.1 first.1 in
    subst (λ (qs : List Piece). FitAll qs × (b ∷ bs ≡ pieces_text qs)) m.4 ((fits, rest.0), first.0 ∙ ap (piece_then m.0.0) rest.1)

by_nonempty : (self : List ℕ → Option (List Piece)) (bytes : List ℕ) → 0 < length bytes → pieces_by self bytes ≡ more (piece_at bytes) self
by_nonempty self [] lt = absurd (omega arith)
by_nonempty self (b ∷ bs) lt = refl

pub in_again : (n : ℕ) (ps : List Piece) → FitAll ps → length (pieces_text ps) < n → pieces_in n (pieces_text ps) ≡ Some ps
unfolding pieces_in
in_again zero ps fits lt = absurd (omega arith)
in_again (suc n) [] fits lt = refl
in_again (suc n) (p ∷ ps) fits lt =
    let rest = pieces_text ps in
    let longer = piece_longer p rest fits.0 in
    let again : pieces_in n rest ≡ Some ps = in_again n ps fits.1 (omega (arith, longer, lt)) in
    by_nonempty (λ us. pieces_in n us) (piece_then p rest) (omega (arith, longer)) ∙ rw (piece_again p rest fits.0, again) refl

more_same : (o : Option (Piece × List ℕ)) (self other : List ℕ → Option (List Piece)) → ((x : Piece × List ℕ) → o ≡ Some x → self x.1 ≡ other x.1) → more o self ≡ more o other
more_same None self other h = refl
more_same (Some x) self other h = ap (option_map (λ ps. x.0 ∷ ps)) (h x refl)

pub shorter : (bytes : List ℕ) (x : Piece × List ℕ) → piece_at bytes ≡ Some x → length x.1 < length bytes
shorter bytes x e = let t = piece_takes bytes x e in omega (arith, piece_longer x.0 x.1 t.1, ap length t.0)

in_same : (n m : ℕ) (bytes : List ℕ) → length bytes < n → length bytes < m → pieces_in n bytes ≡ pieces_in m bytes
unfolding pieces_in
in_same zero m bytes p q = absurd (omega arith)
in_same (suc n) zero bytes p q = absurd (omega arith)
in_same (suc n) (suc m) [] p q = refl
in_same (suc n) (suc m) (b ∷ bs) p q = more_same (piece_at (b ∷ bs)) (λ us. pieces_in n us) (λ us. pieces_in m us) (λ x e. let s = shorter (b ∷ bs) x e in in_same n m x.1 (omega arith) (omega arith))

pub pieces_step : (bytes : List ℕ) → 0 < length bytes → pieces_at bytes ≡ more (piece_at bytes) pieces_at
unfolding pieces_at pieces_in
pieces_step bytes lt = by_nonempty (λ us. pieces_in (length bytes) us) bytes lt ∙ more_same (piece_at bytes) (λ us. pieces_in (length bytes) us) pieces_at (λ x e. let s = shorter bytes x e in in_same (length bytes) (suc (length x.1)) x.1 s (omega arith))

-- the tokens of pieces
abbrev pub tokens_in : List Piece → List Token
tokens_in ps = significant (tokens_from origin ps)

pub all_takes : (source : List ℕ) (ts : List Token) → option_map tokens_in (pieces_at source) ≡ Some ts → Lexes source ts
unfolding pieces_at
all_takes source ts e =
    let m = mapped tokens_in (pieces_in (suc (length source)) source) ts e in
    let t = in_takes (suc (length source)) source m.0 m.1 in
    (m.0, t.0, t.1, sym m.2)

pub all_again : (source : List ℕ) (ts : List Token) → Lexes source ts → option_map tokens_in (pieces_at source) ≡ Some ts
unfolding pieces_at
all_again source ts h =
    let one : pieces_in (suc (length source)) source ≡ Some h.0 = ap (λ (s : List ℕ). pieces_in (suc (length s)) s) h.2 ∙ in_again (suc (length (pieces_text h.0))) h.0 h.1 (omega arith) in
    ap (option_map tokens_in) one ∙ ap done (sym h.3)

pub one_list : (source : List ℕ) (a b : List Token) → Lexes source a → Lexes source b → a ≡ b
one_list source a b p q = some_is a b (sym (all_again source a p) ∙ all_again source b q)

pub pieces_none : pieces_at [] ≡ Some []
unfolding pieces_at pieces_in
pieces_none = refl
