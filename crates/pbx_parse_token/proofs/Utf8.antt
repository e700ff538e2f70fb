-- What follows a piece of a text is a text, and so is what stands between quotes.
use Rattle.std.proofs.Common.{◌≡◌, ℕ, suc, ◌+◌, ◌-◌, ◌<◌, true, false, List, [], ◌∷◌, ◌++◌, length, take, drop, get_or, ◌≢◌, Some, refl, sym, ap, subst, ◌∙◌, arith}
use Rattle.std.specs.List.{prefix_len}
use Rattle.std.specs.Str.{IsUtf8, IsCharBoundary}
use Rattle.std.specs.Prelude.{Option, ◌==◌, ◌||◌}
use Rattle.std.proofs.lemmas.List.{take_all, take_at, drop_at, length-append}
use Rattle.std.proofs.lemmas.List.Sums.{prefix_len_stops}
use Rattle.std.proofs.Math.Seq.{get_or-append_seam}
use Rattle.std.proofs.lemmas.Str.{IsUtf8-nil, IsUtf8-take, IsUtf8-drop, IsCharBoundary-before_ascii, IsCharBoundary-after_ascii}
use Rattle.pbx_parse_token.specs.declared.run.Run.{Run}
use Rattle.pbx_parse_token.specs.declared.run.Run.TheVariants as runs
use Rattle.pbx_parse_token.specs.declared.piece.Class.{Class}
use Rattle.pbx_parse_token.specs.declared.piece.Class.TheVariants as classes
use Rattle.pbx_parse_token.specs.Bytes.{is_blank, is_start, is_digit, is_mark, passes, class_of, first_class_of}
use Rattle.pbx_parse_token.specs.Tokens.{Word}
use Rattle.pbx_parse_token.specs.Pieces.{Piece, blank, line, block, name, number, quoted, sign, piece_then, FitsPiece}
use Rattle.pbx_parse_token.specs.Scan.{quoted_end, piece_at, kept}
use Rattle.pbx_parse_token.proofs.Ascii.{identifier_byte}
use Rattle.pbx_parse_token.proofs.Classes.{NoComment, first_of, by_test}
use Rattle.pbx_parse_token.proofs.Laws.{piece_takes, quoted_found}
use Rattle.pbx_parse_token.proofs.Steps.{kept_is}

-- ---- bytes that are ASCII

blank_byte : (b : ℕ) → is_blank b ≡ true → b < 128
blank_byte b e = grind arith

number_byte : (b : ℕ) → passes runs.Number b ≡ true → b < 128
number_byte b e = grind arith

start_byte : (b : ℕ) → is_start b ≡ true → b < 128
start_byte b e = grind arith

digit_byte : (b : ℕ) → is_digit b ≡ true → b < 128
digit_byte b e = grind arith

quote_byte : (b : ℕ) → ((b == 34) || (b == 39)) ≡ true → b < 128
quote_byte b e = grind arith

mark_byte : (b : ℕ) → is_mark b ≡ true → b < 128
mark_byte b e = grind arith

line_end_byte : (b : ℕ) → passes runs.Line b ≡ false → b < 128
line_end_byte b e = grind arith

-- a byte that begins something
first_byte : (b : ℕ) (k : Class) → first_class_of b ≡ k → classes.Bad ≢ k → b < 128
first_byte b k e bad =
    by_test (is_blank b) classes.Blank _ k e (λ p q. blank_byte b p) (λ p q.
    by_test (is_start b) classes.Identifier _ k q (λ p2 q2. start_byte b p2) (λ p2 q2.
    by_test (is_digit b) classes.Number _ k q2 (λ p3 q3. digit_byte b p3) (λ p3 q3.
    by_test ((b == 34) || (b == 39)) classes.Quote _ k q3 (λ p4 q4. quote_byte b p4) (λ p4 q4.
    by_test (is_mark b) classes.Mark classes.Bad k q4 (λ p5 q5. mark_byte b p5) (λ p5 q5. absurd (bad q5))))))

-- ---- where a text may be cut

-- a text is cut before a byte that is ASCII
pub cut : (front : List ℕ) (b : ℕ) (rest : List ℕ) → b < 128 → IsUtf8 (front ++ b ∷ rest) → IsUtf8 front × IsUtf8 (b ∷ rest)
cut front b rest small u =
    let bs = front ++ b ∷ rest in
    let there : get_or bs (length front) 0 ≡ b = get_or-append_seam front b rest 0 in
    let at : IsCharBoundary bs (length front) = IsCharBoundary-before_ascii bs (length front) (omega (arith, length-append front (b ∷ rest))) (rw there small) in (
      subst IsUtf8 (take_at front (b ∷ rest) (length front) refl) (IsUtf8-take bs (length front) u at),
      subst IsUtf8 (drop_at front (b ∷ rest) (length front) refl) (IsUtf8-drop bs (length front) u at),
    )

-- and behind it
pub behind : (b : ℕ) (rest : List ℕ) → b < 128 → IsUtf8 (b ∷ rest) → IsUtf8 rest
behind b rest small u = IsUtf8-drop (b ∷ rest) 1 u (IsCharBoundary-after_ascii (b ∷ rest) 0 u (omega arith) small)

after_mark : (front : List ℕ) (b : ℕ) (rest : List ℕ) → b < 128 → IsUtf8 (front ++ b ∷ rest) → IsUtf8 rest
after_mark front b rest small u = behind b rest small (cut front b rest small u).1

after_run : (run : Run) (t rest : List ℕ) → ((b : ℕ) → passes run b ≡ true → b < 128) → prefix_len (passes run) (t ++ rest) ≡ length t → IsUtf8 (t ++ rest) → IsUtf8 rest
after_run run [] rest small e u = u
after_run run (a ∷ t) rest small e u =
    by_test (passes run a) (1 + prefix_len (passes run) (t ++ rest)) 0 (suc (length t)) e
    (λ p q. after_run run t rest small (omega arith) (behind a (t ++ rest) (small a p) u))
    (λ p q. absurd (omega arith))

-- what a line stops at
stops : (t : List ℕ) (b : ℕ) (rest : List ℕ) → prefix_len (passes runs.Line) (t ++ b ∷ rest) ≡ length t → passes runs.Line b ≡ false
stops t b rest e =
    let bs = t ++ b ∷ rest in
    let at : get_or bs (prefix_len (passes runs.Line) bs) 0 ≡ b = ap (λ (n : ℕ). get_or bs n 0) e ∙ get_or-append_seam t b rest 0 in
    sym (ap (passes runs.Line) at) ∙ prefix_len_stops (passes runs.Line) bs 0 (omega (arith, e, length-append t (b ∷ rest)))

after_line : (t rest : List ℕ) → prefix_len (passes runs.Line) (t ++ rest) ≡ length t → IsUtf8 (t ++ rest) → IsUtf8 rest
after_line t [] e u = IsUtf8-nil
after_line t (b ∷ rest) e u = (cut t b rest (line_end_byte b (stops t b rest e)) u).1

-- ---- pieces

pub first_small : (b : ℕ) (bs : List ℕ) (k : Class) → NoComment k → classes.Bad ≢ k → class_of (b ∷ bs) ≡ k → b < 128
first_small b bs k n bad e =
    let f = first_of (b ∷ bs) k n bad e in
    let same : b ≡ f.byte = cc in
    rw same (first_byte f.byte k f.its bad)

after_piece : (p : Piece) (rest : List ℕ) → FitsPiece p rest → IsUtf8 (piece_then p rest) → IsUtf8 rest
after_piece (blank b) rest fits u = behind b rest (first_small b rest classes.Blank tt (λ h. absurd cc) fits.class) u
after_piece (line t) rest fits u = after_line t rest fits.extent (behind 47 (t ++ rest) (omega arith) (behind 47 (47 ∷ (t ++ rest)) (omega arith) u))
after_piece (block t) rest fits u =
    let more = t ++ (42 ∷ 47 ∷ rest) in
    behind 47 rest (omega arith) (after_mark t 42 (47 ∷ rest) (omega arith) (behind 42 more (omega arith) (behind 47 (42 ∷ more) (omega arith) u)))
after_piece (name t) rest fits u = after_run runs.Identifier t rest identifier_byte fits.extent u
after_piece (number t n) rest fits u = after_run runs.Number t rest number_byte fits.extent.0 u
after_piece (quoted q t) rest fits u =
    let small = first_small q (t ++ (q ∷ rest)) classes.Quote tt (λ h. absurd cc) fits.class in
    after_mark t q rest small (behind q (t ++ (q ∷ rest)) small u)
after_piece (sign b) rest fits u = behind b rest (first_small b rest classes.Mark tt (λ h. absurd cc) fits.class) u

pub next_text : (bytes next : List ℕ) (w : Option Word) → kept (piece_at bytes) ≡ Some (w, next) → IsUtf8 bytes → IsUtf8 next
next_text bytes next w e u =
    let k = kept_is (piece_at bytes) (w, next) e in
    let t = piece_takes bytes (k.0, next) k.1 in
    after_piece k.0 next t.1 (subst IsUtf8 t.0 u)

quoted_front : (q : ℕ) (bytes : List ℕ) (n : ℕ) → class_of (q ∷ bytes) ≡ classes.Quote → quoted_end q false bytes ≡ Some n → IsUtf8 (q ∷ bytes) → IsUtf8 (take n bytes)
quoted_front q bytes n e found u =
    let small = first_small q bytes classes.Quote tt (λ h. absurd cc) e in
    let parts = quoted_found q false bytes n found in
    (cut (take n bytes) q (drop (n + 1) bytes) small (subst IsUtf8 parts.1 (behind q bytes small u))).0

-- what stands between quotes, as the code slices it
pub quoted_text : (bytes : List ℕ) (n : ℕ) → class_of bytes ≡ classes.Quote → quoted_end (get_or bytes 0 0) false (take (length bytes - 1) (drop 1 bytes)) ≡ Some n → IsUtf8 bytes → IsUtf8 (take n (take (length bytes - 1) (drop 1 bytes)))
quoted_text [] n e found u = absurd cc
quoted_text (q ∷ bytes) n e found u =
    let whole : take (length (q ∷ bytes) - 1) bytes ≡ bytes = take_all (length (q ∷ bytes) - 1) bytes (omega arith) in
    subst (λ (t : List ℕ). IsUtf8 (take n t)) (sym whole) (quoted_front q bytes n e (ap (quoted_end q false) (sym whole) ∙ found) u)
