-- How a source is taken apart, from its first byte on: what the code follows, beside what `Lexes` says. No public clause
-- comes here: these are words for contracts of private functions.
use Rattle.std.specs.Prelude.{◌≡◌, ℕ, zero, suc, ◌+◌, ◌*◌, ◌^◌, ◌==◌, ◌||◌, nat_lt, List, [], ◌∷◌, ◌++◌, length, take, drop, Bool, true, false, ◌&&◌, Option, Some, None, is_none, option_map, Result, Ok, Err, if◌then◌else◌, not}
use Rattle.std.specs.List.{prefix_len}
use Rattle.pbx_parse_token.specs.declared.run.Run.TheVariants as runs
use Rattle.pbx_parse_token.specs.declared.piece.LexError.{LexError}
use Rattle.pbx_parse_token.specs.declared.piece.LexError.TheVariants as errors
use Rattle.pbx_parse_token.specs.declared.piece.Class.{Class}
use Rattle.pbx_parse_token.specs.declared.piece.Class.TheVariants as classes
use Rattle.pbx_parse_token.specs.Bytes.{passes, is_break, digit_of, class_of}
use Rattle.pbx_parse_token.specs.Escapes.{escape_at, first_at}
use Rattle.pbx_parse_token.specs.declared.token.Place.{Place}
use Rattle.pbx_parse_token.specs.Tokens.{Word, Token}
use Rattle.pbx_parse_token.specs.Pieces.{Piece, blank, line, block, name, number, quoted, sign, word_of_piece, is_semicolon, significant, token_before}

-- ---- integers

-- the value of digits after a front of that value
unfoldable pub digits_from : ℕ → ℕ → List ℕ → Option ℕ
digits_from base n [] = Some n
digits_from base n (b ∷ bs) = if nat_lt (digit_of b) base && nat_lt (n * base + digit_of b) (2 ^ 64)
    then digits_from base (n * base + digit_of b) bs else None

abbrev pub hexadecimal : List ℕ → Option ℕ
hexadecimal [] = None
hexadecimal (b ∷ bs) = digits_from 16 0 (b ∷ bs)

abbrev pub after_zero : List ℕ → Option ℕ
after_zero [] = Some 0
after_zero (x ∷ bs) = if (x == 120) || (x == 88) then hexadecimal bs else digits_from 8 0 (x ∷ bs)

abbrev pub int_value : List ℕ → Option ℕ
int_value [] = None
int_value (b ∷ bs) = if b == 48 then after_zero bs else digits_from 10 0 (b ∷ bs)

-- ---- comments

abbrev pub begins_slash : List ℕ → Bool
begins_slash [] = false
begins_slash (b ∷ bs) = b == 47

-- how many bytes stand before the first `*/`
unfoldable pub block_end : List ℕ → Option ℕ
block_end [] = None
block_end (a ∷ bs) = if (a == 42) && begins_slash bs then Some 0 else option_map (λ n. 1 + n) (block_end bs)

-- ---- strings

-- how many bytes stand before the first quote that no backslash escapes, if no line feed and no zero byte comes
-- before it; and whether a backslash escapes the first byte
unfoldable pub quoted_end : ℕ → Bool → List ℕ → Option ℕ
quoted_end q escaped [] = None
quoted_end q escaped (a ∷ bs) = if (a == q) && not escaped then Some 0
    else (if is_break a then None else option_map (λ n. 1 + n) (quoted_end q ((a == 92) && not escaped) bs))

-- a backslash that begins no escape
abbrev pub is_bad : ℕ → List ℕ → Bool
is_bad b rest = (b == 92) && is_none (escape_at rest)

-- each backslash begins an escape, once so many bytes are passed, which belong to an escape before
unfoldable pub are_good_after : ℕ → List ℕ → Bool
are_good_after n [] = true
are_good_after zero (b ∷ bs) = not (is_bad b bs) && are_good_after (first_at b bs).size bs
are_good_after (suc n) (b ∷ bs) = are_good_after n bs

abbrev pub has_good_escapes : List ℕ → Bool
has_good_escapes text = are_good_after 0 text

-- ---- pieces

abbrev pub run_piece : (List ℕ → Piece) → ℕ → List ℕ → Option (Piece × List ℕ)
run_piece make n bytes = Some (make (take n bytes), drop n bytes)

abbrev pub number_with : Option ℕ → ℕ → List ℕ → Option (Piece × List ℕ)
number_with None n bytes = None
number_with (Some v) n bytes = Some (number (take n bytes) v, drop n bytes)

abbrev pub block_with : Option ℕ → List ℕ → Option (Piece × List ℕ)
block_with None bytes = None
block_with (Some n) bytes = Some (block (take n bytes), drop (n + 2) bytes)

abbrev pub quoted_with : ℕ → Option ℕ → List ℕ → Option (Piece × List ℕ)
quoted_with q None bytes = None
quoted_with q (Some n) bytes = if has_good_escapes (take n bytes) then Some (quoted q (take n bytes), drop (n + 1) bytes) else None

abbrev pub quoted_at : List ℕ → Option (Piece × List ℕ)
quoted_at [] = None
quoted_at (q ∷ bytes) = quoted_with q (quoted_end q false bytes) bytes

abbrev pub one_at : (ℕ → Piece) → List ℕ → Option (Piece × List ℕ)
one_at make [] = None
one_at make (b ∷ bytes) = Some (make b, bytes)

abbrev pub piece_by : Class → List ℕ → Option (Piece × List ℕ)
piece_by classes.Blank bytes = one_at blank bytes
piece_by classes.Line bytes = run_piece line (prefix_len (passes runs.Line) (drop 2 bytes)) (drop 2 bytes)
piece_by classes.Block bytes = block_with (block_end (drop 2 bytes)) (drop 2 bytes)
piece_by classes.Identifier bytes = run_piece name (prefix_len (passes runs.Identifier) bytes) bytes
piece_by classes.Number bytes = number_with (int_value (take (prefix_len (passes runs.Number) bytes) bytes)) (prefix_len (passes runs.Number) bytes) bytes
piece_by classes.Quote bytes = quoted_at bytes
piece_by classes.Mark bytes = one_at sign bytes
piece_by classes.Bad bytes = None

unfoldable pub piece_at : List ℕ → Option (Piece × List ℕ)
piece_at bytes = piece_by (class_of bytes) bytes

abbrev pub more : Option (Piece × List ℕ) → (List ℕ → Option (List Piece)) → Option (List Piece)
more None self = None
more (Some x) self = option_map (λ ps. x.0 ∷ ps) (self x.1)

abbrev pub pieces_by : (List ℕ → Option (List Piece)) → List ℕ → Option (List Piece)
pieces_by self [] = Some []
pieces_by self (b ∷ bs) = more (piece_at (b ∷ bs)) self

-- in at most so many steps
unfoldable pub pieces_in : ℕ → List ℕ → Option (List Piece)
pieces_in zero bytes = None
pieces_in (suc n) bytes = pieces_by (λ bs. pieces_in n bs) bytes

unfoldable pub pieces_at : List ℕ → Option (List Piece)
pieces_at bytes = pieces_in (suc (length bytes)) bytes

-- ---- what the code answers

-- a piece, of which the code keeps its word
abbrev pub kept : Option (Piece × List ℕ) → Option (Option Word × List ℕ)
kept None = None
kept (Some x) = Some (word_of_piece x.0, x.1)

abbrev pub Fails : {Y : Type 0} → LexError → Option Y → Type 0
Fails errors.NoMemory read = Unit {0}
Fails (errors.Fault left begun fault) read = read ≡ None

abbrev pub Gives : {X Y : Type 0} → (X → Y) → Option Y → Result X LexError → Type 0
Gives view read (Ok x) = read ≡ Some (view x)
Gives view read (Err e) = Fails e read

-- ---- tokens one by one

-- whether the last two of tokens are `;`; and whether a `;` stands before them
unfoldable pub ends_after : Bool → List Token → Bool
ends_after before [] = false
ends_after before (t ∷ []) = before && is_semicolon t.word
ends_after before (t ∷ u ∷ us) = ends_after (is_semicolon t.word) (u ∷ us)

-- no `;` among them stands between two
abbrev pub AllStay : List Token → Type 0
AllStay tokens = significant tokens ≡ tokens

-- once a token with this word is added, if there is one, to those that are kept, the same is significant, whatever follows
abbrev pub Keeps : List Token → Option Word → Place → Place → List Token → Type 0
Keeps before word from to after = (rest : List Token) → significant (after ++ rest) ≡ significant (before ++ token_before word from to rest)
