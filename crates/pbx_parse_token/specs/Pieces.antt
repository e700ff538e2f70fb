-- A source as blanks, comments and tokens: the lexical elements of the language specification, each the longest
-- that fits.
use Rattle.std.specs.Prelude.{◌≡◌, ◌≢◌, ℕ, List, [], ◌∷◌, ◌++◌, length, Bool, true, false, ◌==◌, ◌&&◌, Option, Some, None, if◌then◌else◌}
use Rattle.std.specs.List.{prefix_len}
use Rattle.pbx_parse_token.specs.declared.token.Place.{Place}
use Rattle.pbx_parse_token.specs.Tokens.{Word, ident, int, str, mark, Token}
use Rattle.pbx_parse_token.specs.declared.run.Run.TheVariants as runs
use Rattle.pbx_parse_token.specs.declared.piece.Class.{Class}
use Rattle.pbx_parse_token.specs.declared.piece.Class.TheVariants as classes
use Rattle.pbx_parse_token.specs.Bytes.{passes, class_of, IsInteger}
use Rattle.pbx_parse_token.specs.Escapes.{IsString}
use Rattle.pbx_parse_token.specs.Places.{place_after}

-- a blank, a `//` comment, a `/*` comment, an identifier, an integer with its value, a string with its quote, a mark
pub data Piece : Type 0 where
  blank : ℕ → Piece
  line : List ℕ → Piece
  block : List ℕ → Piece
  name : List ℕ → Piece
  number : List ℕ → ℕ → Piece
  quoted : ℕ → List ℕ → Piece
  sign : ℕ → Piece

-- the bytes of a piece, and then the rest
abbrev pub piece_then : Piece → List ℕ → List ℕ
piece_then (blank b) rest = b ∷ rest
piece_then (line t) rest = 47 ∷ 47 ∷ (t ++ rest)
piece_then (block t) rest = 47 ∷ 42 ∷ (t ++ (42 ∷ 47 ∷ rest))
piece_then (name t) rest = t ++ rest
piece_then (number t n) rest = t ++ rest
piece_then (quoted q t) rest = q ∷ (t ++ (q ∷ rest))
piece_then (sign b) rest = b ∷ rest

abbrev pub class_of_piece : Piece → Class
class_of_piece (blank b) = classes.Blank
class_of_piece (line t) = classes.Line
class_of_piece (block t) = classes.Block
class_of_piece (name t) = classes.Identifier
class_of_piece (number t n) = classes.Number
class_of_piece (quoted q t) = classes.Quote
class_of_piece (sign b) = classes.Mark

-- The `*/` behind the text of a comment is the first: none begins in the text.
abbrev pub HasNoEnd : List ℕ → Type 0
HasNoEnd text = (front back : List ℕ) → text ++ (42 ∷ []) ≢ front ++ (42 ∷ 47 ∷ back)

-- it is the longest that fits there, an integer has a value, and a string has characters
abbrev pub Extent : Piece → List ℕ → Type 0
Extent (blank b) rest = Unit {0}
Extent (line t) rest = prefix_len (passes runs.Line) (t ++ rest) ≡ length t
Extent (block t) rest = HasNoEnd t
Extent (name t) rest = prefix_len (passes runs.Identifier) (t ++ rest) ≡ length t
Extent (number t n) rest = (prefix_len (passes runs.Number) (t ++ rest) ≡ length t) × IsInteger t n
Extent (quoted q t) rest = IsString q t
Extent (sign b) rest = Unit {0}

-- the bytes there begin such a piece, and it is the longest
pub record FitsPiece (p : Piece) (rest : List ℕ) : Type 0 where
  pub «class» : class_of (piece_then p rest) ≡ class_of_piece p
  pub extent : Extent p rest

-- the bytes of the pieces
abbrev pub pieces_text : List Piece → List ℕ
pieces_text [] = []
pieces_text (p ∷ ps) = piece_then p (pieces_text ps)

-- each piece fits what follows it
abbrev pub FitAll : List Piece → Type 0
FitAll [] = Unit {0}
FitAll (p ∷ ps) = FitsPiece p (pieces_text ps) × FitAll ps

-- a blank and a comment are no tokens
abbrev pub word_of_piece : Piece → Option Word
word_of_piece (blank b) = None
word_of_piece (line t) = None
word_of_piece (block t) = None
word_of_piece (name t) = Some (ident t)
word_of_piece (number t n) = Some (int n)
word_of_piece (quoted q t) = Some (str t)
word_of_piece (sign b) = Some (mark b)

-- the token between two places, if it is one, and then the rest
abbrev pub token_before : Option Word → Place → Place → List Token → List Token
token_before None from to rest = rest
token_before (Some w) from to rest = record { word = w; span = record { line = from.line; from = from.column; to = to.column } } ∷ rest

-- the tokens among pieces that begin at a place
abbrev pub tokens_from : Place → List Piece → List Token
tokens_from p [] = []
tokens_from p (x ∷ xs) = token_before (word_of_piece x) p (place_after (piece_then x []) p) (tokens_from (place_after (piece_then x []) p) xs)

-- a `;`
abbrev pub is_semicolon : Word → Bool
is_semicolon (ident t) = false
is_semicolon (int n) = false
is_semicolon (str t) = false
is_semicolon (mark b) = b == 59

abbrev pub begins_semicolon : List Token → Bool
begins_semicolon [] = false
begins_semicolon (t ∷ ts) = is_semicolon t.word

-- the tokens without each `;` that stands between two `;`; and whether a `;` stands before them
unfoldable pub significant_after : Bool → List Token → List Token
significant_after before [] = []
significant_after before (t ∷ ts) = if before && is_semicolon t.word && begins_semicolon ts then significant_after true ts
    else t ∷ significant_after (is_semicolon t.word) ts

-- Of `;` one after another the first and the last: those between are empty statements of the language specification, which say nothing.
abbrev pub significant : List Token → List Token
significant ts = significant_after false ts

abbrev pub origin : Place
origin = record { line = 0; column = 0 }

-- The source is the bytes of pieces that fit, and these are their tokens but for each `;` between two `;`.
abbrev pub Lexes : List ℕ → List Token → Type 0
Lexes source tokens = (ps : List Piece) × FitAll ps × (source ≡ pieces_text ps) × (tokens ≡ significant (tokens_from origin ps))
