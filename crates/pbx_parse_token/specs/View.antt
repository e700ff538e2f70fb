-- What the code's values stand for.
use Rattle.std.specs.Prelude.{◌≡◌, ℕ, ◌-◌, ◌≤◌, List, length, take, map, Result, Ok, Err}
use Rattle.std.specs.List.{All}
use Rattle.std.specs.Str.{IsUtf8}
use Rattle.pbx_parse_token.specs.declared.token.Word as code_word
use Rattle.pbx_parse_token.specs.declared.token.Word.TheVariants as words
use Rattle.pbx_parse_token.specs.declared.token.Token as code_token
use Rattle.pbx_parse_token.specs.declared.token.Place.{Place}
use Rattle.pbx_parse_token.specs.declared.piece.LexError.{LexError}
use Rattle.pbx_parse_token.specs.declared.piece.LexError.TheVariants as errors
use Rattle.pbx_parse_token.specs.Places.{place_after}
use Rattle.pbx_parse_token.specs.Tokens.{Word, ident, int, str, mark, Token}
use Rattle.pbx_parse_token.specs.Pieces.{origin}

abbrev pub word_of : code_word.Word → Word
word_of (words.Ident t) = ident t.now
word_of (words.Int n) = int n
word_of (words.Str t) = str t.now
word_of (words.Mark b) = mark b

abbrev pub token_of : code_token.Token → Token
token_of t = record { word = word_of t.word; span = t.span }

abbrev pub tokens_of : List code_token.Token → List Token
tokens_of ts = map token_of ts

abbrev pub FailsNot : LexError → Type 0
FailsNot errors.NoMemory = Unit {0}
FailsNot (errors.Fault left begun fault) = ⊥

-- this holds, unless memory ran out
abbrev pub UnlessMemory : Result Unit LexError → Type 0 → Type 0
UnlessMemory (Ok u) P = P
UnlessMemory (Err errors.NoMemory) P = Unit {0}
UnlessMemory (Err (errors.Fault left begun fault)) P = P

-- this was read, unless memory ran out
abbrev pub ReadsAs : {X Y : Type 0} → (X → Y) → Y → Result X LexError → Type 0
ReadsAs view y (Ok x) = view x ≡ y
ReadsAs view y (Err e) = FailsNot e

-- with so many bytes left, a source that is a text is cut between two characters
abbrev pub IsCut : List ℕ → ℕ → Type 0
IsCut source left = IsUtf8 (take (length source - left) source)

-- a fault lies in the source, its token or comment begins no later, and both are between two characters
pub record Within (source : List ℕ) (left begun : ℕ) : Type 0 where
  pub order : left ≤ begun
  pub within : begun ≤ length source
  pub begun_cut : IsCut source begun
  pub left_cut : IsCut source left

-- a fault lies in the source
abbrev pub IsWithin : List ℕ → LexError → Type 0
IsWithin source errors.NoMemory = Unit {0}
IsWithin source (errors.Fault left begun fault) = Within source left begun

-- where so many bytes of a source are left, it is cut between two characters or at an end, at this place
pub record IsStart (source : List ℕ) (left : ℕ) (at : Place) : Type 0 where
  pub within : left ≤ length source
  pub cut : IsCut source left
  pub place : place_after (take (length source - left) source) origin ≡ at

-- a token begins where it says that so many bytes of the source are left
abbrev pub BeginsIn : List ℕ → code_token.Token → Type 0
BeginsIn source t = IsStart source t.left (record { line = t.span.line; column = t.span.from })

abbrev pub BeginIn : List ℕ → List code_token.Token → Type 0
BeginIn source ts = All (BeginsIn source) ts
