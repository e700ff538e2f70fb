-- The tokens that are left, and what is read from them.
use Rattle.std.specs.Prelude.{◌≡◌, ◌<◌, ◌≤◌, ℕ, List, [], ◌∷◌, length, map, drop, Bool, true, false, not, ◌==◌, ◌&&◌, Option, Some, None, Result, Ok, Err}
use Rattle.std.specs.Str.{bytes_eq}
use Rattle.pbx_parse_token.specs.Tokens.{Word, ident, int, str, mark, Token}
use Rattle.pbx_parse_token.specs.View.{token_of}
use Rattle.pbx_parse_token.specs.declared.token.Span.{Span}
use Rattle.pbx_parse_tree.specs.declared.tree.Version.{Version}
use Rattle.pbx_parse_tree.specs.declared.tree.Label.{Label}
use Rattle.pbx_parse_tree.specs.Words.{is_label_word}
use Rattle.pbx_parse_reader.specs.declared.cursor.Cursor.{Cursor}
use Rattle.pbx_parse_reader.specs.declared.error.ReadError.{ReadError}
use Rattle.pbx_parse_reader.specs.declared.error.ReadError.TheVariants as errors

-- the tokens that are not yet read
abbrev pub left : Cursor → List Token
left c = map token_of (drop c.at c.tokens.now)

-- ---- the next token

abbrev pub number : ℕ → Span → Token
number n s = record { word = int n; span = s }

abbrev pub is_mark : ℕ → Word → Bool
is_mark b (ident t) = false
is_mark b (int n) = false
is_mark b (str t) = false
is_mark b (mark c) = c == b

abbrev pub passes : (List ℕ → Bool) → Word → Bool
passes p (ident t) = p t
passes p (int n) = false
passes p (str t) = false
passes p (mark c) = false

abbrev pub is_string : Word → Bool
is_string (ident t) = false
is_string (int n) = false
is_string (str t) = true
is_string (mark c) = false

abbrev pub begins_number : Word → Bool
begins_number (ident t) = false
begins_number (int n) = true
begins_number (str t) = false
begins_number (mark c) = c == 45

abbrev pub begins_type : Word → Bool
begins_type (ident t) = true
begins_type (int n) = false
begins_type (str t) = false
begins_type (mark c) = c == 46

-- the mark is next
abbrev pub sees_mark : ℕ → List Token → Bool
sees_mark b [] = false
sees_mark b (t ∷ ts) = is_mark b t.word

-- a word of this sort is next
abbrev pub sees : (List ℕ → Bool) → List Token → Bool
sees p [] = false
sees p (t ∷ ts) = passes p t.word

-- the word is next
abbrev pub sees_word : List ℕ → List Token → Bool
sees_word wanted ts = sees (λ t. bytes_eq t wanted) ts

-- a string is next
abbrev pub sees_string : List Token → Bool
sees_string [] = false
sees_string (t ∷ ts) = is_string t.word

-- an integer or a minus is next
abbrev pub sees_number : List Token → Bool
sees_number [] = false
sees_number (t ∷ ts) = begins_number t.word

-- a name or a dot is next
abbrev pub sees_type : List Token → Bool
sees_type [] = false
sees_type (t ∷ ts) = begins_type t.word

abbrev pub tail : List Token → List Token
tail [] = []
tail (t ∷ ts) = ts

-- the word is next, and this mark after it
abbrev pub sees_both : ℕ → List ℕ → List Token → Bool
sees_both b wanted ts = sees_word wanted ts && sees_mark b (tail ts)

-- the word is next, and no such mark after it
abbrev pub sees_without : ℕ → List ℕ → List Token → Bool
sees_without b wanted ts = sees_word wanted ts && not (sees_mark b (tail ts))

-- nothing more stands in a block
abbrev pub ends_block : List Token → Bool
ends_block [] = true
ends_block (t ∷ ts) = is_mark 125 t.word

-- nothing more stands in a file
abbrev pub ends_file : List Token → Bool
ends_file [] = true
ends_file (t ∷ ts) = false

-- a label or none stands before this: none, only where no label is next
abbrev pub label_follows : Option (Label × Span) → List Token → Bool
label_follows None ts = not (sees is_label_word ts)
label_follows (Some l) ts = true

-- the word or nothing stands before this: nothing, only where the word is not next
abbrev pub word_follows : List ℕ → Option Span → List Token → Bool
word_follows wanted None ts = not (sees_word wanted ts)
word_follows wanted (Some s) ts = true

-- ---- what is read

-- what fits, with a mark before it
abbrev pub next_fits : {A : Type 0} → (Version → A → Bool) → Version → Span × A → Bool
next_fits fits version x = fits version x.1

abbrev pub FailsNot : ReadError → Type 0
FailsNot errors.NoMemory = Unit {0}
FailsNot (errors.Unexpected left expected) = ⊥

-- how many tokens are left from the one that cannot stand there on; none are at the end
abbrev pub left_at : ReadError → ℕ
left_at errors.NoMemory = 0
left_at (errors.Unexpected left expected) = left

-- fewer tokens are left than before, or the error is told at one of those, or at their end
abbrev pub TakesSome : {X : Type 0} → Result X ReadError → List Token → List Token → Type 0
TakesSome (Ok x) before after = length after < length before
TakesSome (Err e) before after = left_at e ≤ length before

-- the same where none may have been read
abbrev pub TakesAny : {X : Type 0} → Result X ReadError → List Token → List Token → Type 0
TakesAny (Ok x) before after = length after ≤ length before
TakesAny (Err e) before after = left_at e ≤ length before

-- this was read, and these tokens are left, unless memory ran out
abbrev pub Reaches : {X Y : Type 0} → (X → Y) → Y → List Token → Result X ReadError → List Token → Type 0
Reaches view y rest (Ok x) after = (view x ≡ y) × (after ≡ rest)
Reaches view y rest (Err e) after = FailsNot e

-- this was read, unless memory ran out
abbrev pub ReadsAs : {X Y : Type 0} → (X → Y) → Y → Result X ReadError → Type 0
ReadsAs view y (Ok x) = view x ≡ y
ReadsAs view y (Err e) = FailsNot e
