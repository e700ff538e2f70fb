-- The escapes of strings, and the bytes that strings stand for: "String literals" of the language specification,
-- without `\u` and `\U`, with a small `x` only, and with octal digits of a value that fits a byte only.
use Rattle.std.specs.Prelude.{◌≡◌, ℕ, zero, suc, ◌+◌, List, [], ◌∷◌, ◌++◌, length, take, false, ◌==◌, ◌&&◌, ◌||◌, nat_le, nat_lt, Option, Some, None, option_map, unwrap_or, if◌then◌else◌}
use Rattle.std.specs.List.{prefix_len}
use Rattle.std.specs.Str.{IsUtf8}
use Rattle.pbx_parse_token.specs.declared.escape.Escape.{Escape}
use Rattle.pbx_parse_token.specs.declared.run.Run.TheVariants as runs
use Rattle.pbx_parse_token.specs.Bytes.{passes, is_break, digits_value}

-- ---- one escape: the byte that it stands for, and how many bytes it has after its backslash

-- \\ \' \" \? are the second byte itself, and \n \r \t \a \b \f \v are control characters
abbrev pub simple_value : ℕ → Option ℕ
simple_value b = if (b == 92) || (b == 39) || (b == 34) || (b == 63) then Some b
    else (if b == 110 then Some 10 else (if b == 114 then Some 13 else (if b == 116 then Some 9 else (if b == 97 then Some 7
    else (if b == 98 then Some 8 else (if b == 102 then Some 12 else (if b == 118 then Some 11 else None)))))))

-- a number of so many digits, at least one, that fits a byte
abbrev pub number_of : ℕ → ℕ → Option Escape
number_of n v = if nat_lt 0 n && nat_le v 255 then Some (record { value = v; size = n }) else None

-- the digits of a base at the front, as many as stand there but at most so many
abbrev pub number_at : ℕ → ℕ → List ℕ → Option Escape
number_at base most bytes = let n = prefix_len (passes (runs.Digits base)) (take most bytes) in number_of n (digits_value base (take n bytes))

-- what follows a backslash: `x` and one or two hexadecimal digits, one to three octal digits, or one byte
unfoldable pub escape_at : List ℕ → Option Escape
escape_at [] = None
escape_at (b ∷ bytes) = if b == 120 then option_map (λ e. record { value = e.value; size = e.size + 1 }) (number_at 16 2 bytes)
    else (if nat_le 48 b && nat_le b 55 then number_at 8 3 (b ∷ bytes)
    else option_map (λ v. record { value = v; size = 1 }) (simple_value b))

-- ---- a string

-- a byte that stands for itself, or a backslash with what follows it and the byte that it stands for
pub data Character : Type 0 where
  itself : ℕ → Character
  escaped : List ℕ → ℕ → Character

-- the bytes of a character, and then the rest
abbrev pub character_then : Character → List ℕ → List ℕ
character_then (itself b) rest = b ∷ rest
character_then (escaped t v) rest = 92 ∷ (t ++ rest)

abbrev pub value_of : Character → ℕ
value_of (itself b) = b
value_of (escaped t v) = v

abbrev pub characters_text : List Character → List ℕ
characters_text [] = []
characters_text (c ∷ cs) = character_then c (characters_text cs)

-- neither the quote nor a backslash, a line feed or a zero byte; or an escape, of what follows
abbrev pub IsCharacter : ℕ → Character → List ℕ → Type 0
IsCharacter quote (itself b) rest = ((b == quote) || (b == 92) || is_break b) ≡ false
IsCharacter quote (escaped t v) rest = escape_at (t ++ rest) ≡ Some (record { value = v; size = length t })

-- characters, of a string in such quotes
abbrev pub AreCharacters : ℕ → List Character → Type 0
AreCharacters quote [] = Unit {0}
AreCharacters quote (c ∷ cs) = IsCharacter quote c (characters_text cs) × AreCharacters quote cs

-- what stands between two quotes
pub record IsString (quote : ℕ) (text : List ℕ) : Type 0 where
  pub characters : List Character
  pub text_is : text ≡ characters_text characters
  pub are : AreCharacters quote characters

-- ---- the bytes that it stands for

-- what a byte stands for with what follows it: an escape where it is a backslash that begins one, else itself
abbrev pub first_at : ℕ → List ℕ → Escape
first_at b rest = unwrap_or (if b == 92 then escape_at rest else None) (record { value = b; size = 0 })

-- the bytes that are stood for, once so many bytes are passed, which belong to an escape before
unfoldable pub unescaped_after : ℕ → List ℕ → List ℕ
unescaped_after n [] = []
unescaped_after zero (b ∷ bs) = (first_at b bs).value ∷ unescaped_after (first_at b bs).size bs
unescaped_after (suc n) (b ∷ bs) = unescaped_after n bs

-- The bytes that a string stands for, of what is written between its quotes.
abbrev pub unescaped : List ℕ → List ℕ
unescaped text = unescaped_after 0 text

-- A string stands for a text.
abbrev pub StandsForText : List ℕ → Type 0
StandsForText text = IsUtf8 (unescaped text)
