-- Texts as they are shown in one line: characters that nobody would see stand as escapes, control characters among them.
use Rattle.std.specs.Prelude.{◌≡◌, ◌==◌, ◌+◌, ◌/◌, ◌%◌, ◌∷◌, ◌++◌, [], ℕ, nat_lt, List, false, codes, encode_utf8, if◌then◌else◌}
use Rattle.std.specs.Char.{is_control}
use Rattle.std.specs.List.{flat_map, list_any}
use Rattle.std.specs.Str.{IsUtf8, chars}
use Rattle.pbx_text.specs.Invisible.{is_invisible}

-- the hexadecimal digit of a number below 16
abbrev pub hexadecimal : ℕ → ℕ
hexadecimal n = if nat_lt n 10 then 48 + n else 87 + n

-- the last four hexadecimal digits of a number
abbrev pub hexadecimals : ℕ → List ℕ
hexadecimals n = hexadecimal (n / 4096 % 16) ∷ hexadecimal (n / 256 % 16) ∷ hexadecimal (n / 16 % 16) ∷ hexadecimal (n % 16) ∷ []

-- a character's number: `\u` and four hexadecimal digits, or `\U` and eight
abbrev pub numbered : ℕ → List ℕ
numbered c = if nat_lt c 65536 then codes "\\u" ++ hexadecimals c else codes "\\U" ++ hexadecimals (c / 65536) ++ hexadecimals c

-- what stands for an invisible character: `\n`, `\r`, `\t`, and for another its number
abbrev pub escape : ℕ → List ℕ
escape c = if c == 10 then codes "\\n" else (if c == 13 then codes "\\r" else (if c == 9 then codes "\\t" else numbered c))

-- a character as it is shown
abbrev pub shown_char : ℕ → List ℕ
shown_char c = if is_invisible c then escape c else encode_utf8 c

-- a text as it is shown
abbrev pub shown : List ℕ → List ℕ
shown text = flat_map shown_char (chars text)

-- texts in a row as they are shown, and a line feed
abbrev pub shown_line : List (List ℕ) → List ℕ
shown_line texts = flat_map shown texts ++ codes "\n"

-- A text as it is shown has no control character.
abbrev pub ShownIsPlain : Type 0
ShownIsPlain = (text : List ℕ) → IsUtf8 text → list_any is_control (chars (shown text)) ≡ false
