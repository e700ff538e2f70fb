-- Names, texts and numbers in the words of the records.
use Rattle.std.specs.Prelude.{ℕ, ◌+◌, ◌/◌, ◌%◌, ◌==◌, nat_le, List, [], ◌∷◌, ◌++◌, Bool, true, false, ◌&&◌, Option, Some, None, ℤ, pos, ◌-ℤ◌, if◌then◌else◌, codes, decimal}
use Rattle.std.specs.List.{flat_map}
use Rattle.std.specs.Char.{to_ascii_uppercase}
use Rattle.pbx_parse_token.specs.declared.token.Span.{Span}
use Rattle.pbx_parse_token.specs.Escapes.{unescaped}
use Rattle.pbx_parse_tree.specs.Conditions.{is_text}
use Rattle.pbx_parse_tree.specs.Tree.{Name, Literal, Number, Separated, TypeName}

-- ---- names

-- a name with the dot before it
abbrev pub dotted : Span × Name → List ℕ
dotted n = 46 ∷ n.1.text

-- names with the dots between them
unfoldable pub full_text : Separated Name → List ℕ
full_text f = f.first.text ++ flat_map dotted f.more

abbrev pub dot_text : Option Span → List ℕ
dot_text None = []
dot_text (Some s) = 46 ∷ []

-- the name of a type as it is written, without blanks
unfoldable pub type_text : TypeName → List ℕ
type_text t = dot_text t.dot ++ full_text t.full

-- A name without its `_`, what stands behind one in upper case. The flag says whether the next byte is put in upper case.
unfoldable pub camel_from : Bool → List ℕ → List ℕ
camel_from up [] = []
camel_from up (b ∷ bs) = if b == 95 then camel_from true bs else (if up then to_ascii_uppercase b else b) ∷ camel_from false bs

-- the name of the message that holds the entries of a map field of this name
unfoldable pub entry_name : List ℕ → List ℕ
entry_name name = camel_from true name ++ codes "Entry"

-- ---- strings

-- The text that a string stands for. One that stands for no text, which no file that meets the conditions has where a text is wanted, is kept as it is written.
unfoldable pub string_text : Literal → List ℕ
string_text l = if is_text l then unescaped l.text else l.text

-- a backslash and three octal digits
abbrev pub octal : ℕ → List ℕ
octal b = 92 ∷ (48 + b / 64) ∷ (48 + b / 8 % 8) ∷ (48 + b % 8) ∷ []

-- one byte: `\n`, `\r`, `\t`, `\"`, `\'` and `\\` so, bytes 32 to 126 as themselves, all others in octal digits
abbrev pub escape : ℕ → List ℕ
escape b = if b == 10 then 92 ∷ 110 ∷ []
    else (if b == 13 then 92 ∷ 114 ∷ []
    else (if b == 9 then 92 ∷ 116 ∷ []
    else (if b == 34 then 92 ∷ 34 ∷ []
    else (if b == 39 then 92 ∷ 39 ∷ []
    else (if b == 92 then 92 ∷ 92 ∷ []
    else (if nat_le 32 b && nat_le b 126 then b ∷ []
    else octal b))))))

-- bytes as the text that a string literal of C has for them
unfoldable pub escaped : List ℕ → List ℕ
escaped bytes = flat_map escape bytes

-- ---- numbers

abbrev minus_text : Option Span → List ℕ
minus_text None = []
minus_text (Some s) = 45 ∷ []

-- an integer in decimal, with its sign
unfoldable pub number_text : Number → List ℕ
number_text n = minus_text n.minus ++ decimal n.value

abbrev signed_with : Option Span → ℕ → ℤ
signed_with None v = pos v
signed_with (Some s) v = pos 0 -ℤ pos v

-- an integer with its sign
abbrev pub signed : Number → ℤ
signed n = signed_with n.minus n.value
