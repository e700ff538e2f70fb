-- The schema of a number, as the sources of its files, and a tree of it.
use Rattle.std.specs.Prelude.{ℕ, ◌-◌, nat_lt, List, [], ◌∷◌, ◌++◌, zero, suc, codes, decimal, if◌then◌else◌}
use Rattle.std.specs.List.{concat}

-- files have numbers from 1
abbrev pub file_name : ℕ → List ℕ
file_name number = codes "g" ++ decimal number ++ codes ".proto"

-- each defines one message
abbrev pub type_name : ℕ → List ℕ
type_name number = codes "G" ++ decimal number

-- what is said of the number that is less by so much, where there is one
unfoldable pub before : ℕ → ℕ → (ℕ → List ℕ) → List ℕ
before distance number said = if nat_lt distance number then said (number - distance) else []

abbrev pub import_line : ℕ → List ℕ
import_line number = codes "import \"" ++ file_name number ++ codes "\";\n"

-- a field of the message of that number
abbrev pub field : List ℕ → ℕ → List ℕ
field declared number = codes " " ++ type_name number ++ declared

-- The source of a file: it imports the two before it, and its message has fields of theirs.
unfoldable pub source : ℕ → List ℕ
source number =
    concat (codes "syntax = \"proto3\";\n" ∷ before 1 number import_line ∷ before 2 number import_line
    ∷ codes "message " ∷ type_name number ∷ codes " { int32 a = 1; string b = 2;"
    ∷ before 1 number (field (codes " p = 3;")) ∷ before 2 number (field (codes " q = 4;")) ∷ codes " }\n" ∷ [])

-- the files up to a number, each with its name and its source
unfoldable pub files_to : ℕ → List (List ℕ × List ℕ)
files_to zero = []
files_to (suc number) = files_to number ++ (file_name (suc number), source (suc number)) ∷ []

-- a member that begins so, a message whose first field is the number
abbrev pub member : List ℕ → ℕ → List ℕ
member opening number = concat (opening ∷ decimal number ∷ codes "}" ∷ [])

-- the JSON text of a message of the type of that number
unfoldable pub tree_text : ℕ → List ℕ
tree_text number =
    concat (codes "{\"a\":" ∷ decimal number ∷ codes ",\"b\":\"g" ∷ decimal number ∷ codes "\""
    ∷ before 1 number (member (codes ",\"p\":{\"a\":")) ∷ before 2 number (member (codes ",\"q\":{\"a\":")) ∷ codes "}" ∷ [])
