-- What errors say.
use Rattle.std.specs.Prelude.{◌≡◌, ℕ, ◌≤◌, List, Option, Some, None, Result, Ok, Err}
use Rattle.std.specs.Char.{is_control}
use Rattle.std.specs.Str.{NoCharPasses}
use Rattle.pbx_parse.specs.declared.error.ParseError.{ParseError}
use Rattle.pbx_parse.specs.declared.error.ParseError.TheVariants.{Syntax, NoMemory}

abbrev pub error_file : ParseError → Option (List ℕ)
error_file (Syntax file line column expected found) = Some file
error_file NoMemory = None

abbrev pub error_line : ParseError → Option ℕ
error_line (Syntax file line column expected found) = Some line
error_line NoMemory = None

abbrev pub error_column : ParseError → Option ℕ
error_column (Syntax file line column expected found) = Some column
error_column NoMemory = None

-- no character of a text is a control character, as a line feed is
abbrev pub IsOneLine : List ℕ → Type 0
IsOneLine text = NoCharPasses is_control text

-- A `Syntax` error is of this file, its place counts from 1, its words are in one line, and this holds.
abbrev pub Refuses : List ℕ → Type 0 → ParseError → Type 0
Refuses name P (Syntax file line column expected found) = P × (file ≡ name) × (1 ≤ line) × (1 ≤ column) × IsOneLine expected × IsOneLine found
Refuses name P NoMemory = Unit {0}

-- this was given, unless memory ran out
abbrev pub GivesUnlessMemory : {X : Type 0} → X → Result X ParseError → Type 0
GivesUnlessMemory x (Ok y) = y ≡ x
GivesUnlessMemory x (Err (Syntax file line column expected found)) = ⊥
GivesUnlessMemory x (Err NoMemory) = Unit {0}
