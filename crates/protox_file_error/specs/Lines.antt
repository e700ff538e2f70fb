-- What errors say: a line, as the pieces that stand in it one after another.
use Rattle.std.specs.Prelude.{ℕ, ℤ, ◌==◌, ◌++◌, nat_lt, List, [], ◌∷◌, Option, Some, None, codes, decimal, if◌then◌else◌}
use Rattle.std.specs.Fmt.{signed_decimal}
use Rattle.pbx_parse.specs.declared.error.ParseError.{ParseError}
use Rattle.pbx_parse.specs.declared.error.ParseError.TheVariants as parse
use Rattle.pbx_link_definitions.specs.declared.error.DescriptorError.{DescriptorError}
use Rattle.pbx_link_definitions.specs.declared.error.DescriptorError.TheVariants as check
use Rattle.protox_file_error.specs.declared.error.ErrorKind.{ErrorKind}
use Rattle.protox_file_error.specs.declared.error.ErrorKind.TheVariants.{Parse, Check, OpenFile, FileTooLarge, FileInvalidUtf8, FileNotFound}
use Rattle.protox_file_error.specs.declared.error.ErrorKind.TheVariants.{ImportNotFound, CircularImport, FileNotIncluded, FileShadowed}
use Rattle.protox_file_error.specs.declared.error.ErrorKind.TheVariants.{DuplicateImport, Custom, NameMismatch, FileLimit, Undecodable, NoMemory, ImportEscapes}

abbrev pub Pieces : Type 0
Pieces = List (List ℕ)

-- what the rules 1 to 8 of linking are about
abbrev pub early_rule : ℕ → List ℕ
early_rule rule =
    if rule == 1 then codes "file given twice" else (if rule == 2 then codes "import missing" else (if rule == 3 then codes "unknown syntax" else (if rule == 4 then codes "bad name" else (if rule == 5 then codes "name defined twice" else (if rule == 6 then codes "bad field number" else (if rule == 7 then codes "reference not bound" else (if rule == 8 then codes "bad type" else codes "no such rule")))))))

-- what the rules 9 to 16 of linking are about
abbrev pub late_rule : ℕ → List ℕ
late_rule rule =
    if rule == 9 then codes "bad oneof" else (if rule == 10 then codes "bad enum" else (if rule == 11 then codes "bad default" else (if rule == 12 then codes "bad map entry" else (if rule == 13 then codes "bad label" else (if rule == 14 then codes "uninterpreted option" else (if rule == 15 then codes "message set" else (if rule == 16 then codes "bad range" else codes "no such rule")))))))

-- what a rule of linking is about (Protocol Buffers language specification: what a file must keep to)
abbrev pub rule_text : ℕ → List ℕ
rule_text rule = if nat_lt rule 9 then early_rule rule else late_rule rule

-- numbers, a dot before each
abbrev pub dots_before : List ℤ → List ℕ
dots_before [] = []
dots_before (n ∷ ns) = codes "." ++ signed_decimal n ++ dots_before ns

-- numbers, joined by dots
abbrev pub dotted : List ℤ → List ℕ
dotted [] = []
dotted (n ∷ ns) = signed_decimal n ++ dots_before ns

abbrev pub parse_line : ParseError → Pieces
parse_line (parse.Syntax file line column expected found) = codes "expected " ∷ expected ∷ codes ", but found " ∷ found ∷ []
parse_line parse.NoMemory = codes "out of memory" ∷ []

abbrev pub descriptor_line : DescriptorError → Pieces
descriptor_line (check.Rule file place rule) = codes "rule " ∷ decimal rule ∷ codes ": " ∷ rule_text rule ∷ codes " at " ∷ dotted place ∷ []
descriptor_line (check.Decode e) = codes "record does not decode" ∷ []
descriptor_line check.NoMemory = codes "out of memory" ∷ []

-- the line of an error
abbrev pub line_of : ErrorKind → Pieces
line_of (Parse e) = parse_line e
line_of (Check e) = descriptor_line e
line_of (OpenFile name path fault) = codes "error opening file '" ∷ path ∷ codes "'" ∷ []
line_of (FileTooLarge name) = codes "file '" ∷ name ∷ codes "' is too large" ∷ []
line_of (FileInvalidUtf8 name) = codes "file '" ∷ name ∷ codes "' is not valid utf-8" ∷ []
line_of (FileNotFound name) = codes "file '" ∷ name ∷ codes "' not found" ∷ []
line_of (ImportNotFound file index place name) = codes "import '" ∷ name ∷ codes "' not found" ∷ []
line_of (CircularImport name cycle) = codes "import cycle detected: " ∷ cycle ∷ []
line_of (FileNotIncluded path) = codes "file '" ∷ path ∷ codes "' is not in any include path" ∷ []
line_of (FileShadowed name path shadow) = codes "path '" ∷ path ∷ codes "' is shadowed by '" ∷ shadow ∷ codes "' in the include paths" ∷ []
line_of (DuplicateImport file index place name) = codes "import '" ∷ name ∷ codes "' was listed twice" ∷ []
line_of (Custom text is_io) = text ∷ []
line_of (NameMismatch asked declared) = codes "file '" ∷ asked ∷ codes "' declares the name '" ∷ declared ∷ codes "'" ∷ []
line_of (FileLimit limit) = codes "more than " ∷ decimal limit ∷ codes " files" ∷ []
line_of (Undecodable file) = codes "file '" ∷ file ∷ codes "' does not decode under the built-in schema" ∷ []
line_of NoMemory = codes "out of memory" ∷ []
line_of (ImportEscapes file index place name) = codes "import '" ∷ name ∷ codes "' leaves the include folders" ∷ []

-- a file, before a line
abbrev pub at_file : List ℕ → Pieces
at_file file = file ∷ codes ": " ∷ []

-- a file, a line and a column, before a line
abbrev pub at_place : List ℕ → ℕ → ℕ → Pieces
at_place file line column = file ∷ codes ":" ∷ decimal line ∷ codes ":" ∷ decimal column ∷ codes ": " ∷ []

-- a file and the place of an import, if it is known
abbrev pub at_import : List ℕ → Option (ℕ × ℕ) → Pieces
at_import file None = at_file file
at_import file (Some place) = at_place file place.0 place.1

abbrev pub before_parse : ParseError → Pieces
before_parse (parse.Syntax file line column expected found) = at_place file line column
before_parse parse.NoMemory = []

abbrev pub before_descriptor : DescriptorError → Pieces
before_descriptor (check.Rule file place rule) = at_file file
before_descriptor (check.Decode e) = []
before_descriptor check.NoMemory = []

-- what stands before the line in the long line
abbrev pub before_line : ErrorKind → Pieces
before_line (Parse e) = before_parse e
before_line (Check e) = before_descriptor e
before_line (ImportNotFound file index place name) = at_import file place
before_line (DuplicateImport file index place name) = at_import file place
before_line (ImportEscapes file index place name) = at_import file place
before_line kind = []

-- what stands behind the line in the long line
abbrev pub behind_line : ErrorKind → Pieces
behind_line (OpenFile name path fault) = codes ": " ∷ fault ∷ []
behind_line kind = []

-- the long line of an error
abbrev pub long_line_of : ErrorKind → Pieces
long_line_of kind = before_line kind ++ line_of kind ++ behind_line kind
