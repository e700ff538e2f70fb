-- What errors hold: the file that they name, and what they are made of.
use Rattle.std.specs.Prelude.{◌≡◌, ◌⊎◌, ℕ, List, Bool, true, false, Option, Some, None}
use Rattle.pbx_wire.specs.declared.error.DecodeError.{DecodeError}
use Rattle.pbx_wire.specs.declared.error.DecodeError.TheVariants as decode
use Rattle.pbx_parse.specs.declared.error.ParseError.{ParseError}
use Rattle.pbx_parse.specs.declared.error.ParseError.TheVariants as parse
use Rattle.pbx_parse.specs.Errors.{error_file}
use Rattle.pbx_link_definitions.specs.declared.error.DescriptorError.{DescriptorError}
use Rattle.pbx_link_definitions.specs.declared.error.DescriptorError.TheVariants as check
use Rattle.protox_file_error.specs.declared.error.ErrorKind.{ErrorKind}
use Rattle.protox_file_error.specs.declared.error.ErrorKind.TheVariants.{Parse, Check, OpenFile, FileTooLarge, FileInvalidUtf8, FileNotFound}
use Rattle.protox_file_error.specs.declared.error.ErrorKind.TheVariants.{ImportNotFound, CircularImport, FileNotIncluded, FileShadowed}
use Rattle.protox_file_error.specs.declared.error.ErrorKind.TheVariants.{DuplicateImport, Custom, NameMismatch, FileLimit, Undecodable, NoMemory, ImportEscapes}

-- the kind of an error of parsing
abbrev pub of_parse : ParseError → ErrorKind
of_parse (parse.Syntax file line column expected found) = Parse (parse.Syntax file line column expected found)
of_parse parse.NoMemory = NoMemory

-- the kind of an error of decoding
abbrev pub of_decode : DecodeError → ErrorKind
of_decode (decode.Varint at) = Check (check.Decode (decode.Varint at))
of_decode (decode.Key at) = Check (check.Decode (decode.Key at))
of_decode (decode.WireType at) = Check (check.Decode (decode.WireType at))
of_decode (decode.Underflow at) = Check (check.Decode (decode.Underflow at))
of_decode (decode.Utf8 at) = Check (check.Decode (decode.Utf8 at))
of_decode (decode.EndGroup at) = Check (check.Decode (decode.EndGroup at))
of_decode (decode.TooDeep at) = Check (check.Decode (decode.TooDeep at))
of_decode decode.NoMemory = NoMemory

-- the kind of an error of linking
abbrev pub of_descriptor : DescriptorError → ErrorKind
of_descriptor (check.Rule file place rule) = Check (check.Rule file place rule)
of_descriptor (check.Decode e) = of_decode e
of_descriptor check.NoMemory = NoMemory

-- No want of memory stands inside of it.
abbrev pub IsWhole : ErrorKind → Type 0
IsWhole (Parse e) = of_parse e ≡ Parse e
IsWhole (Check e) = of_descriptor e ≡ Check e
IsWhole (OpenFile name path fault) = Unit {0}
IsWhole (FileTooLarge name) = Unit {0}
IsWhole (FileInvalidUtf8 name) = Unit {0}
IsWhole (FileNotFound name) = Unit {0}
IsWhole (ImportNotFound file index place name) = Unit {0}
IsWhole (CircularImport name cycle) = Unit {0}
IsWhole (FileNotIncluded path) = Unit {0}
IsWhole (FileShadowed name path shadow) = Unit {0}
IsWhole (DuplicateImport file index place name) = Unit {0}
IsWhole (Custom text is_io) = Unit {0}
IsWhole (NameMismatch asked declared) = Unit {0}
IsWhole (FileLimit limit) = Unit {0}
IsWhole (Undecodable file) = Unit {0}
IsWhole NoMemory = Unit {0}
IsWhole (ImportEscapes file index place name) = Unit {0}

-- this kind, unless memory ran out
abbrev pub UnlessMemory : ErrorKind → ErrorKind → Type 0
UnlessMemory kind given = (given ≡ kind) ⊎ (given ≡ NoMemory)

-- the file that an error of linking names
abbrev pub descriptor_file : DescriptorError → Option (List ℕ)
descriptor_file (check.Rule file place rule) = Some file
descriptor_file (check.Decode e) = None
descriptor_file check.NoMemory = None

-- the file that an error names
abbrev pub file_of : ErrorKind → Option (List ℕ)
file_of (Parse e) = error_file e
file_of (Check e) = descriptor_file e
file_of (OpenFile name path fault) = Some name
file_of (FileTooLarge name) = Some name
file_of (FileInvalidUtf8 name) = Some name
file_of (FileNotFound name) = Some name
file_of (ImportNotFound file index place name) = Some file
file_of (CircularImport name cycle) = Some name
file_of (FileNotIncluded path) = None
file_of (FileShadowed name path shadow) = Some name
file_of (DuplicateImport file index place name) = Some file
file_of (Custom text is_io) = None
file_of (NameMismatch asked declared) = Some asked
file_of (FileLimit limit) = None
file_of (Undecodable file) = Some file
file_of NoMemory = None
file_of (ImportEscapes file index place name) = Some file

-- whether a file was not found
abbrev pub is_absence : ErrorKind → Bool
is_absence (FileNotFound name) = true
is_absence (ImportNotFound file index place name) = true
is_absence (FileNotIncluded path) = true
is_absence kind = false

-- whether the text of a file is at fault
abbrev pub is_text_fault : ErrorKind → Bool
is_text_fault (Parse e) = true
is_text_fault (FileTooLarge name) = true
is_text_fault (FileInvalidUtf8 name) = true
is_text_fault kind = false

-- whether reading is at fault
abbrev pub is_reading_fault : ErrorKind → Bool
is_reading_fault (OpenFile name path fault) = true
is_reading_fault (Custom text is_io) = is_io
is_reading_fault kind = false
