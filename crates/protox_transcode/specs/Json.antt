-- The tree of a JSON text, and the line of a fault of a tree.
use Rattle.std.specs.Prelude.{ℕ, List, [], ◌∷◌, ◌++◌, codes, Option, None, if◌then◌else◌}
use Rattle.std.specs.List.{flat_map}
use Rattle.std.specs.Fmt.{decimal}
use Rattle.std.specs.Str.{is_utf8}
use Rattle.serde_json.specs.Data.{Data}
use Rattle.serde_json.specs.Read.{read as read_text}
use Rattle.pbx_json_meaning.specs.declared.error.JsonError.{JsonError}
use Rattle.pbx_json_meaning.specs.declared.kind.JsonKind.{JsonKind}
use Rattle.pbx_json_meaning.specs.declared.kind.JsonKind.TheVariants as kind
use Rattle.pbx_json_meaning.specs.declared.place.Step.{Step}
use Rattle.pbx_json_meaning.specs.declared.place.Step.TheVariants.{Key, Index}

-- the tree of a JSON text in UTF-8 (RFC 8259), nested at most 127 deep
abbrev pub json_of : List ℕ → Option Data
json_of input = if is_utf8 input then read_text input else None

-- what is wrong at the place
abbrev pub kind_text : JsonKind → List ℕ
kind_text kind.WrongKind = codes "wrong kind of value"
kind_text kind.Range = codes "number out of range"
kind_text kind.NotDecimal = codes "not a decimal number"
kind_text kind.UnknownField = codes "unknown field"
kind_text kind.UnknownEnum = codes "unknown enum value"
kind_text kind.DuplicateField = codes "field given twice"
kind_text kind.DuplicateKey = codes "map key given twice"
kind_text kind.OneofTwice = codes "two members of one oneof"
kind_text kind.Base64 = codes "not base64"
kind_text kind.Timestamp = codes "not a timestamp"
kind_text kind.Duration = codes "not a duration"
kind_text kind.Mask = codes "not a field mask"
kind_text kind.AnyType = codes "no known type in @type"
kind_text kind.AnyValue = codes "no value beside @type"
kind_text kind.Float = codes "floating-point numbers are not supported"
kind_text kind.Shape = codes "well-known type of another shape"
kind_text kind.AnyPayload = codes "payload does not decode"
kind_text kind.NoMemory = codes "out of memory"

-- a step of a place: `.` and a key, or an index in brackets
abbrev pub step_text : Step → List ℕ
step_text (Key key) = codes "." ++ key
step_text (Index index) = codes "[" ++ decimal index ++ codes "]"

-- a place, from the root `$`
abbrev pub place_text : List Step → List ℕ
place_text place = codes "$" ++ flat_map step_text place

-- the place, and what is wrong there
abbrev pub json_line : JsonError → List (List ℕ)
json_line e = codes "json at " ∷ place_text e.place ∷ codes ": " ∷ kind_text e.kind ∷ []
