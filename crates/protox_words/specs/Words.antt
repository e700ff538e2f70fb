-- The words of the command line (the conventions of protoc's command line; POSIX, "Utility Syntax Guidelines").
use Rattle.std.specs.Prelude.{ℕ, ◌+◌, ◌-◌, ◌*◌, ◌==◌, ◌&&◌, ◌||◌, not, nat_lt, List, [], ◌∷◌, ◌++◌, take, drop, length, position}
use Rattle.std.specs.Prelude.{Bool, true, false, Option, Some, None, is_some, option_map, Result, Ok, Err, codes, if◌then◌else◌}
use Rattle.std.specs.List.{fold, list_all, concat, before_first}
use Rattle.std.specs.Option.{unwrap_or}
use Rattle.std.specs.Str.{bytes_eq}
use Rattle.protox_words.specs.declared.options.Flag.{Flag}
use Rattle.protox_words.specs.declared.options.Flag.TheVariants.{Include, Output, IncludeImports, IncludeSourceInfo, DescriptorSetIn, Retries}
use Rattle.protox_words.specs.declared.options.Flag.TheVariants.{TypeName, Wire, Generate, Json}
use Rattle.protox_words.specs.declared.json.JsonFlag.{JsonFlag}
use Rattle.protox_words.specs.declared.json.JsonFlag.TheVariants.{Int64Numbers, EnumNumbers, ProtoNames, Defaults}

-- the flags of the JSON that is written: the first that was given, as it is written, and which were given
pub record JsonFlags : Type 0 where
  pub first : Option (List ℕ)
  pub int64_numbers : Bool
  pub enum_numbers : Bool
  pub proto_names : Bool
  pub defaults : Bool

-- what the words ask for: folders, the path of the set, what the set includes, the path of a set that files come from, how often a path is opened again,
-- a type, the path of the wire bytes, how the JSON is written, the number of a schema to generate, and files
pub record Args : Type 0 where
  pub includes : List (List ℕ)
  pub output : Option (List ℕ)
  pub include_imports : Bool
  pub include_source_info : Bool
  pub descriptor_set_in : Option (List ℕ)
  pub retries : Option ℕ
  pub type_name : Option (List ℕ)
  pub wire : Option (List ℕ)
  pub json : JsonFlags
  pub generate : Option ℕ
  pub files : List (List ℕ)

-- why words are refused; the first six name a word, the last four are of all of them
pub data WordFault : Type 0 where
  Unknown : List ℕ → WordFault
  Twice : List ℕ → WordFault
  NeedsValue : List ℕ → WordFault
  TakesNoValue : List ℕ → WordFault
  NeedsNumber : List ℕ → WordFault
  NeedsRetries : List ℕ → WordFault
  NotAlone : WordFault
  NoFile : WordFault
  NeedsType : List ℕ → WordFault
  ExcludesInclude : WordFault

abbrev pub no_json_flags : JsonFlags
no_json_flags = record { first = None; int64_numbers = false; enum_numbers = false; proto_names = false; defaults = false }

-- what no words ask for
abbrev pub nothing : Args
nothing = record {
  includes = [];
  output = None;
  include_imports = false;
  include_source_info = false;
  descriptor_set_in = None;
  retries = None;
  type_name = None;
  wire = None;
  json = no_json_flags;
  generate = None;
  files = [];
}

-- the options as they are written: the short ones, of two bytes, and the long ones
abbrev pub short_spellings : List (List ℕ × Flag)
short_spellings = (codes "-I", Include) ∷ (codes "-o", Output) ∷ []

abbrev pub long_spellings : List (List ℕ × Flag)
long_spellings =
    (codes "--include", Include) ∷ (codes "--proto_path", Include)
    ∷ (codes "--output", Output) ∷ (codes "--descriptor_set_out", Output)
    ∷ (codes "--include_imports", IncludeImports) ∷ (codes "--include-imports", IncludeImports)
    ∷ (codes "--include_source_info", IncludeSourceInfo) ∷ (codes "--include-source-info", IncludeSourceInfo)
    ∷ (codes "--descriptor_set_in", DescriptorSetIn) ∷ (codes "--descriptor-set-in", DescriptorSetIn)
    ∷ (codes "--retries", Retries)
    ∷ (codes "--type", TypeName) ∷ (codes "--wire", Wire) ∷ (codes "--generate", Generate)
    ∷ (codes "--json_int64_numbers", Json Int64Numbers) ∷ (codes "--json_enum_numbers", Json EnumNumbers)
    ∷ (codes "--json_proto_names", Json ProtoNames) ∷ (codes "--json_defaults", Json Defaults) ∷ []

-- what is written so
abbrev pub spelled : List (List ℕ × Flag) → List ℕ → Option Flag
spelled [] word = None
spelled (s ∷ ss) word = if bytes_eq word s.0 then Some s.1 else spelled ss word

abbrev pub begins_with_dash : List ℕ → Bool
begins_with_dash [] = false
begins_with_dash (b ∷ bs) = b == 45

-- what stands before the first `=`, and what stands behind it, if there is one
abbrev pub before_sign : List ℕ → List ℕ
before_sign word = before_first (λ b. b == 61) word

abbrev pub behind_sign : List ℕ → Option (List ℕ)
behind_sign word = option_map (λ at. drop (at + 1) word) (position (λ b. b == 61) word)

-- the rest of a word, if there is some
abbrev pub some_rest : List ℕ → Option (List ℕ)
some_rest rest = if length rest == 0 then None else Some rest

-- an option as it is written, with the value that is attached to it
pub record Given : Type 0 where
  pub flag : Flag
  pub written : List ℕ
  pub value : Option (List ℕ)

abbrev pub given : Option Flag → List ℕ → Option (List ℕ) → Option Given
given None written value = None
given (Some flag) written value = Some (record { flag = flag; written = written; value = value })

-- a short option has its value behind its two bytes, and a long one behind a `=`
abbrev pub short_option : List ℕ → Option Given
short_option word = given (spelled short_spellings (take 2 word)) (take 2 word) (some_rest (drop 2 word))

abbrev pub long_option : List ℕ → Option Given
long_option word = given (spelled long_spellings (before_sign word)) (before_sign word) (behind_sign word)

abbrev pub or_else : Option Given → Option Given → Option Given
or_else None other = other
or_else (Some given) other = Some given

-- the option that a word is
abbrev pub option_in : List ℕ → Option Given
option_in word = or_else (short_option word) (long_option word)

abbrev pub takes_value : Flag → Bool
takes_value IncludeImports = false
takes_value IncludeSourceInfo = false
takes_value (Json flag) = false
takes_value flag = true

-- the flag was given
abbrev pub has_json : JsonFlag → JsonFlags → Bool
has_json Int64Numbers j = j.int64_numbers
has_json EnumNumbers j = j.enum_numbers
has_json ProtoNames j = j.proto_names
has_json Defaults j = j.defaults

-- an option that may stand once was given; `-I` may repeat
abbrev pub is_given : Flag → Args → Bool
is_given Include a = false
is_given Output a = is_some a.output
is_given IncludeImports a = a.include_imports
is_given IncludeSourceInfo a = a.include_source_info
is_given DescriptorSetIn a = is_some a.descriptor_set_in
is_given Retries a = is_some a.retries
is_given TypeName a = is_some a.type_name
is_given Wire a = is_some a.wire
is_given Generate a = is_some a.generate
is_given (Json flag) a = has_json flag a.json

abbrev pub is_digit : ℕ → Bool
is_digit b = nat_lt 47 b && nat_lt b 58

abbrev pub begins_with_zero : List ℕ → Bool
begins_with_zero [] = false
begins_with_zero (b ∷ bs) = b == 48

-- the number that digits are
abbrev pub digits_value : List ℕ → ℕ
digits_value text = fold (λ n b. n * 10 + (b - 48)) 0 text

-- one to four digits, the first not zero, of a number up to 2,000, which is then at least 1
abbrev pub is_count : List ℕ → Bool
is_count text =
    nat_lt 0 (length text) && nat_lt (length text) 5 && not (begins_with_zero text) && list_all is_digit text && nat_lt (digits_value text) 2001

abbrev pub count_of : List ℕ → Option ℕ
count_of text = if is_count text then Some (digits_value text) else None

-- `0` itself, or a count up to 1,000
abbrev pub is_retries : List ℕ → Bool
is_retries text = bytes_eq text (codes "0") || (is_count text && nat_lt (digits_value text) 1001)

abbrev pub retries_in : List ℕ → Option ℕ
retries_in text = if is_retries text then Some (digits_value text) else None

-- where the reading of words stands: between options, before the value of an option as written, behind `--`, or at a fault
pub data Scan : Type 0 where
  Reading : Args → Scan
  Wanting : Flag → List ℕ → Args → Scan
  Filing : Args → Scan
  Faulty : WordFault → Scan

abbrev pub with_file : List ℕ → Args → Args
with_file word a = record a { files = a.files ++ word ∷ [] }

abbrev pub counted : List ℕ → Option ℕ → Args → Scan
counted written None a = Faulty (NeedsNumber written)
counted written (Some n) a = Reading (record a { generate = Some n })

abbrev pub retried : List ℕ → Option ℕ → Args → Scan
retried written None a = Faulty (NeedsRetries written)
retried written (Some n) a = Reading (record a { retries = Some n })

-- the first flag stays the first
abbrev pub first_of : Option (List ℕ) → List ℕ → Option (List ℕ)
first_of None written = Some written
first_of (Some first) written = Some first

-- with a flag as it is written
abbrev pub with_json : JsonFlag → List ℕ → JsonFlags → JsonFlags
with_json Int64Numbers written j = record j { first = first_of j.first written; int64_numbers = true }
with_json EnumNumbers written j = record j { first = first_of j.first written; enum_numbers = true }
with_json ProtoNames written j = record j { first = first_of j.first written; proto_names = true }
with_json Defaults written j = record j { first = first_of j.first written; defaults = true }

-- behind an option with its value
abbrev pub set : Flag → List ℕ → List ℕ → Args → Scan
set Include written value a = Reading (record a { includes = a.includes ++ value ∷ [] })
set Output written value a = Reading (record a { output = Some value })
set IncludeImports written value a = Reading (record a { include_imports = true })
set IncludeSourceInfo written value a = Reading (record a { include_source_info = true })
set DescriptorSetIn written value a = Reading (record a { descriptor_set_in = Some value })
set Retries written value a = retried written (retries_in value) a
set TypeName written value a = Reading (record a { type_name = Some value })
set Wire written value a = Reading (record a { wire = Some value })
set (Json flag) written value a = Reading (record a { json = with_json flag written a.json })
set Generate written value a = counted written (count_of value) a

abbrev pub with_value : Flag → List ℕ → Option (List ℕ) → Args → Scan
with_value flag written None a = Wanting flag written a
with_value flag written (Some value) a = set flag written value a

abbrev pub without_value : Flag → List ℕ → Option (List ℕ) → Args → Scan
without_value flag written None a = set flag written [] a
without_value flag written (Some value) a = Faulty (TakesNoValue written)

-- behind an option; of one word the faults come in this order: unknown, twice, a value that is not taken, none that is
abbrev pub behind_option : Given → Args → Scan
behind_option g a =
    if is_given g.flag a then Faulty (Twice g.written)
    else if takes_value g.flag then with_value g.flag g.written g.value a
    else without_value g.flag g.written g.value a

-- the word behind which all words are files
abbrev pub dashes : List ℕ
dashes = codes "--"

abbrev pub option_or_fault : List ℕ → Option Given → Args → Scan
option_or_fault word None a = Faulty (Unknown word)
option_or_fault word (Some g) a = behind_option g a

-- behind a word that begins with `-` and is no value, before `--`
abbrev pub behind_dash : List ℕ → Args → Scan
behind_dash word a = if bytes_eq word dashes then Filing a else option_or_fault word (option_in word) a

-- behind a word that is no value, before `--`
abbrev pub behind_word : List ℕ → Args → Scan
behind_word word a = if begins_with_dash word then behind_dash word a else Reading (with_file word a)

-- behind the word that would be the value of an option; one that begins with `-` is none
abbrev pub behind_value : Flag → List ℕ → List ℕ → Args → Scan
behind_value flag written word a = if begins_with_dash word then Faulty (NeedsValue written) else set flag written word a

-- behind one more word
abbrev pub step : Scan → List ℕ → Scan
step (Reading a) word = behind_word word a
step (Wanting flag written a) word = behind_value flag written word a
step (Filing a) word = Filing (with_file word a)
step (Faulty fault) word = Faulty fault

-- nothing but `--generate` was given
abbrev pub is_alone : Args → Bool
is_alone a =
    (length a.includes == 0) && not (is_some a.output) && not a.include_imports && not a.include_source_info && not (is_some a.descriptor_set_in)
    && not (is_some a.retries) && not (is_some a.type_name) && not (is_some a.wire) && not (is_some a.json.first) && (length a.files == 0)

-- the flag of the JSON that stands without `--type`, if there is one: the first
abbrev pub flag_without_type : Args → Option (List ℕ)
flag_without_type a = if is_some a.type_name then None else a.json.first

-- the first fault of all words together
abbrev pub fault_in : Args → Option WordFault
fault_in a =
    if is_some a.generate then (if is_alone a then None else Some NotAlone)
    else if length a.files == 0 then Some NoFile
    else if is_some a.wire && not (is_some a.type_name) then Some (NeedsType (codes "--wire"))
    else if is_some a.descriptor_set_in && not (length a.includes == 0) then Some ExcludesInclude
    else option_map NeedsType (flag_without_type a)

abbrev pub judged : Args → Option WordFault → Result Args WordFault
judged a None = Ok a
judged a (Some fault) = Err fault

abbrev pub judged_scan : Scan → Result Args WordFault
judged_scan (Reading a) = judged a (fault_in a)
judged_scan (Filing a) = judged a (fault_in a)
judged_scan (Wanting flag written a) = Err (NeedsValue written)
judged_scan (Faulty fault) = Err fault

-- the arguments, or the first fault from the left, and else the first of all words together
abbrev pub args_of : List (List ℕ) → Result Args WordFault
args_of words = judged_scan (fold step (Reading nothing) words)

-- the folders that files are read from: those that are included, or the one where the program runs
abbrev pub folders_among : List (List ℕ) → List (List ℕ)
folders_among includes = if length includes == 0 then codes "." ∷ [] else includes

abbrev pub folders : Args → List (List ℕ)
folders a = folders_among a.includes

-- how often a path is opened again where the host refuses it
abbrev pub retries_of : Args → ℕ
retries_of a = unwrap_or a.retries 0

-- the line of a fault, as the pieces that stand in it one after another
abbrev pub fault_pieces : WordFault → List (List ℕ)
fault_pieces (Unknown word) = codes "unknown option '" ∷ word ∷ codes "'" ∷ []
fault_pieces (Twice option) = codes "option '" ∷ option ∷ codes "' given twice" ∷ []
fault_pieces (NeedsValue option) = codes "option '" ∷ option ∷ codes "' needs a value" ∷ []
fault_pieces (TakesNoValue option) = codes "option '" ∷ option ∷ codes "' takes no value" ∷ []
fault_pieces (NeedsNumber option) = codes "option '" ∷ option ∷ codes "' needs a number from 1 to 2000" ∷ []
fault_pieces (NeedsRetries option) = codes "option '" ∷ option ∷ codes "' needs a number from 0 to 1000" ∷ []
fault_pieces NotAlone = codes "--generate stands alone" ∷ []
fault_pieces NoFile = codes "no file given" ∷ []
fault_pieces (NeedsType option) = option ∷ codes " needs --type" ∷ []
fault_pieces ExcludesInclude = codes "--descriptor_set_in excludes -I" ∷ []

-- the same in one
abbrev pub fault_line : WordFault → List ℕ
fault_line fault = concat (fault_pieces fault)
