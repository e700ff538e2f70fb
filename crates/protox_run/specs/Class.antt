-- What arguments, a disk and an input come to: what is written and printed, or the first refusal.
use Rattle.std.specs.Prelude.{◌≡◌, ◌⊎◌, ◌≤◌, ◌<◌, ◌∷◌, ◌++◌, [], ℕ, List, length, Bool, true, false, not, Option, Some, None, is_some, codes}
use Rattle.std.specs.List.{concat}
use Rattle.serde_json.specs.Data.{Data}
use Rattle.serde_json.specs.Written.{compact_text}
use Rattle.pbx_desc_encoding.specs.Sets.{set_meaning_of}
use Rattle.pbx_desc_records.specs.declared.file.FileDescriptorProto.{FileDescriptorProto}
use Rattle.pbx_json_meaning.specs.declared.kind.JsonKind.TheVariants as json
use Rattle.pbx_json_meaning.specs.declared.options.SerializeOptions.{SerializeOptions}
use Rattle.pbx_wkt_files.specs.Files.{wkt_files}
use Rattle.protox_io.specs.Disk.{Volume, Held, Missing, Oversized, Stored, found, untold}
use Rattle.protox_io.specs.Paths.{disk_key}
use Rattle.protox_file_error.specs.Errors.{IsWhole}
use Rattle.protox_file_error.specs.Lines.{long_line_of}
use Rattle.protox_file_error.specs.declared.error.ErrorKind.{ErrorKind}
use Rattle.protox_file_sources.specs.Library.{Library, resolves_nothing}
use Rattle.protox_file_sources.specs.Told.{Entry}
use Rattle.protox_file.specs.Listed.{listed_files}
use Rattle.protox_file.specs.Sets.{AreFilesIn}
use Rattle.protox_file.specs.Standard.{standard}
use Rattle.protox_compile_walk.specs.Walk.{Done}
use Rattle.protox_compile.specs.Repeats.{repeats}
use Rattle.protox_compile.specs.Sets.{listed, IsSet, AreDecodable, IsUndecodable}
use Rattle.protox_compile.specs.Compiling.{Compiles, StopsWalk}
use Rattle.protox_transcode.specs.Json.{json_of}
use Rattle.protox_transcode.specs.Top.{ForFiles, IsTranscoded, Refuses, is_fault, is_refusal, top_line}
use Rattle.protox_transcode.specs.declared.error.TopError.{TopError}
use Rattle.protox_transcode.specs.declared.error.TopError.TheVariants as top
use Rattle.protox_generate.specs.Summary.{Summarizes, RefusesNumber}
use Rattle.protox_words.specs.Words.{Args, folders}
use Rattle.protox_run.specs.declared.stop.Refusal.{Refusal}
use Rattle.protox_run.specs.declared.stop.Refusal.TheVariants.{TooLong, NotJson, Top}

-- how many bytes the input may have
abbrev pub limit : ℕ
limit = 1073741824

-- the files of the folders, and behind them the built-in files
abbrev pub folder_files : Args → Volume → Library
folder_files a disk = standard wkt_files disk (folders a)

-- what is read at the path of the set
abbrev pub set_at : Volume → List ℕ → Held
set_at disk path = found (disk.holds (disk_key path))

-- what was read are the bytes of a set of these files (Protocol Buffers `descriptor.proto`: FileDescriptorSet)
abbrev pub IsStoredSet : Held → List Entry → Type 0
IsStoredSet (Stored bytes) entries = AreFilesIn bytes entries
IsStoredSet held entries = ⊥

-- why what was read at the path is no set, with its line
abbrev pub IsNoSet : List ℕ → Held → List ℕ → Type 0
IsNoSet path Missing line = line ≡ concat (codes "file '" ∷ path ∷ codes "' not found" ∷ [])
IsNoSet path Oversized line = line ≡ concat (codes "file '" ∷ path ∷ codes "' is too large" ∷ [])
IsNoSet path (Stored bytes) line = (set_meaning_of bytes ≡ None) × (line ≡ concat (codes "'" ∷ path ∷ codes "' is not a descriptor set" ∷ []))

-- where the files come from: the folders and the built-in files, or the set whose path is given (`--descriptor_set_in` of protoc)
abbrev pub IsLibrary : Option (List ℕ) → Args → Volume → Library → Type 0
IsLibrary None a disk library = library ≡ folder_files a disk
IsLibrary (Some path) a disk library = (entries : List Entry) × IsStoredSet (set_at disk path) entries × (library ≡ listed_files entries)

-- this holds of where the files come from
abbrev pub ForLibrary : Args → Volume → (Library → Type 0) → Type 0
ForLibrary a disk P = (library : Library) × IsLibrary a.descriptor_set_in a disk library × P library

-- the line of a set that is asked for and is none
abbrev pub LacksSet : Option (List ℕ) → Volume → List ℕ → Type 0
LacksSet None disk line = ⊥
LacksSet (Some path) disk line = IsNoSet path (set_at disk path) line

-- the name of each path that a folder resolves, which does not depend on what the disk holds; a set resolves none
abbrev pub resolves_by : Option (List ℕ) → Args → List ℕ → Option (List ℕ)
resolves_by None a = (folder_files a untold).resolves
resolves_by (Some path) a = resolves_nothing

abbrev pub resolves_of : Args → List ℕ → Option (List ℕ)
resolves_of a = resolves_by a.descriptor_set_in a

-- how the message is written as JSON: as by default, but for what the flags change
abbrev pub options_of : Args → SerializeOptions
options_of a = record {
  stringify_64_bit_integers = not a.json.int64_numbers;
  use_enum_numbers = a.json.enum_numbers;
  use_proto_field_name = a.json.proto_names;
  skip_default_fields = not a.json.defaults;
}

-- the input is a JSON text of this tree
abbrev pub ForTree : List ℕ → (Data → Type 0) → Type 0
ForTree input P = (length input ≤ limit) × ((tree : Data) × (json_of input ≡ Some tree) × P tree)

-- bytes that are written under a path
pub record Write : Type 0 where
  pub path : List ℕ
  pub bytes : List ℕ

-- a write, where a path is given
abbrev pub write_to : Option (List ℕ) → List ℕ → List Write
write_to None bytes = []
write_to (Some path) bytes = record { path = path; bytes = bytes } ∷ []

-- what a run comes to: these writes in order and this text on out, or a refusal
pub data Ending : Type 0 where
  Ready : List Write → List ℕ → Ending
  Refusing : Refusal → Ending

-- with `--type`: the set and the wire bytes are written, and the tree is printed as a line
abbrev pub Transcoded : Args → List ℕ → Library → Data → List Write → List ℕ → Type 0
Transcoded a name library tree writes text =
    (set wire : List ℕ) × (written : Data)
    × ForFiles library.files library.resolves a.files (λ files. IsTranscoded name tree (options_of a) files set wire written)
    × (writes ≡ write_to a.output set ++ write_to a.wire wire) × (text ≡ compact_text written ++ codes "\n")

-- no want of memory stands inside of an error
abbrev pub IsWholeError : TopError → Type 0
IsWholeError (top.File error) = IsWhole error
IsWholeError (top.Json error) = ¬ (error.kind ≡ json.NoMemory)
IsWholeError error = Unit {0}

-- the line of a refusal of the files, the type's name or the tree
abbrev pub RefusedWith : Args → List ℕ → Library → Data → List ℕ → Type 0
RefusedWith a name library tree line =
    (error : TopError) × (is_refusal error ≡ true) × IsWholeError error
    × Refuses library.files library.resolves a.files name tree error × (line ≡ concat (top_line error))

-- with `--type`, in the order of refusals: the set is read behind the input
abbrev pub Transcoding : Args → List ℕ → Volume → List ℕ → Ending → Type 0
Transcoding a name disk input (Refusing TooLong) = limit < length input
Transcoding a name disk input (Refusing NotJson) = (length input ≤ limit) × (json_of input ≡ None)
Transcoding a name disk input (Refusing (Top line)) =
    ForTree input (λ tree. LacksSet a.descriptor_set_in disk line ⊎ ForLibrary a disk (λ library. RefusedWith a name library tree line))
Transcoding a name disk input (Ready writes text) = ForTree input (λ tree. ForLibrary a disk (λ library. Transcoded a name library tree writes text))

-- the set that the flags ask for
abbrev pub set_of : Args → List Done → List FileDescriptorProto
set_of a done = listed a.include_imports a.include_source_info done

-- the set of the files is written, where a path is given, and then each of them can be read again
abbrev pub WritesSet : Option (List ℕ) → List FileDescriptorProto → List Write → Type 0
WritesSet None files writes = writes ≡ []
WritesSet (Some path) files writes = AreDecodable files × ((set : List ℕ) × IsSet files set × (writes ≡ record { path = path; bytes = set } ∷ []))

-- why the files are refused without `--type`: a fault of the walk, or else one that cannot be read again from the set that is written
abbrev pub RefusesSet : Args → Library → ErrorKind → Type 0
RefusesSet a library error =
    StopsWalk library a.files error ⊎ Compiles library a.files (λ done. (is_some a.output ≡ true) × IsUndecodable (set_of a done) error)

-- without `--type` nothing is printed
abbrev pub Compiled : Args → Library → List Write → List ℕ → Type 0
Compiled a library writes text = Compiles library a.files (λ done. WritesSet a.output (set_of a done) writes) × (text ≡ [])

-- the line of a refusal of the files without `--type`
abbrev pub RefusedSet : Args → Library → List ℕ → Type 0
RefusedSet a library line =
    (error : ErrorKind) × (is_fault error ≡ false) × IsWhole error × RefusesSet a library error × (line ≡ concat (long_line_of error))

abbrev pub Compiling : Args → Volume → Ending → Type 0
Compiling a disk (Refusing TooLong) = ⊥
Compiling a disk (Refusing NotJson) = ⊥
Compiling a disk (Refusing (Top line)) = LacksSet a.descriptor_set_in disk line ⊎ ForLibrary a disk (λ library. RefusedSet a library line)
Compiling a disk (Ready writes text) = ForLibrary a disk (λ library. Compiled a library writes text)

-- with `--generate` the summary is printed as a line
abbrev pub Generated : ℕ → List Write → List ℕ → Type 0
Generated number writes text = (writes ≡ []) × ((line : List ℕ) × Summarizes number line × (text ≡ line ++ codes "\n"))

abbrev pub Generating : ℕ → Ending → Type 0
Generating number (Refusing TooLong) = ⊥
Generating number (Refusing NotJson) = ⊥
Generating number (Refusing (Top line)) =
    (error : TopError) × (is_refusal error ≡ true) × RefusesNumber number error × (line ≡ concat (top_line error))
Generating number (Ready writes text) = Generated number writes text

-- what arguments ask for: files of a number and their tree are transcoded, the input is transcoded as a message of a type, or files are compiled
pub data Task : Type 0 where
  Generate : ℕ → Task
  Transcode : List ℕ → Task
  Compile : Task

abbrev pub task_by : Option ℕ → Option (List ℕ) → Task
task_by (Some number) name = Generate number
task_by None (Some name) = Transcode name
task_by None None = Compile

abbrev pub task : Args → Task
task a = task_by a.generate a.type_name

-- what the arguments come to, by what they ask for
abbrev pub ComesTo : Task → Args → Volume → List ℕ → Ending → Type 0
ComesTo (Generate number) a disk input ending = Generating number ending
ComesTo (Transcode name) a disk input ending = Transcoding a name disk input ending
ComesTo Compile a disk input ending = Compiling a disk ending

-- the same of all arguments
abbrev pub Judges : Args → Volume → List ℕ → Ending → Type 0
Judges a disk input ending = ComesTo (task a) a disk input ending

-- the indices of the paths that are given again, which are those of files that are compiled
abbrev pub repeated_by : Task → Args → List ℕ
repeated_by (Generate number) a = []
repeated_by t a = repeats (resolves_of a) a.files

abbrev pub repeated_of : Args → List ℕ
repeated_of a = repeated_by (task a) a

abbrev pub is_transcode : Task → Bool
is_transcode (Transcode name) = true
is_transcode t = false

-- whether the input is read
abbrev pub reads_input : Args → Bool
reads_input a = is_transcode (task a)
