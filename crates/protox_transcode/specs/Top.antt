-- What files, a type's name and a tree come to: the transcoding, or the first refusal.
use Rattle.std.specs.Prelude.{◌≡◌, ◌∷◌, [], ℕ, List, length, Bool, true, false, Option, Some, None, ◌⊎◌, codes, if◌then◌else◌}
use Rattle.serde_json.specs.Data.{Data}
use Rattle.pbx_content.specs.Content.{Content}
use Rattle.pbx_content.specs.Encoding.{encoded}
use Rattle.pbx_content.specs.Same.{Decodes}
use Rattle.pbx_content.specs.declared.shape.Shape.{Shape}
use Rattle.pbx_desc_records.specs.declared.file.FileDescriptorProto.{FileDescriptorProto}
use Rattle.pbx_desc_records.specs.declared.message.DescriptorProto.{DescriptorProto}
use Rattle.pbx_link_meaning.specs.Descriptors.{Described, message_of_name}
use Rattle.pbx_link_meaning.specs.Shapes.{shape_of, place_of}
use Rattle.pbx_json_meaning.specs.Canonical.{canonical}
use Rattle.pbx_json_meaning.specs.Clash.{ByAnyName, name_fault}
use Rattle.pbx_json_meaning.specs.Faults.{FirstJsonFault}
use Rattle.pbx_json_meaning.specs.Stands.{Stands}
use Rattle.pbx_json_meaning.specs.declared.error.JsonError.{JsonError}
use Rattle.pbx_json_meaning.specs.declared.kind.JsonKind.{JsonKind}
use Rattle.pbx_json_meaning.specs.declared.kind.JsonKind.TheVariants as json
use Rattle.pbx_json_meaning.specs.declared.names_fault.NameFault.{NameFault}
use Rattle.pbx_json_meaning.specs.declared.names_fault.NameFault.TheVariants as names
use Rattle.pbx_json_meaning.specs.declared.options.SerializeOptions.{SerializeOptions}
use Rattle.pbx_json_meaning.specs.Fits.{fits}
use Rattle.protox_file_error.specs.Errors.{IsWhole}
use Rattle.protox_file_error.specs.Lines.{long_line_of}
use Rattle.protox_file_sources.specs.Told.{Told, ByLookups}
use Rattle.protox_file_error.specs.declared.error.ErrorKind.{ErrorKind}
use Rattle.protox_file_error.specs.declared.error.ErrorKind.TheVariants as kinds
use Rattle.protox_compile_walk.specs.Walk.{Done, records}
use Rattle.protox_compile_walk.specs.Opening.{Accepted, closure}
use Rattle.protox_compile_walk.specs.Closures.{StopsAt}
use Rattle.protox_compile_walk.specs.Opens.{StopsAmong}
use Rattle.protox_compile.specs.Compiling.{AreCompiled}
use Rattle.protox_compile.specs.Sets.{IsSet, AreDecodable, IsUndecodable}
use Rattle.protox_compile.specs.State.{most_files}
use Rattle.protox_transcode.specs.Json.{json_line}
use Rattle.protox_transcode.specs.declared.error.TopError.{TopError}
use Rattle.protox_transcode.specs.declared.error.TopError.TheVariants.{File, JsonNames, WellKnownShape, TypeNotFound, Json, TooDeep, NoMemory}

-- The tree stands for a content that nests at most 100 levels, and whose payloads do so too; the wire bytes are its canonical encoding, and decode to
-- it; the written tree is its tree under the options, which stands for it again.
abbrev pub Transcodes : Shape → ℕ → Data → SerializeOptions → List ℕ → Data → Type 0
Transcodes shape t tree o wire written =
    (c : Content) × Stands shape t false tree c × (fits shape t c ≡ true) × Decodes shape t wire c × (wire ≡ encoded shape t c)
    × (canonical shape t c o ≡ Some written) × Stands shape t false written c

-- each key has one meaning in the JSON of each message of the files, whichever names fields are written under, and each message of a well-known name has
-- its shape
abbrev pub HaveClearNames : List FileDescriptorProto → Type 0
HaveClearNames files = name_fault ByAnyName (shape_of files) ≡ None

-- this holds of the shape of the files' types, and of the place of the type of the name in it
abbrev pub ForType : List ℕ → List FileDescriptorProto → (Shape → ℕ → Type 0) → Type 0
ForType name files P = (d : Described DescriptorProto) × (message_of_name files name ≡ Some d) × P (shape_of files) (place_of d)

-- Of these linked files each can be read again from their set, each key of their messages' JSON has one meaning, and each message of a well-known
-- name has its shape; and the tree is transcoded as a message of the type of that name, under the options.
pub record IsTranscoded (name : List ℕ) (tree : Data) (o : SerializeOptions) (files : List FileDescriptorProto)
    (set wire : List ℕ) (written : Data) : Type 0 where
  pub decodable : AreDecodable files
  pub set_is : IsSet files set
  pub clear : HaveClearNames files
  pub transcodes : ForType name files (λ shape t. Transcodes shape t tree o wire written)

-- The tree stands for no message of the type, and the error tells the first place where it breaks a rule of the JSON mapping; want of memory is no such
-- rule.
abbrev pub IsUnread : Shape → ℕ → Data → JsonError → Type 0
IsUnread shape t tree e =
    ¬ (e.kind ≡ json.NoMemory) × FirstJsonFault shape t false tree e.place e.kind × ((c : Content) → ¬ Stands shape t false tree c)

-- the tree stands for a message of the type that nests more than 100 levels, or a payload in it does, or does not decode
abbrev pub IsTooDeep : Shape → ℕ → Data → Type 0
IsTooDeep shape t tree = (c : Content) × Stands shape t false tree c × (fits shape t c ≡ false)

-- Why a type's name and a tree are refused among these linked files. A file is told first, then the names of the files' messages, their shapes, the
-- type's name, and the tree.
abbrev pub IsRefused : List ℕ → Data → List FileDescriptorProto → TopError → Type 0
IsRefused name tree files (File error) = IsUndecodable files error
IsRefused name tree files (JsonNames message key) = AreDecodable files × (name_fault ByAnyName (shape_of files) ≡ Some (names.JsonNames message key))
IsRefused name tree files (WellKnownShape message) = AreDecodable files × (name_fault ByAnyName (shape_of files) ≡ Some (names.WellKnownShape message))
IsRefused name tree files (TypeNotFound n) = AreDecodable files × HaveClearNames files × (n ≡ name) × (message_of_name files name ≡ None)
IsRefused name tree files (Json error) = AreDecodable files × HaveClearNames files × ForType name files (λ shape t. IsUnread shape t tree error)
IsRefused name tree files TooDeep = AreDecodable files × HaveClearNames files × ForType name files (λ shape t. IsTooDeep shape t tree)
IsRefused name tree files NoMemory = Unit {0}

-- this holds of the linked files of the paths and of all that they import, each once and behind its imports, where this is told of names
abbrev pub ForFiles : (List ℕ → Told) → (List ℕ → Option (List ℕ)) → List (List ℕ) → (List FileDescriptorProto → Type 0) → Type 0
ForFiles told resolves paths P =
    ByLookups told (λ lookups. (files : List Done) × (closure lookups resolves most_files paths [] ≡ (files, Accepted)) × P (records files))

-- why the files of paths are refused: a fault of the walk, or else a file that cannot be read again
abbrev pub RefusesFiles : (List ℕ → Told) → (List ℕ → Option (List ℕ)) → List (List ℕ) → ErrorKind → Type 0
RefusesFiles told resolves paths error =
    ByLookups told (λ lookups. (later : List Done) × StopsAt lookups resolves most_files paths [] later error)
    ⊎ ForFiles told resolves paths (λ files. IsUndecodable files error)

-- why paths, a type's name and a tree are refused
abbrev pub Refuses : (List ℕ → Told) → (List ℕ → Option (List ℕ)) → List (List ℕ) → List ℕ → Data → TopError → Type 0
Refuses told resolves paths name tree (File error) = RefusesFiles told resolves paths error
Refuses told resolves paths name tree NoMemory = Unit {0}
Refuses told resolves paths name tree error = ForFiles told resolves paths (λ files. IsRefused name tree files error)

-- a fault of the resolver, or want of memory
abbrev pub is_fault : ErrorKind → Bool
is_fault (kinds.OpenFile name path fault) = true
is_fault (kinds.Custom text is_io) = true
is_fault kinds.NoMemory = true
is_fault kind = false

-- a refusal of the input: neither a fault of the resolver nor want of memory
abbrev pub is_refusal : TopError → Bool
is_refusal (File error) = (if is_fault error then false else true)
is_refusal NoMemory = false
is_refusal error = true

-- a fault has its cause, no want of memory stands inside of an error, and some errors never come
abbrev pub IsCaused : (ErrorKind → Type 0) → TopError → Type 0
IsCaused fault (File (kinds.OpenFile name path words)) = fault (kinds.OpenFile name path words)
IsCaused fault (File (kinds.Custom text is_io)) = fault (kinds.Custom text is_io)
IsCaused fault (File kinds.NoMemory) = ⊥
IsCaused fault (File error) = IsWhole error
IsCaused fault (JsonNames message key) = Unit {0}
IsCaused fault (WellKnownShape message) = Unit {0}
IsCaused fault (TypeNotFound name) = Unit {0}
IsCaused fault (Json error) = ¬ (error.kind ≡ json.NoMemory)
IsCaused fault TooDeep = Unit {0}
IsCaused fault NoMemory = Unit {0}

-- why the walk stopped, over every resolver: a path was refused, those before it being opened, and what is known of that; or want of memory
abbrev pub IsStopped : List (List ℕ) → (ErrorKind → Type 0) → TopError → Type 0
IsStopped paths fault (File error) = (later : List Done) × StopsAmong most_files paths [] later fault error
IsStopped paths fault NoMemory = Unit {0}
IsStopped paths fault error = ⊥

-- Over every resolver: why the walk stopped, or else why the files that opening all paths leaves are refused.
abbrev pub IsJudged : List (List ℕ) → List ℕ → Data → (ErrorKind → Type 0) → TopError → Type 0
IsJudged paths name tree fault error =
    IsStopped paths fault error
    ⊎ ((files : List Done) × AreCompiled (length paths) files × IsRefused name tree (records files) error)

-- the line of an error, as the pieces that stand in it one after another
abbrev pub top_line : TopError → List (List ℕ)
top_line (File error) = long_line_of error
top_line (JsonNames message key) = codes "message '" ∷ message ∷ codes "' has clashing JSON name '" ∷ key ∷ codes "'" ∷ []
top_line (WellKnownShape message) = codes "message '" ∷ message ∷ codes "' has not its well-known shape" ∷ []
top_line (TypeNotFound name) = codes "type '" ∷ name ∷ codes "' not found" ∷ []
top_line (Json error) = json_line error
top_line TooDeep = codes "message nests more than 100 levels" ∷ []
top_line NoMemory = codes "out of memory" ∷ []

-- want of memory
abbrev pub is_memory : ErrorKind → Bool
is_memory kinds.NoMemory = true
is_memory kind = false

-- the error of a compiler's; want of memory stands inside of no other error
abbrev pub of_error : ErrorKind → TopError
of_error error = if is_memory error then NoMemory else File error

-- the error of a tree; want of memory stands inside of no other error
abbrev pub of_json_kind : JsonKind → JsonError → TopError
of_json_kind json.NoMemory error = NoMemory
of_json_kind kind error = Json error

-- the error of reading or writing a tree
abbrev pub of_json : JsonError → TopError
of_json error = of_json_kind error.kind error

-- the error of a message whose JSON has a key with two meanings, or that has not the shape of its well-known name
abbrev pub of_names : NameFault → TopError
of_names (names.JsonNames message key) = JsonNames message key
of_names (names.WellKnownShape message) = WellKnownShape message
of_names names.NoMemory = NoMemory
