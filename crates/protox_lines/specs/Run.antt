-- A run of the program `protox_lines`: what words, a disk and an input come to, and what a run leaves.
-- States: the contract of `run_lines`.
use Rattle.std.specs.Prelude.{◌≡◌, ◌≤◌, ◌⊎◌, ◌∷◌, [], ℕ, List, false, IsTrue, Option, Some, None, option_map, Result, Ok, Err, codes, if◌then◌else◌}
use Rattle.std.specs.List.{concat}
use Rattle.std.specs.Str.{bytes_eq}
use Rattle.pbx_desc_records.specs.declared.file.FileDescriptorProto.{FileDescriptorProto}
use Rattle.pbx_desc_records.specs.declared.message.DescriptorProto.{DescriptorProto}
use Rattle.pbx_link_meaning.specs.Descriptors.{Described}
use Rattle.protox_io.specs.Disk.{Volume}
use Rattle.protox_lines_items.specs.Told.{is_stopped}
use Rattle.protox_lines_items.specs.declared.error.LineError.{LineError}
use Rattle.protox_lines_items.specs.declared.error.LineError.TheVariants as errors
use Rattle.protox_lines.specs.Converter.{IsConverter, IsNoConverter, GivesRecords, GivesLines}
use Rattle.protox_lines.specs.Lines.{error_line as line_of_error}
use Rattle.protox_run.specs.Outcome.{error_line}
use Rattle.protox_run.specs.Run.{Run, AllTell, AllStay, ForPrinted, Raised, Refuses, Tells}
use Rattle.protox_run.specs.Stops.{Object, Input, Reading, Printing, object_line, memory_line}
use Rattle.protox_sets.specs.Sets.{HasPool, IsRefusedSet, unread_line}
use Rattle.protox_transcode.specs.Top.{top_line, is_refusal}
use Rattle.protox_transcode.specs.declared.error.TopError.{TopError}

-- ---- the words

-- from lines to records, or back
pub data Direction : Type 0 where
  ToRecords : Direction
  ToLines : Direction

-- what words ask for: a direction, the path of a set, and the name of a type of it
pub record Request : Type 0 where
  pub direction : Direction
  pub set : List ℕ
  pub name : List ℕ

abbrev pub request : Direction → List ℕ → List ℕ → Request
request direction set name = record { direction = direction; set = set; name = name }

abbrev pub direction_named : List ℕ → Option Direction
direction_named word =
    if bytes_eq word (codes "to") then Some ToRecords else if bytes_eq word (codes "from") then Some ToLines else None

-- what the words `to SET TYPE` or `from SET TYPE` ask for
abbrev pub asked : List (List ℕ) → Option Request
asked (word ∷ set ∷ name ∷ []) = option_map (λ direction. request direction set name) (direction_named word)
asked words = None

abbrev pub usage : List ℕ
usage = codes "usage: protox_lines to|from SET TYPE"

-- ---- what a request comes to

-- the bytes are converted so
abbrev pub Gives : Direction → Described DescriptorProto → List ℕ → Result ℕ LineError → List ℕ → Type 0
Gives ToRecords = GivesRecords
Gives ToLines = GivesLines

-- a conversion to the end is status 0; a faulty item, or too many bytes, is status 1 and has its line
abbrev pub Ends : Result ℕ LineError → ℕ → List ℕ → Type 0
Ends (Ok n) status line = (status ≡ 0) × (line ≡ [])
Ends (Err e) status line = (is_stopped e ≡ false) × (status ≡ 1) × (line ≡ error_line (concat (line_of_error e) ∷ []))

-- the input is converted, among these linked files
abbrev pub Converts : Request → List FileDescriptorProto → List ℕ → ℕ → List ℕ → List ℕ → Type 0
Converts r files input status printed line =
    (d : Described DescriptorProto) × IsConverter files r.name d
    × ((result : Result ℕ LineError) × Gives r.direction d input result printed × Ends result status line)

-- there is no converter, which is status 1 and has its line
abbrev pub LacksConverter : Request → List FileDescriptorProto → ℕ → List ℕ → List ℕ → Type 0
LacksConverter r files status printed line =
    (error : TopError) × IsNoConverter files r.name error × IsTrue (is_refusal error)
    × (status ≡ 1) × (printed ≡ []) × (line ≡ error_line (concat (top_line error) ∷ []))

-- the set is refused, which is status 1 and has its line
abbrev pub LacksPool : Volume → Request → ℕ → List ℕ → List ℕ → Type 0
LacksPool disk r status printed line =
    (status ≡ 1) × (printed ≡ []) × ((told : List ℕ) × IsRefusedSet disk r.set told × (line ≡ error_line (told ∷ [])))

-- what words, a disk and an input come to: a status of 0 to 2, what is printed, and the line on err
abbrev pub Obeys : Option Request → Volume → List ℕ → ℕ → List ℕ → List ℕ → Type 0
Obeys None disk input status printed line = (status ≡ 2) × (printed ≡ []) × (line ≡ error_line (usage ∷ []))
Obeys (Some r) disk input status printed line =
    LacksPool disk r status printed line
    ⊎ ((files : List FileDescriptorProto) × HasPool disk r.set files
    × (LacksConverter r files status printed line ⊎ Converts r files input status printed line))

-- ---- what stops a run

-- what is printed by a run that was stopped: nothing, or the first bytes of what comes of the input
abbrev pub Leaves : Option Request → Volume → List ℕ → List ℕ → Type 0
Leaves None disk input printed = printed ≡ []
Leaves (Some r) disk input printed =
    (printed ≡ [])
    ⊎ ((files : List FileDescriptorProto) × HasPool disk r.set files
    × ((d : Described DescriptorProto) × IsConverter files r.name d × Gives r.direction d input (Err errors.NoMemory) printed))

-- why the status is 3: the count of the disk rose in reading the set, that of the input, or that of out
abbrev pub Rises : Run → Option Request → Object → Type 0
Rises run (Some r) Input = Raised run.input
Rises run (Some r) (Reading line) = Raised run.disk × (line ≡ unread_line r.set)
Rises run (Some r) Printing = Raised run.out
Rises run asked object = ⊥

-- the status is 2, and err has how the program is called, exactly where words are of another number or form
abbrev pub IsUsageStatus : Run → Option Request → Type 0
IsUsageStatus run None = (run.status ≡ 2) × Tells run (error_line (usage ∷ []))
IsUsageStatus run (Some r) = ¬ (run.status ≡ 2)

-- What holds of every run.
pub record RunsLines (run : Run) : Type 0 where
  -- the status is one of five
  pub status : run.status ≤ 4
  -- status 2 is that of words, over every disk and stream
  pub words : IsUsageStatus run (asked run.words)
  -- a status of 0 to 2 is that of what the words come to, whatever counts rose
  pub outcome : AllTell run → run.status ≤ 2 →
      (line : List ℕ) × ForPrinted run (λ printed. Obeys (asked run.words) run.disk.old run.input.old.left run.status printed line) × Tells run line
  -- status 3 has its cause
  pub fault : run.status ≡ 3 → (object : Object) × Rises run (asked run.words) object × Tells run (error_line (object_line object))
  -- status 4 is want of memory
  pub memory : run.status ≡ 4 → Tells run (error_line memory_line)
  -- what a status of 3 or 4 leaves on out
  pub stopped : AllTell run → 3 ≤ run.status → ForPrinted run (Leaves (asked run.words) run.disk.old run.input.old.left)
  -- the input is read to its end where all was done
  pub input : IsTrue run.input.old.tells → run.status ≡ 0 → run.input.new.left ≡ []
  -- no file is written
  pub disk : run.disk.new ≡ run.disk.old
  -- nothing ceases to tell, and no count falls
  pub stays : AllStay run
