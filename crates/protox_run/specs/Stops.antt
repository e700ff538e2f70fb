-- Why a run was stopped from outside or for want of memory, and what stands then.
use Rattle.std.specs.Prelude.{◌≡◌, ◌⊎◌, ◌+◌, ◌∷◌, ◌++◌, [], ℕ, List, IsTrue, Option, Some, None, Result, Ok, Err, codes}
use Rattle.std.specs.List.{concat}
use Rattle.protox_io.specs.Disk.{Volume, SameBut, IsOpen, untold}
use Rattle.protox_io.specs.Paths.{disk_key}
use Rattle.protox_io.specs.Sink.{Begins}
use Rattle.protox_file_error.specs.Lines.{long_line_of}
use Rattle.protox_file_error.specs.declared.error.ErrorKind.{ErrorKind}
use Rattle.protox_file_sources.specs.Causes.{IsNamedFault}
use Rattle.protox_compile.specs.Compiling.{StopsWalk}
use Rattle.protox_words.specs.Words.{Args, WordFault, retries_of}
use Rattle.protox_run.specs.Class.{Write, Ready, Judges, ForTree, folder_files, reads_input}
use Rattle.protox_run.specs.Outcome.{Pieces, Wrote}

-- what stands outside and failed: the input, reading a file or the set, with its line, writing under a path, out
pub data Object : Type 0 where
  Input : Object
  Reading : List ℕ → Object
  Writing : List ℕ → Object
  Printing : Object

-- the line of an object that failed
abbrev pub object_line : Object → Pieces
object_line Input = codes "reading input failed" ∷ []
object_line (Reading line) = line ∷ []
object_line (Writing path) = codes "writing '" ∷ path ∷ codes "' failed" ∷ []
object_line Printing = codes "writing output failed" ∷ []

abbrev pub memory_line : Pieces
memory_line = codes "out of memory" ∷ []

-- the run has arguments, of which this holds
abbrev pub ForArgs : Result Args WordFault → (Args → Type 0) → Type 0
ForArgs (Err fault) P = ⊥
ForArgs (Ok args) P = P args

-- the line of a set that could not be read
abbrev pub set_line : List ℕ → List ℕ
set_line path = concat (codes "reading '" ∷ path ∷ codes "' failed" ∷ [])

-- The line of a fault of reading: of a name, at its path in one of the folders, or of the set. No path depends on what the disk holds.
abbrev pub IsFaultLineBy : Option (List ℕ) → Args → List ℕ → Type 0
IsFaultLineBy None args line = (error : ErrorKind) × IsNamedFault (folder_files args untold).may_fail error × (line ≡ concat (long_line_of error))
IsFaultLineBy (Some path) args line = line ≡ set_line path

abbrev pub IsFaultLine : Args → List ℕ → Type 0
IsFaultLine args line = IsFaultLineBy args.descriptor_set_in args line

-- the same, where the walk over the files of the folders and what they import is refused with that fault
abbrev pub IsToldFaultLineBy : Option (List ℕ) → Args → Volume → List ℕ → Type 0
IsToldFaultLineBy None args disk line =
    (error : ErrorKind) × IsNamedFault (folder_files args untold).may_fail error × StopsWalk (folder_files args disk) args.files error
    × (line ≡ concat (long_line_of error))
IsToldFaultLineBy (Some path) args disk line = line ≡ set_line path

abbrev pub IsToldFaultLine : Args → Volume → List ℕ → Type 0
IsToldFaultLine args disk line = IsToldFaultLineBy args.descriptor_set_in args disk line

-- how often a path of a file is opened before a fault of reading it is told; the set is read once
abbrev pub openings_by : Option (List ℕ) → Args → ℕ
openings_by None args = retries_of args + 1
openings_by (Some path) args = 1

abbrev pub openings_of : Args → ℕ
openings_of args = openings_by args.descriptor_set_in args

-- The count of the object rose, that of the disk so often: once for a write. A fault of reading says which file could not be read, and why,
-- or that the set could not be.
abbrev pub RoseOf : (ℕ → Type 0) → Type 0 → Type 0 → Object → Args → Type 0
RoseOf disk input out Input args = input
RoseOf disk input out (Reading line) args = disk (openings_of args) × IsFaultLine args line
RoseOf disk input out (Writing path) args = disk 1
RoseOf disk input out Printing args = out

-- one of the paths that the writes go to
abbrev pub IsWriteTo : List ℕ → List Write → Type 0
IsWriteTo path [] = ⊥
IsWriteTo path (w ∷ ws) = (path ≡ w.path) ⊎ IsWriteTo path ws

-- all was read and accepted, and these writes and this text came of it
abbrev pub ForReady : Args → Volume → List ℕ → (List Write → List ℕ → Type 0) → Type 0
ForReady args disk input P = (writes : List Write) × (text : List ℕ) × Judges args disk input (Ready writes text) × P writes text

-- How far the run had come. Files and the set are read behind the input, where that is read and is a tree; a write and a print come only where all was read and
-- accepted.
abbrev pub Reached : Volume → List ℕ → Object → Args → Type 0
Reached disk input Input args = IsTrue (reads_input args)
Reached disk input (Reading line) args = (IsTrue (reads_input args) → ForTree input (λ tree. Unit {0})) × IsToldFaultLine args disk line
Reached disk input (Writing path) args = ForReady args disk input (λ writes text. IsWriteTo path writes)
Reached disk input Printing args = ForReady args disk input (λ writes text. Unit {0})

-- nothing was written
pub record Untouched (disk later : Volume) (out : List ℕ) : Type 0 where
  pub same : later ≡ disk
  pub silent : out ≡ []

-- The first writes were done, and the next one was refused, which left its key as it was or spoiled.
pub record StoppedAt (writes : List Write) (disk later : Volume) : Type 0 where
  pub done : List Write
  pub next : Write
  pub left : List Write
  pub split : writes ≡ done ++ next ∷ left
  pub middle : Volume
  pub wrote : Wrote done disk middle
  pub own : IsOpen (disk_key next.path) middle later
  pub others : SameBut (disk_key next.path) middle later

-- the write under this path was refused, and nothing is printed
abbrev pub StopsWriting : List ℕ → List Write → Volume → Volume → List ℕ → Type 0
StopsWriting path writes disk later out = (s : StoppedAt writes disk later) × (s.next.path ≡ path) × (out ≡ [])

-- all was written, and out refused a write and holds the first bytes
abbrev pub StopsPrinting : List Write → List ℕ → Volume → Volume → List ℕ → Type 0 → Type 0
StopsPrinting writes text disk later out out_refused = Wrote writes disk later × out_refused × Begins out text

-- A write was refused, and nothing is printed; or all was written, and out refused a write and holds the first bytes.
abbrev pub Carrying : List Write → List ℕ → Volume → Volume → List ℕ → Type 0 → Type 0 → Type 0
Carrying writes text disk later out path_refused out_refused =
    (path_refused × StoppedAt writes disk later × (out ≡ [])) ⊎ StopsPrinting writes text disk later out out_refused

-- Where the object that failed leaves a run: of the input and of reading, nothing was written; of a write or a print, all was read and accepted, and what
-- comes before it was done.
abbrev pub LeftBy : Result Args WordFault → Volume → List ℕ → Volume → List ℕ → Type 0 → Object → Type 0
LeftBy read disk input later out out_refused (Writing path) =
    ForArgs read (λ args. ForReady args disk input (λ writes text. StopsWriting path writes disk later out))
LeftBy read disk input later out out_refused Printing =
    ForArgs read (λ args. ForReady args disk input (λ writes text. StopsPrinting writes text disk later out out_refused))
LeftBy read disk input later out out_refused object = Untouched disk later out

-- where a stop leaves a run: nothing was written, or all was read and accepted and the writing was begun
abbrev pub Leftover : Result Args WordFault → Volume → List ℕ → Volume → List ℕ → Type 0 → Type 0 → Type 0
Leftover read disk input later out path_refused out_refused =
    Untouched disk later out
    ⊎ ForArgs read (λ args. ForReady args disk input (λ writes text. Carrying writes text disk later out path_refused out_refused))
