-- What the parts of a run answer.
use Rattle.std.specs.Prelude.{◌≡◌, ◌⊎◌, ◌≤◌, ◌<◌, ℕ, List, length, true, IsTrue, Option, Some, None, Result, Ok, Err}
use Rattle.std.specs.List.{concat}
use Rattle.serde_json.specs.View.{view}
use Rattle.protox_io.specs.Disk.{Volume, Held}
use Rattle.protox_file_error.specs.Lines.{long_line_of}
use Rattle.protox_file_sources.specs.Library.{Library}
use Rattle.protox_transcode.specs.Json.{json_of}
use Rattle.protox_transcode.specs.Top.{Refuses, is_fault, is_refusal, top_line}
use Rattle.protox_transcode.specs.declared.error.TopError.{TopError}
use Rattle.protox_transcode.specs.declared.error.TopError.TheVariants as top
use Rattle.protox_words.specs.Words.{Args, WordFault}
use Rattle.protox_run.specs.Class.{limit, ForTree, Write, Refusing, Judges, Transcoded, Compiled}
use Rattle.protox_run.specs.Class.{RefusesSet, IsWholeError, Transcoding, Generating, IsNoSet, ForLibrary, LacksSet, reads_input}
use Rattle.protox_run.specs.Outcome.{Wrote, notes_of}
use Rattle.protox_run.specs.Stops.{Input, Reading, Writing, Printing, IsToldFaultLine, IsFaultLine, IsWriteTo, openings_of, set_line}
use Rattle.protox_run.specs.Stops.{RoseOf, Reached, StoppedAt, Untouched, Carrying, ForReady, StopsWriting, StopsPrinting}
use Rattle.protox_run.specs.Told.{Stop, Words, Refused, Broken, NoMemory, stop_told}
use Rattle.protox_run.specs.declared.carry.Ready.{Ready as ReadyHeld}
use Rattle.protox_run.specs.declared.files.Job.{Job}
use Rattle.protox_run.specs.declared.files.Job.TheVariants.{Transcode, Compile}
use Rattle.protox_run.specs.declared.stop.Refusal.TheVariants.{TooLong, NotJson, Top}
use Rattle.protox_run.specs.declared.stop.Stop.{Stop as StopHeld}

-- ---- the input

-- the input is no JSON text, or want of memory
abbrev pub IsJsonStop : List ℕ → Stop → Type 0
IsJsonStop input (Refused NotJson) = json_of input ≡ None
IsJsonStop input NoMemory = Unit {0}
IsJsonStop input stop = ⊥

-- the input ended the run before a file was read
abbrev pub IsInputStop : List ℕ → Stop → Type 0
IsInputStop input (Refused TooLong) = limit < length input
IsInputStop input (Refused NotJson) = (length input ≤ limit) × (json_of input ≡ None)
IsInputStop input (Broken Input) = Unit {0}
IsInputStop input NoMemory = Unit {0}
IsInputStop input stop = ⊥

-- reading the input failed, or what was read is no tree
abbrev pub IsInputCause : Type 0 → Stop → Type 0
IsInputCause rose (Refused TooLong) = Unit {0}
IsInputCause rose (Refused NotJson) = Unit {0}
IsInputCause rose (Broken Input) = rose
IsInputCause rose NoMemory = Unit {0}
IsInputCause rose stop = ⊥

-- ---- the files

-- a fault of reading a file, with its line
abbrev pub TellsFault : TopError → List ℕ → Type 0
TellsFault (top.File error) line = (is_fault error ≡ true) × (line ≡ concat (long_line_of error))
TellsFault error line = ⊥

-- the stop of an error, or want of memory
abbrev pub IsStopOf : TopError → Stop → Type 0
IsStopOf error (Refused (Top line)) = (is_refusal error ≡ true) × (line ≡ concat (top_line error))
IsStopOf error (Broken (Reading line)) = TellsFault error line
IsStopOf error NoMemory = Unit {0}
IsStopOf error stop = ⊥

-- why there is no set: the files are refused, or want of memory
abbrev pub IsSetRefusal : Args → Library → TopError → Type 0
IsSetRefusal args library (top.File error) = RefusesSet args library error
IsSetRefusal args library top.NoMemory = Unit {0}
IsSetRefusal args library error = ⊥

-- what a job makes of the files: they are compiled, and a tree is transcoded if there is one
abbrev pub Makes : Job → Args → Library → List Write → List ℕ → Type 0
Makes (Transcode name tree) args library writes text = Transcoded args name.now library (view tree) writes text
Makes Compile args library writes text = Compiled args library writes text

-- why a job is refused over the files, or want of memory
abbrev pub IsJobRefusal : Job → Args → Library → TopError → Type 0
IsJobRefusal (Transcode name tree) args library error = Refuses library.files library.resolves args.files name.now (view tree) error
IsJobRefusal Compile args library error = IsSetRefusal args library error

-- the line of a job's refusal
abbrev pub RefusesJob : Job → Args → Library → List ℕ → Type 0
RefusesJob job args library line =
    (error : TopError) × (is_refusal error ≡ true) × IsWholeError error × IsJobRefusal job args library error × (line ≡ concat (top_line error))

-- what a job made is handed on, or its error is told as a stop
abbrev pub HandsOn : Result ReadyHeld TopError → Result ReadyHeld StopHeld → Type 0
HandsOn (Ok made) (Ok ready) = ready ≡ made
HandsOn (Ok made) (Err stop) = ⊥
HandsOn (Err error) (Ok ready) = ⊥
HandsOn (Err error) (Err stop) = IsStopOf error (stop_told stop)

-- the set, or the files, ended the run
abbrev pub IsFileStop : Job → Args → Volume → Stop → Type 0
IsFileStop job args disk (Refused (Top line)) = LacksSet args.descriptor_set_in disk line ⊎ ForLibrary args disk (λ library. RefusesJob job args library line)
IsFileStop job args disk (Broken (Reading line)) = IsToldFaultLine args disk line
IsFileStop job args disk NoMemory = Unit {0}
IsFileStop job args disk stop = ⊥

-- a refusal with this line, or want of memory
abbrev pub IsStopWith : List ℕ → Stop → Type 0
IsStopWith wanted (Refused (Top line)) = line ≡ wanted
IsStopWith wanted NoMemory = Unit {0}
IsStopWith wanted stop = ⊥

-- the set at the path could not be read, or want of memory
abbrev pub IsUnreadSet : List ℕ → Stop → Type 0
IsUnreadSet path (Broken (Reading line)) = line ≡ set_line path
IsUnreadSet path NoMemory = Unit {0}
IsUnreadSet path stop = ⊥

-- what was read at the path of the set is none, or reading failed, or want of memory
abbrev pub IsReadStop : List ℕ → Held → Stop → Type 0
IsReadStop path held (Refused (Top line)) = IsNoSet path held line
IsReadStop path held (Broken (Reading line)) = line ≡ set_line path
IsReadStop path held NoMemory = Unit {0}
IsReadStop path held stop = ⊥

-- a stop while the set is read has the disk's count as its cause
abbrev pub IsReadCause : List ℕ → Type 0 → Stop → Type 0
IsReadCause path rose (Refused (Top line)) = Unit {0}
IsReadCause path rose (Broken (Reading line)) = rose × (line ≡ set_line path)
IsReadCause path rose NoMemory = Unit {0}
IsReadCause path rose stop = ⊥

-- with `--type`, the same or the input
abbrev pub IsTranscodingStop : Args → List ℕ → Volume → List ℕ → Stop → Type 0
IsTranscodingStop args name disk input (Refused refusal) = Transcoding args name disk input (Refusing refusal)
IsTranscodingStop args name disk input (Broken Input) = Unit {0}
IsTranscodingStop args name disk input (Broken (Reading line)) = ForTree input (λ tree. IsToldFaultLine args disk line)
IsTranscodingStop args name disk input NoMemory = Unit {0}
IsTranscodingStop args name disk input stop = ⊥

-- a stop while files are read has the disk's count as its cause, which rose at each opening
abbrev pub IsFileCause : Args → (ℕ → Type 0) → Stop → Type 0
IsFileCause args rose (Refused (Top line)) = Unit {0}
IsFileCause args rose (Broken (Reading line)) = rose (openings_of args) × IsFaultLine args line
IsFileCause args rose NoMemory = Unit {0}
IsFileCause args rose stop = ⊥

-- a schema that is generated ended the run
abbrev pub IsGeneratedStop : ℕ → Stop → Type 0
IsGeneratedStop number (Refused refusal) = Generating number (Refusing refusal)
IsGeneratedStop number NoMemory = Unit {0}
IsGeneratedStop number stop = ⊥

-- what a stop before any write says of what was read
abbrev pub PlanStops : Args → Volume → List ℕ → Stop → Type 0
PlanStops args disk input (Refused refusal) = Judges args disk input (Refusing refusal)
PlanStops args disk input (Broken Input) = IsTrue (reads_input args)
PlanStops args disk input (Broken (Reading line)) = Reached disk input (Reading line) args
PlanStops args disk input NoMemory = Unit {0}
PlanStops args disk input stop = ⊥

-- ---- the writes

-- a write was refused, or want of memory
abbrev pub IsWriteStop : List Write → Stop → Type 0
IsWriteStop writes (Broken (Writing path)) = IsWriteTo path writes
IsWriteStop writes NoMemory = Unit {0}
IsWriteStop writes stop = ⊥

abbrev pub IsPrintStop : Stop → Type 0
IsPrintStop (Broken Printing) = Unit {0}
IsPrintStop NoMemory = Unit {0}
IsPrintStop stop = ⊥

-- a stop while writing has the count of disk or out as its cause
abbrev pub IsCarryStop : Type 0 → Type 0 → Stop → Type 0
IsCarryStop disk out (Broken (Writing path)) = disk
IsCarryStop disk out (Broken Printing) = out
IsCarryStop disk out NoMemory = Unit {0}
IsCarryStop disk out stop = ⊥

-- one of the writes was refused, that of the path of the stop
abbrev pub WriteStops : List Write → Volume → Volume → Stop → Type 0
WriteStops writes old new (Broken (Writing path)) = (s : StoppedAt writes old new) × (s.next.path ≡ path)
WriteStops writes old new NoMemory = StoppedAt writes old new
WriteStops writes old new stop = ⊥

-- the writes were done, or one of them was refused
abbrev pub WritesOne : {T : Type 0} → List Write → Volume → Volume → Result T StopHeld → Type 0
WritesOne writes old new (Ok done) = Wrote writes old new
WritesOne writes old new (Err stop) = WriteStops writes old new (stop_told stop)

-- what a stop while writing leaves, and how far the writing had come
abbrev pub CarryStops : List Write → List ℕ → Volume → Volume → List ℕ → Type 0 → Type 0 → Stop → Type 0
CarryStops writes text disk later out rose refused (Broken (Writing path)) = IsWriteTo path writes × rose × StopsWriting path writes disk later out
CarryStops writes text disk later out rose refused (Broken Printing) = StopsPrinting writes text disk later out refused
CarryStops writes text disk later out rose refused NoMemory = Carrying writes text disk later out (Unit {0}) refused
CarryStops writes text disk later out rose refused stop = ⊥

-- all was written and printed, or not
abbrev pub Carries : {T : Type 0} → List Write → List ℕ → Volume → Volume → Type 0 → Type 0 → Result T StopHeld → List ℕ → Type 0
Carries writes text disk later rose refused (Ok done) out = Wrote writes disk later × (out ≡ text)
Carries writes text disk later rose refused (Err stop) out = CarryStops writes text disk later out rose refused (stop_told stop)

-- ---- a run with arguments

abbrev pub Caused : Args → (ℕ → Type 0) → Type 0 → Type 0 → Stop → Type 0
Caused args disk input out (Words fault) = ⊥
Caused args disk input out (Refused refusal) = Unit {0}
Caused args disk input out (Broken object) = RoseOf disk input out object args
Caused args disk input out NoMemory = Unit {0}

-- what a stop leaves
abbrev pub WorkStops : Args → Volume → List ℕ → Volume → List ℕ → Type 0 → Type 0 → Stop → Type 0
WorkStops args disk input later out rose refused (Words fault) = ⊥
WorkStops args disk input later out rose refused (Refused refusal) = Judges args disk input (Refusing refusal) × Untouched disk later out
WorkStops args disk input later out rose refused (Broken Input) = IsTrue (reads_input args) × Untouched disk later out
WorkStops args disk input later out rose refused (Broken (Reading line)) = Reached disk input (Reading line) args × Untouched disk later out
WorkStops args disk input later out rose refused (Broken (Writing path)) =
    ForReady args disk input (λ writes text. IsWriteTo path writes × rose × StopsWriting path writes disk later out)
WorkStops args disk input later out rose refused (Broken Printing) =
    ForReady args disk input (λ writes text. StopsPrinting writes text disk later out refused)
WorkStops args disk input later out rose refused NoMemory =
    Untouched disk later out ⊎ ForReady args disk input (λ writes text. Carrying writes text disk later out (Unit {0}) refused)

-- what a run with arguments leaves: all was read, accepted and written, or it was stopped
abbrev pub Works : Args → Volume → List ℕ → Volume → Type 0 → Type 0 → Option Stop → List ℕ → Type 0
Works args disk input later rose refused None out = ForReady args disk input (λ writes text. Wrote writes disk later × (out ≡ text))
Works args disk input later rose refused (Some stop) out = WorkStops args disk input later out rose refused stop

-- ---- a run

-- what faulty words leave
abbrev pub WordEnds : WordFault → Volume → Volume → List ℕ → Option Stop → Type 0
WordEnds fault disk later out (Some (Words f)) = (f ≡ fault) × Untouched disk later out
WordEnds fault disk later out (Some NoMemory) = Untouched disk later out
WordEnds fault disk later out end = ⊥

abbrev pub Comes : Result Args WordFault → Volume → List ℕ → Volume → Type 0 → Type 0 → Option Stop → List ℕ → Type 0
Comes (Err fault) disk input later rose refused end out = WordEnds fault disk later out end
Comes (Ok args) disk input later rose refused end out = Works args disk input later rose refused end out

-- how faulty words end a run over every disk, input and output
abbrev pub IsWordEnd : WordFault → Option Stop → Type 0
IsWordEnd fault (Some (Words f)) = f ≡ fault
IsWordEnd fault (Some NoMemory) = Unit {0}
IsWordEnd fault end = ⊥

-- a run that was not stopped has the notes of its arguments
abbrev pub HasNotes : Result Args WordFault → List ℕ → Type 0
HasNotes (Err fault) notes = ⊥
HasNotes (Ok args) notes = notes ≡ notes_of args

abbrev pub CausedEnd : Args → (ℕ → Type 0) → Type 0 → Type 0 → Option Stop → Type 0
CausedEnd args disk input out None = Unit {0}
CausedEnd args disk input out (Some stop) = Caused args disk input out stop

abbrev pub EndsFor : Result Args WordFault → (ℕ → Type 0) → Type 0 → Type 0 → Option Stop → Type 0
EndsFor (Err fault) disk input out end = IsWordEnd fault end
EndsFor (Ok args) disk input out end = CausedEnd args disk input out end
