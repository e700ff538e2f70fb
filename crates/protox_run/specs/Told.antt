-- What the values of a run stand for.
use Rattle.std.specs.Prelude.{◌≡◌, ◌++◌, ◌∷◌, [], ℕ, List, Bool, Option, Some, None, Result, Ok, Err, codes}
use Rattle.protox_io.specs.Count.{Count, Later}
use Rattle.protox_words.specs.Words.{WordFault, fault_pieces}
use Rattle.protox_words.specs.Told.{fault_told}
use Rattle.protox_run.specs.Class.{Write}
use Rattle.protox_run.specs.Outcome.{Pieces, error_line, notes_at, refusal_line}
use Rattle.protox_run.specs.Stops.{Object, Input, Reading, Writing, Printing, object_line, memory_line}
use Rattle.protox_run.specs.declared.carry.Write.{Write as WriteHeld}
use Rattle.protox_run.specs.declared.carry.Ready.{Ready as ReadyHeld}
use Rattle.protox_run.specs.declared.stop.Notes.{Notes}
use Rattle.protox_run.specs.declared.stop.Refusal.{Refusal}
use Rattle.protox_run.specs.declared.stop.Object.{Object as ObjectHeld}
use Rattle.protox_run.specs.declared.stop.Object.TheVariants as objects
use Rattle.protox_run.specs.declared.stop.Stop.{Stop as StopHeld}
use Rattle.protox_run.specs.declared.stop.Stop.TheVariants as stops

abbrev pub object_told : ObjectHeld → Object
object_told objects.Input = Input
object_told (objects.Reading line) = Reading line
object_told (objects.Path path) = Writing path.now
object_told objects.Output = Printing

-- why a run ends before all is written
pub data Stop : Type 0 where
  Words : WordFault → Stop
  Refused : Refusal → Stop
  Broken : Object → Stop
  NoMemory : Stop

abbrev pub stop_told : StopHeld → Stop
stop_told (stops.Words fault) = Words (fault_told fault)
stop_told (stops.Refused refusal) = Refused refusal
stop_told (stops.Broken object) = Broken (object_told object)
stop_told stops.NoMemory = NoMemory

-- the stop of a run, if it was stopped
abbrev pub ended : {T : Type 0} → Result T StopHeld → Option Stop
ended (Ok done) = None
ended (Err stop) = Some (stop_told stop)

-- the writes, each where it is asked for
abbrev pub write_told : Option WriteHeld → List Write
write_told None = []
write_told (Some w) = record { path = w.path.now; bytes = w.bytes } ∷ []

abbrev pub writes_told : ReadyHeld → List Write
writes_told r = write_told r.set ++ write_told r.wire

-- the line to print, if there is one
abbrev pub line_told : Option (List ℕ) → List ℕ
line_told None = []
line_told (Some line) = line ++ codes "\n"

abbrev pub stop_line : Stop → Pieces
stop_line (Words fault) = fault_pieces fault
stop_line (Refused refusal) = refusal_line refusal
stop_line (Broken object) = object_line object
stop_line NoMemory = memory_line

-- what err is told of an end: these notes, or why the run was stopped
abbrev pub line_of : List ℕ → Option Stop → List ℕ
line_of notes None = notes
line_of notes (Some stop) = error_line (stop_line stop)

-- the notes of paths that were given again
abbrev pub notes_told : Notes → List ℕ
notes_told notes = notes_at notes.files notes.repeated

abbrev pub stop_status : Stop → ℕ
stop_status (Words fault) = 2
stop_status (Refused refusal) = 1
stop_status (Broken object) = 3
stop_status NoMemory = 4

abbrev pub status_of : Option Stop → ℕ
status_of None = 0
status_of (Some stop) = stop_status stop

-- an object still tells what it told of, or does not, and its count never falls
abbrev pub Lasts : Bool → Bool → Count → Count → Type 0
Lasts told tells before after = (tells ≡ told) × Later before after
