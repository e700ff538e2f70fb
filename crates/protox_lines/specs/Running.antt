-- What the parts of a run of `protox_lines` answer.
use Rattle.std.specs.Prelude.{◌≡◌, ◌⊎◌, ◌∷◌, [], ℕ, List, false, IsTrue, Option, Some, None, Result, Ok, Err, codes}
use Rattle.std.specs.List.{concat}
use Rattle.pbx_desc_records.specs.declared.message.DescriptorProto.{DescriptorProto}
use Rattle.pbx_link_meaning.specs.Descriptors.{Described}
use Rattle.protox_io.specs.Disk.{Volume}
use Rattle.protox_lines_items.specs.Told.{is_stopped}
use Rattle.protox_lines_items.specs.declared.error.LineError.{LineError}
use Rattle.protox_lines_items.specs.declared.error.LineError.TheVariants as errors
use Rattle.protox_lines.specs.Lines.{error_line as line_of_error}
use Rattle.protox_lines.specs.Run.{Direction, ToRecords, ToLines, Request, request, usage, Gives, Obeys, Leaves}
use Rattle.protox_lines.specs.declared.run.Direction.{Direction as DirectionHeld}
use Rattle.protox_lines.specs.declared.run.Direction.TheVariants as directions
use Rattle.protox_lines.specs.declared.run.Request.{Request as RequestHeld}
use Rattle.protox_run.specs.Outcome.{error_line}
use Rattle.protox_sets.specs.Sets.{unread_line}
use Rattle.protox_sets.specs.Stops.{stop_status, stop_line}
use Rattle.protox_sets.specs.declared.stop.Stop.{Stop}
use Rattle.protox_sets.specs.declared.stop.Stop.TheVariants.{Usage, Refused, Broken, NoMemory}
use Rattle.protox_transcode.specs.Top.{top_line, is_refusal}
use Rattle.protox_transcode.specs.declared.error.TopError.{TopError}

abbrev pub direction_told : DirectionHeld → Direction
direction_told directions.ToRecords = ToRecords
direction_told directions.ToLines = ToLines

abbrev pub request_told : RequestHeld → Request
request_told r = request (direction_told r.direction) r.set.now r.name.now

-- there is no converter, for this error
abbrev pub IsConverterStop : TopError → Stop → Type 0
IsConverterStop error (Refused line) = IsTrue (is_refusal error) × (line ≡ concat (top_line error))
IsConverterStop error NoMemory = Unit {0}
IsConverterStop error stop = ⊥

-- a source or a sink failed
abbrev pub HasFailed : LineError → Type 0
HasFailed errors.ReadFault = Unit {0}
HasFailed errors.WriteFault = Unit {0}
HasFailed error = ⊥

-- a stream is not converted to its end, for this error
abbrev pub IsStreamStop : LineError → Stop → Type 0
IsStreamStop error (Refused line) = (is_stopped error ≡ false) × (line ≡ concat (line_of_error error))
IsStreamStop error (Broken line) = HasFailed error × (line ≡ concat (line_of_error error))
IsStreamStop error NoMemory = Unit {0}
IsStreamStop error Usage = ⊥

-- a conversion that was done, or stopped so
abbrev pub EndsAs : {T : Type 0} → Result ℕ LineError → Result T Stop → Type 0
EndsAs (Ok n) (Ok x) = Unit {0}
EndsAs (Ok n) (Err stop) = ⊥
EndsAs (Err e) (Ok x) = ⊥
EndsAs (Err e) (Err stop) = IsStreamStop e stop

-- what converting a stream comes to
abbrev pub StreamEnds : Direction → Described DescriptorProto → List ℕ → {T : Type 0} → Result T Stop → List ℕ → Type 0
StreamEnds direction d input (Ok x) printed = (n : ℕ) × Gives direction d input (Ok n) printed
StreamEnds direction d input (Err stop) printed = (e : LineError) × Gives direction d input (Err e) printed × IsStreamStop e stop

-- a source or a sink failed with this line, and has a cause
abbrev pub IsStreamCause : Type 0 → Type 0 → Stop → Type 0
IsStreamCause input out (Broken line) =
    (input × (line ≡ codes "reading input failed")) ⊎ (out × (line ≡ codes "writing output failed"))
IsStreamCause input out Usage = ⊥
IsStreamCause input out stop = Unit {0}

-- what words come to
abbrev pub RunEnds : {T : Type 0} → Option Request → Volume → List ℕ → Result T Stop → List ℕ → Type 0
RunEnds asked disk input (Ok x) printed = Obeys asked disk input 0 printed []
RunEnds asked disk input (Err Usage) printed = Obeys asked disk input 2 printed (error_line (usage ∷ []))
RunEnds asked disk input (Err (Refused line)) printed = Obeys asked disk input 1 printed (error_line (line ∷ []))
RunEnds asked disk input (Err (Broken line)) printed = Leaves asked disk input printed
RunEnds asked disk input (Err NoMemory) printed = Leaves asked disk input printed

-- how the program is called is told exactly where words ask for nothing
abbrev pub IsUsage : {T : Type 0} → Option Request → Result T Stop → Type 0
IsUsage None (Err Usage) = Unit {0}
IsUsage None end = ⊥
IsUsage (Some r) (Err Usage) = ⊥
IsUsage (Some r) end = Unit {0}

-- something outside failed with this line, and has a cause
abbrev pub IsRunCause : Option Request → Type 0 → Type 0 → Type 0 → Stop → Type 0
IsRunCause (Some r) disk input out (Broken line) = (disk × (line ≡ unread_line r.set)) ⊎ IsStreamCause input out (Broken line)
IsRunCause None disk input out (Broken line) = ⊥
IsRunCause asked disk input out stop = Unit {0}

-- ---- what err is told

abbrev pub status_of : {T : Type 0} → Result T Stop → ℕ
status_of (Ok x) = 0
status_of (Err stop) = stop_status stop

abbrev pub line_told : {T : Type 0} → Result T Stop → List ℕ
line_told (Ok x) = []
line_told (Err stop) = error_line (stop_line usage stop ∷ [])
