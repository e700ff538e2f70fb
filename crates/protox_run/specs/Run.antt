-- A run: what it saw and what it left, and what holds of these.
use Rattle.std.specs.Prelude.{◌≡◌, ◌≤◌, ◌⊎◌, [], ℕ, List, Bool, IsTrue, IsFalse, Result, Ok, Err}
use Rattle.protox_io.specs.Count.{Count, Rose, RoseTimes}
use Rattle.protox_io.specs.Disk.{Volume}
use Rattle.protox_io.specs.Read.{Input}
use Rattle.protox_io.specs.Sink.{Output, SinkRefuses, Appends, Says}
use Rattle.protox_words.specs.Words.{Args, WordFault, args_of, fault_pieces}
use Rattle.protox_run.specs.Class.{reads_input}
use Rattle.protox_run.specs.Outcome.{Outcome, error_line}
use Rattle.protox_run.specs.Told.{Lasts}
use Rattle.protox_run.specs.Stops.{Object, ForArgs, RoseOf, Reached, LeftBy, Leftover, object_line, memory_line}

-- an object around a run, and its counts of faults
pub record Around (T : Type 0) : Type 0 where
  pub old : T
  pub new : T
  pub before : Count
  pub after : Count

-- its count rose, or is spent
abbrev pub Raised : {T : Type 0} → Around T → Type 0
Raised it = Rose it.before it.after

-- its count rose so often, or is spent
abbrev pub RaisedTimes : {T : Type 0} → Around T → ℕ → Type 0
RaisedTimes it times = RoseTimes times it.before it.after

-- a sink refused a write
abbrev pub Refuses : Around Output → Type 0
Refuses sink = SinkRefuses (Raised sink) sink.new.short

-- the words, the disk, the input and the two sinks of a run, and its status
pub record Run : Type 0 where
  pub words : List (List ℕ)
  pub disk : Around Volume
  pub input : Around Input
  pub out : Around Output
  pub err : Around Output
  pub status : ℕ

-- disk, input and out tell what they hold
pub record AllTell (run : Run) : Type 0 where
  pub disk : IsTrue run.disk.old.tells
  pub input : IsTrue run.input.old.tells
  pub out : IsTrue run.out.old.tells

-- where err tells, the line was appended to it, or where it refused a write the first bytes
abbrev pub Tells : Run → List ℕ → Type 0
Tells run line = Says run.err.old.tells (Refuses run.err) run.err.old.held run.err.new.held line

-- this holds of what was appended to out
abbrev pub ForPrinted : Run → (List ℕ → Type 0) → Type 0
ForPrinted run P = Appends run.out.old.held run.out.new.held P

-- why the status is 3: the count of an object rose, which the run had come to, what that leaves, and err has its line
pub record Fails (run : Run) : Type 0 where
  pub object : Object
  pub rose : ForArgs (args_of run.words) (RoseOf (RaisedTimes run.disk) (Raised run.input) (Raised run.out) object)
  pub reached : AllTell run → ForArgs (args_of run.words) (Reached run.disk.old run.input.old.left object)
  pub left : AllTell run → ForPrinted run (λ printed. LeftBy (args_of run.words) run.disk.old run.input.old.left run.disk.new printed (Refuses run.out) object)
  pub line : Tells run (error_line (object_line object))

-- the words are faulty exactly where the status says so, want of memory aside, and err has the first fault
abbrev pub IsWordStatus : Run → Result Args WordFault → Type 0
IsWordStatus run (Err fault) = ((run.status ≡ 2) × Tells run (error_line (fault_pieces fault))) ⊎ (run.status ≡ 4)
IsWordStatus run (Ok args) = ¬ (run.status ≡ 2)

-- the input was read to its end, where this holds, or not at all
abbrev pub ReadsInput : Result Args WordFault → Input → Input → Type 0 → Type 0
ReadsInput (Err fault) old new done = new ≡ old
ReadsInput (Ok args) old new done = (IsTrue (reads_input args) → done → new.left ≡ []) × (IsFalse (reads_input args) → new ≡ old)

-- an object still tells what it holds, where it did, and its count of faults never falls
abbrev pub Stays : {T : Type 0} → (T → Bool) → Around T → Type 0
Stays tells it = Lasts (tells it.old) (tells it.new) it.before it.after

-- the same of the disk, the input and the sinks
pub record AllStay (run : Run) : Type 0 where
  pub disk : Stays (λ d. d.tells) run.disk
  pub input : Stays (λ i. i.tells) run.input
  pub out : Stays (λ o. o.tells) run.out
  pub err : Stays (λ o. o.tells) run.err

-- What holds of every run.
pub record Runs (run : Run) : Type 0 where
  -- the status is one of five
  pub status : run.status ≤ 4
  -- status 2 is that of faulty words, over every disk and stream
  pub words : IsWordStatus run (args_of run.words)
  -- a status of 0 to 2 is that of an outcome, whatever counts rose
  pub outcome : AllTell run → run.status ≤ 2 →
      (line : List ℕ) × ForPrinted run (λ printed. Outcome run.words run.disk.old run.input.old.left run.status printed run.disk.new line) × Tells run line
  -- status 3 has its cause
  pub fault : run.status ≡ 3 → Fails run
  -- status 4 is want of memory
  pub memory : run.status ≡ 4 → Tells run (error_line memory_line)
  -- what a status of 3 or 4 leaves
  pub stopped : AllTell run → 3 ≤ run.status →
      ForPrinted run (λ printed. Leftover (args_of run.words) run.disk.old run.input.old.left run.disk.new printed
      (Raised run.disk ⊎ (run.status ≡ 4)) (Refuses run.out))
  -- what is left of the input: nothing where all was done, and all where it is not asked for
  pub input : IsTrue run.input.old.tells → ReadsInput (args_of run.words) run.input.old run.input.new (run.status ≡ 0)
  -- nothing ceases to tell, and no count falls
  pub stays : AllStay run
