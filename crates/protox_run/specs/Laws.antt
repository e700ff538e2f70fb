-- What holds of what runs come to, and of what they leave.
use Rattle.std.specs.Prelude.{◌≡◌, ◌⊎◌, ◌≤◌, ◌∷◌, [], ℕ, List, Some, Result, Ok, Err}
use Rattle.protox_io.specs.Disk.{Volume, Stands}
use Rattle.protox_io.specs.Paths.{Component, disk_key}
use Rattle.protox_words.specs.Words.{Args, WordFault, args_of}
use Rattle.protox_run.specs.Class.{Write, Ready, Refusing, Judges, ForLibrary, LacksSet}
use Rattle.protox_run.specs.Run.{Run, AllTell, Raised, Runs}
use Rattle.protox_run.specs.Stops.{ForArgs, ForReady, StoppedAt}
use Rattle.protox_run.specs.declared.stop.Refusal.{Refusal}

-- Where writes and a text come of the input, it is refused for no reason.
abbrev pub DoneAlone : Type 0
DoneAlone =
    (args : Args) (disk : Volume) (input : List ℕ) (writes : List Write) (text : List ℕ) (refusal : Refusal)
    → Judges args disk input (Ready writes text) → Judges args disk input (Refusing refusal) → ⊥

-- The writes and the text are determined.
abbrev pub DoneOnce : Type 0
DoneOnce =
    (args : Args) (disk : Volume) (input : List ℕ) (writes : List Write) (text : List ℕ) (later_writes : List Write) (later_text : List ℕ)
    → Judges args disk input (Ready writes text) → Judges args disk input (Ready later_writes later_text)
    → (writes ≡ later_writes) × (text ≡ later_text)

-- Where a set is asked for and there is none, no files are read.
abbrev pub NoSetAlone : Type 0
NoSetAlone =
    (args : Args) (disk : Volume) (line : List ℕ) → LacksSet args.descriptor_set_in disk line → ForLibrary args disk (λ library. Unit {0}) → ⊥

-- the path of the set or of the wire bytes
abbrev pub IsWritePath : Result Args WordFault → List ℕ → Type 0
IsWritePath (Err fault) path = ⊥
IsWritePath (Ok args) path = (args.output ≡ Some path) ⊎ (args.wire ≡ Some path)

-- what stands at the key is what stood there
abbrev pub IsSameAt : List Component → Volume → Volume → Type 0
IsSameAt key old new = (new.holds key ≡ old.holds key) × (new.spoiled key ≡ old.spoiled key)

-- these bytes are written under a path of the key
abbrev pub IsWriteAt : List Component → List ℕ → List Write → Type 0
IsWriteAt key bytes [] = ⊥
IsWriteAt key bytes (w ∷ ws) = ((disk_key w.path ≡ key) × (bytes ≡ w.bytes)) ⊎ IsWriteAt key bytes ws

-- the key holds bytes that are written there where all is done
abbrev pub IsWrittenAt : Result Args WordFault → Volume → List ℕ → Volume → List Component → Type 0
IsWrittenAt read disk input later key =
    ForArgs read (λ args. ForReady args disk input (λ writes text. (bytes : List ℕ) × IsWriteAt key bytes writes × Stands key bytes later))

-- the write under a path of the key was refused, and has left it open
abbrev pub IsOpenAt : Result Args WordFault → Volume → List ℕ → Volume → List Component → Type 0
IsOpenAt read disk input later key =
    ForArgs read (λ args. ForReady args disk input (λ writes text. (s : StoppedAt writes disk later) × (disk_key s.next.path ≡ key)))

-- A run of status 3 or 4 leaves each key of the disk as it was, but for those of the paths of the set and of the wire bytes.
abbrev pub OthersStay : Type 0
OthersStay =
    (run : Run) (key : List Component) → Runs run → AllTell run → 3 ≤ run.status
    → ((path : List ℕ) → IsWritePath (args_of run.words) path → ¬ (key ≡ disk_key path)) → IsSameAt key run.disk.old run.disk.new

-- At each key it leaves what stood there, or the bytes that are written there where all is done, or the key is open since its own write was refused: the
-- disk's count rose, or memory was wanted.
abbrev pub WrittenOrOpen : Type 0
WrittenOrOpen =
    (run : Run) (key : List Component) → Runs run → AllTell run → 3 ≤ run.status
    → IsSameAt key run.disk.old run.disk.new ⊎ (IsWrittenAt (args_of run.words) run.disk.old run.input.old.left run.disk.new key
    ⊎ ((Raised run.disk ⊎ (run.status ≡ 4)) × IsOpenAt (args_of run.words) run.disk.old run.input.old.left run.disk.new key))
