-- What a run leaves, on plain values: the status, the bytes on out, the disk and the lines on err.
use Rattle.std.specs.Prelude.{◌≡◌, ◌∷◌, [], ℕ, List, Result, Ok, Err, codes, get_or}
use Rattle.std.specs.List.{flat_map}
use Rattle.protox_io.specs.Disk.{Volume, Stands, SameBut}
use Rattle.protox_io.specs.Paths.{disk_key}
use Rattle.protox_io.specs.Shown.{shown_line}
use Rattle.protox_words.specs.Words.{Args, WordFault, args_of, fault_pieces}
use Rattle.protox_run.specs.Class.{Write, Ending, Ready, Refusing, Judges, repeated_of}
use Rattle.protox_run.specs.declared.stop.Refusal.{Refusal}
use Rattle.protox_run.specs.declared.stop.Refusal.TheVariants.{TooLong, NotJson, Top}

-- a line, as the pieces that stand in it one after another
abbrev pub Pieces : Type 0
Pieces = List (List ℕ)

-- the line of a refusal
abbrev pub refusal_line : Refusal → Pieces
refusal_line TooLong = codes "input is longer than 1073741824 bytes" ∷ []
refusal_line NotJson = codes "input is not JSON" ∷ []
refusal_line (Top line) = line ∷ []

-- what err holds: `error: ` and the line, with invisible characters as escapes, and a line feed
unfoldable pub error_line : Pieces → List ℕ
error_line pieces = shown_line (codes "error: " ∷ pieces)

-- the line of a path that was given again: `note: `, with invisible characters as escapes, and a line feed
unfoldable pub note_line : List ℕ → List ℕ
note_line path = shown_line (codes "note: path '" ∷ path ∷ codes "' was given twice" ∷ [])

-- the notes of the paths at these indices, one after another
abbrev pub notes_at : List (List ℕ) → List ℕ → List ℕ
notes_at paths indices = flat_map (λ i. note_line (get_or paths i [])) indices

-- the notes of the paths that arguments give again
abbrev pub notes_of : Args → List ℕ
notes_of a = notes_at a.files (repeated_of a)

-- the writes were done one after another: each sets its key, and leaves all others
abbrev pub Wrote : List Write → Volume → Volume → Type 0
Wrote [] old new = new ≡ old
Wrote (w ∷ ws) old new =
    (middle : Volume) × Stands (disk_key w.path) w.bytes middle × SameBut (disk_key w.path) old middle × Wrote ws middle new

-- what an ending leaves: status 0, the writes, the text and these notes; or status 1, nothing, and a line
abbrev pub Leaves : Volume → List ℕ → Ending → ℕ → List ℕ → Volume → List ℕ → Type 0
Leaves disk notes (Ready writes text) status out later line = (status ≡ 0) × (out ≡ text) × Wrote writes disk later × (line ≡ notes)
Leaves disk notes (Refusing refusal) status out later line = (status ≡ 1) × (out ≡ []) × (later ≡ disk) × (line ≡ error_line (refusal_line refusal))

-- what words that were read come to: a fault is status 2
abbrev pub Obeys : Result Args WordFault → Volume → List ℕ → ℕ → List ℕ → Volume → List ℕ → Type 0
Obeys (Err fault) disk input status out later line = (status ≡ 2) × (out ≡ []) × (later ≡ disk) × (line ≡ error_line (fault_pieces fault))
Obeys (Ok args) disk input status out later line = (ending : Ending) × Judges args disk input ending × Leaves disk (notes_of args) ending status out later line

-- words, a disk and an input come to this status, these bytes on out, this disk and these lines on err
abbrev pub Outcome : List (List ℕ) → Volume → List ℕ → ℕ → List ℕ → Volume → List ℕ → Type 0
Outcome words disk input status out later line = Obeys (args_of words) disk input status out later line
