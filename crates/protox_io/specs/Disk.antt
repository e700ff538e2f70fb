-- What a disk holds, and what its answers say of that (as `std::fs::read` and `std::fs::write` of Rust's documentation).
use Rattle.std.specs.Prelude.{◌≡◌, ◌⊎◌, ℕ, List, Bool, false, IsTrue, Result, Ok, Err, nat_lt, length, if◌then◌else◌}
use Rattle.protox_io.specs.Count.{raised}
use Rattle.protox_io.specs.Paths.{Component}
use Rattle.protox_io.specs.declared.disk.DiskAnswer.{DiskAnswer}
use Rattle.protox_io.specs.declared.disk.DiskAnswer.TheVariants.{Bytes, Absent, TooLarge}
use Rattle.protox_io.specs.declared.disk.DiskError.{DiskError}
use Rattle.protox_io.specs.declared.disk.DiskError.TheVariants.{Failed, NoMemory}

-- what stands at a key
pub data Held : Type 0 where
  Missing : Held
  Oversized : Held
  Stored : List ℕ → Held

-- What contracts see of a disk: whether it tells what it holds, what stands at each key, and the keys that a refused write has
-- spoiled: what they hold need not be what they held, nor what was to be written.
pub record Volume : Type 0 where
  pub tells : Bool
  pub holds : List Component → Held
  pub spoiled : List Component → Bool

-- a disk that tells nothing
abbrev pub untold : Volume
untold = record { tells = false; holds = λ _. Missing; spoiled = λ _. false }

-- What a read finds. More bytes than 2,147,483,647 are too large (Protocol Buffers documentation, "Proto Limits": a
-- message in serialized form has less than 2 GiB).
abbrev pub found : Held → Held
found Missing = Missing
found Oversized = Oversized
found (Stored bytes) = if nat_lt 2147483647 (length bytes) then Oversized else Stored bytes

-- the answer is what stands there, unless the disk failed or memory is wanted
abbrev pub IsHeld : Held → Result DiskAnswer DiskError → Type 0
IsHeld held (Ok (Bytes bytes)) = found held ≡ Stored bytes
IsHeld held (Ok Absent) = found held ≡ Missing
IsHeld held (Ok TooLarge) = found held ≡ Oversized
IsHeld held (Err error) = Unit {0}

-- each key but this one is as it was
abbrev pub SameBut : List Component → Volume → Volume → Type 0
SameBut but old new = (key : List Component) → ¬ (key ≡ but) → (new.holds key ≡ old.holds key) × (new.spoiled key ≡ old.spoiled key)

-- the key holds these bytes
pub record Stands (key : List Component) (bytes : List ℕ) (new : Volume) : Type 0 where
  pub holds : new.holds key ≡ Stored bytes
  pub known : new.spoiled key ≡ false

-- the write under the key was refused: the key is as it was, or it is spoiled
abbrev pub IsOpen : List Component → Volume → Volume → Type 0
IsOpen key old new = ((new.holds key ≡ old.holds key) × (new.spoiled key ≡ old.spoiled key)) ⊎ IsTrue (new.spoiled key)

-- a write sets one key, or is refused and leaves it open
abbrev pub Writes : {T E : Type 0} → List Component → List ℕ → Volume → Volume → Result T E → Type 0
Writes key bytes old new (Ok x) = Stands key bytes new × SameBut key old new
Writes key bytes old new (Err e) = IsOpen key old new × SameBut key old new

-- a failure has this cause
abbrev pub FailsWith : Type 0 → DiskError → Type 0
FailsWith rose (Failed text) = rose
FailsWith rose NoMemory = Unit {0}

-- every failure has this cause, and an answer has none
abbrev pub FailsByCount : {T : Type 0} → Type 0 → Result T DiskError → Type 0
FailsByCount rose (Ok answer) = Unit {0}
FailsByCount rose (Err error) = FailsWith rose error

-- A failure is counted, also where memory is wanted for its text.
abbrev pub CountsError : ℕ → ℕ → DiskError → Type 0
CountsError before now (Failed text) = now ≡ raised before
CountsError before now NoMemory = (now ≡ before) ⊎ (now ≡ raised before)

-- failures are counted, and nothing else is
abbrev pub Counts : {T : Type 0} → ℕ → ℕ → Result T DiskError → Type 0
Counts before now (Ok answer) = now ≡ before
Counts before now (Err error) = CountsError before now error
