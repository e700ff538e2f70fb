-- What a sink's answers say of its bytes (as `std::io::Write::write` and `write_all` of Rust's documentation).
use Rattle.std.specs.Prelude.{◌≡◌, ◌++◌, ◌⊎◌, List, ℕ, Bool, true, false, IsTrue, Result, Ok, Err}
use Rattle.protox_io.specs.declared.stream.SinkError.{SinkError}
use Rattle.protox_io.specs.declared.stream.SinkError.TheVariants.{Failed, NoMemory}

-- what contracts see of a sink: whether it tells what it holds, the bytes that were written, and whether it has refused bytes for want of
-- memory
pub record Output : Type 0 where
  pub tells : Bool
  pub held : List ℕ
  pub short : Bool

-- why a sink refused: its count rose, or it was short of memory
abbrev pub RefusesFor : Type 0 → Type 0 → SinkError → Type 0
RefusesFor rose short Failed = rose
RefusesFor rose short NoMemory = short

-- the answer of a fault
abbrev pub has_failed : {T : Type 0} → Result T SinkError → Bool
has_failed (Err Failed) = true
has_failed answer = false

-- the answer of want of memory
abbrev pub is_short : {T : Type 0} → Result T SinkError → Bool
is_short (Err NoMemory) = true
is_short answer = false

-- the new bytes are the old ones and some more, of which P holds
pub record Appends (old new : List ℕ) (P : List ℕ → Type 0) : Type 0 where
  pub added : List ℕ
  pub is : new ≡ old ++ added
  pub so : P added

-- the first bytes of these
pub record Begins (said whole : List ℕ) : Type 0 where
  pub rest : List ℕ
  pub is : whole ≡ said ++ rest

-- all was printed, or the first bytes of it
abbrev pub Prints : {T E : Type 0} → List ℕ → Result T E → List ℕ → Type 0
Prints whole (Ok x) added = added ≡ whole
Prints whole (Err e) added = Begins added whole

-- a sink refused a write: its count rose, or it is short of memory
abbrev pub SinkRefuses : Type 0 → Bool → Type 0
SinkRefuses rose short = rose ⊎ IsTrue short

-- what a sink that tells holds after it was told these bytes: all, or the first of them where it refused
abbrev pub Says : Bool → Type 0 → List ℕ → List ℕ → List ℕ → Type 0
Says tells refused old new whole = IsTrue tells → Appends old new (λ said. Begins said whole × ((said ≡ whole) ⊎ refused))
