-- What reading a source to its end says of its bytes (as `std::io::Read::read_to_end` of Rust's documentation, with a limit).
use Rattle.std.specs.Prelude.{◌≡◌, ◌++◌, ◌≤◌, ◌<◌, [], ℕ, List, Bool, Result, Ok, Err, length}
use Rattle.protox_io.specs.declared.read.ReadFault.{ReadFault}
use Rattle.protox_io.specs.declared.read.ReadFault.TheVariants.{Failed, TooLong, NoMemory}

-- what contracts see of a source: whether it tells what it holds, and the bytes that are left
pub record Input : Type 0 where
  pub tells : Bool
  pub left : List ℕ

-- all that was left was read, or more than the limit was left
abbrev pub ReadsAll : ℕ → List ℕ → List ℕ → Result (List ℕ) ReadFault → Type 0
ReadsAll limit left later (Ok bytes) = (bytes ≡ left) × (later ≡ []) × (length bytes ≤ limit)
ReadsAll limit left later (Err Failed) = Unit {0}
ReadsAll limit left later (Err TooLong) = limit < length left
ReadsAll limit left later (Err NoMemory) = Unit {0}

-- the bytes that were read, before those that are left
pub record Reads (left later : List ℕ) : Type 0 where
  pub read : List ℕ
  pub is : left ≡ read ++ later

-- a fault of reading has this cause, and the other answers have none
abbrev pub ReadFails : Type 0 → ReadFault → Type 0
ReadFails rose Failed = rose
ReadFails rose TooLong = Unit {0}
ReadFails rose NoMemory = Unit {0}

-- one block is never too long
abbrev pub BlockFails : Type 0 → ReadFault → Type 0
BlockFails rose Failed = rose
BlockFails rose TooLong = ⊥
BlockFails rose NoMemory = Unit {0}
