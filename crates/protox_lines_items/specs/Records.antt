-- What a cutter of records holds between the pieces that it is given.
-- States: the contracts of `RecordCutter`.
use Rattle.std.specs.Prelude.{◌≡◌, ◌⊎◌, ◌≤◌, ◌<◌, ℕ, ◌+◌, List, [], ◌++◌, length, take, map, ◌==◌, if◌then◌else◌, Bool, true, false}
use Rattle.std.specs.Prelude.{Option, Some, None}
use Rattle.pbx_wire.specs.Spelling.{IsVarint}
use Rattle.pbx_wire.specs.Faults.{EndsInVarint, IsLongVarint}
use Rattle.protox_lines_items.specs.Items.{longest, AreRecords, records_text, HasLength}
use Rattle.protox_lines_items.specs.declared.cutter.CutFault.{CutFault}
use Rattle.protox_lines_items.specs.declared.cutter.CutFault.TheVariants as faults

-- the bytes of a length; how many bytes are still to come of its record, once it is whole; and those that came, or the last whole record
pub record RecordState : Type 0 where
  pub prefix : List ℕ
  pub left : ℕ
  pub item : List ℕ

-- the bytes behind the last whole record
abbrev pub open_bytes : RecordState → List ℕ
open_bytes c = if c.left == 0 then c.prefix else c.prefix ++ c.item

-- a length is whole, and so many bytes of its record are still to come
pub record IsBegun (c : RecordState) : Type 0 where
  pub is_length : IsVarint c.prefix (length c.item + c.left)
  pub short : length c.item + c.left ≤ longest

-- a length goes on, that of the next record by no bytes yet, or bytes of a record are still to come
abbrev pub IsUnfinished : RecordState → Type 0
IsUnfinished c = ((c.left ≡ 0) × EndsInVarint c.prefix) ⊎ ((0 < c.left) × IsBegun c)

-- these records are whole where it took these bytes, and it holds what stands behind them
pub record RecordStands (c : RecordState) (read : List ℕ) (items : List (List ℕ)) : Type 0 where
  pub records : List (List ℕ × List ℕ)
  pub are : AreRecords records
  pub is : read ≡ records_text records ++ open_bytes c
  pub items_are : items ≡ map (λ (r : List ℕ × List ℕ). r.1) records
  pub unfinished : IsUnfinished c

-- ---- the two steps

-- why no record begins with these bytes; want of memory has no cause here
abbrev pub IsPrefixFault : List ℕ → CutFault → Type 0
IsPrefixFault bytes faults.TooLong = ⊥
IsPrefixFault bytes faults.Malformed = IsLongVarint bytes
IsPrefixFault bytes faults.Oversized = (n : ℕ) × (behind : List ℕ) × HasLength bytes n behind × (longest < n)
IsPrefixFault bytes faults.NoMemory = Unit {0}

-- a length took all of the bytes and goes on, or it took so many and its record is begun
abbrev pub TakesPrefix : RecordState → RecordState → List ℕ → Option ℕ → Type 0
TakesPrefix old new bytes None = (new.prefix ≡ old.prefix ++ bytes) × EndsInVarint new.prefix × (new.left ≡ old.left)
TakesPrefix old new bytes (Some n) = (new.prefix ≡ old.prefix ++ take n bytes) × (new.item ≡ []) × IsBegun new

-- a record took these bytes, and is whole with them or not
abbrev pub TakesRecord : RecordState → RecordState → List ℕ → Bool → Type 0
TakesRecord old new part true = (new.item ≡ old.item ++ part) × (length part ≡ old.left) × (new.left ≡ 0) × (new.prefix ≡ [])
TakesRecord old new part false = (new.item ≡ old.item ++ part) × (length part + new.left ≡ old.left) × (0 < new.left) × (new.prefix ≡ old.prefix)
