-- Why a program over a set is stopped, and what err is told of it.
-- States: the contracts of `read_pool` and `report`.
use Rattle.std.specs.Prelude.{◌≡◌, ℕ, List, codes}
use Rattle.protox_io.specs.Disk.{Volume}
use Rattle.protox_sets.specs.Sets.{IsRefusedSet, unread_line}
use Rattle.protox_sets.specs.declared.stop.Stop.{Stop}
use Rattle.protox_sets.specs.declared.stop.Stop.TheVariants.{Usage, Refused, Broken, NoMemory}

abbrev pub stop_status : Stop → ℕ
stop_status Usage = 2
stop_status (Refused line) = 1
stop_status (Broken line) = 3
stop_status NoMemory = 4

-- the line of a stop, where this is the line of how the program is called
abbrev pub stop_line : List ℕ → Stop → List ℕ
stop_line usage Usage = usage
stop_line usage (Refused line) = line
stop_line usage (Broken line) = line
stop_line usage NoMemory = codes "out of memory"

-- no pool is read from the path
abbrev pub IsSetStop : Volume → List ℕ → Stop → Type 0
IsSetStop disk path Usage = ⊥
IsSetStop disk path (Refused line) = IsRefusedSet disk path line
IsSetStop disk path (Broken line) = line ≡ unread_line path
IsSetStop disk path NoMemory = Unit {0}

-- reading a set at the path failed, by this cause, and the line says so; words are no cause
abbrev pub IsStopCause : List ℕ → Type 0 → Stop → Type 0
IsStopCause path rose (Broken line) = rose × (line ≡ unread_line path)
IsStopCause path rose Usage = ⊥
IsStopCause path rose stop = Unit {0}
