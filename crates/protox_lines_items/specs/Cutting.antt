-- How bytes that come piece by piece are cut into items.
-- States: the contracts of `Cutter`, and of `convert_items` over one.
use Rattle.std.specs.Prelude.{◌≡◌, ◌≤◌, ◌<◌, ℕ, List, [], ◌∷◌, ◌++◌, length, Bool, true, false, Result}
use Rattle.protox_lines_items.specs.Items.{Stream, stream, longest, Ended, Malformed, Oversized, CutOff}
use Rattle.protox_lines_items.specs.Told.{Convert, Faulty, Converts, job}
use Rattle.protox_lines_items.specs.declared.cutter.CutFault.{CutFault}
use Rattle.protox_lines_items.specs.declared.cutter.CutFault.TheVariants as faults
use Rattle.protox_lines_items.specs.declared.cutter.Last.{Last}
use Rattle.protox_lines_items.specs.declared.cutter.Last.TheVariants as lasts
use Rattle.protox_lines_items.specs.declared.error.LineError.{LineError}

-- which stream bytes have
abbrev pub Cuts : Type 1
Cuts = List ℕ → Stream → Type 0

-- which items are whole where bytes were taken
abbrev pub Stands : Type 1
Stands = List ℕ → List (List ℕ) → Type 0

-- the items, and where it is whole one more
abbrev pub with_item : Bool → List ℕ → List (List ℕ) → List (List ℕ)
with_item true item items = items ++ item ∷ []
with_item false item items = items

-- the stream of the bytes begins with these items
abbrev pub BeginsWith : Cuts → List ℕ → List (List ℕ) → Type 0
BeginsWith cuts bytes items = (s : Stream) × cuts bytes s × ((behind : List (List ℕ)) × (s.items ≡ items ++ behind))

-- and behind them stands one that is too long
abbrev pub HasLong : Cuts → List ℕ → List (List ℕ) → Type 0
HasLong cuts bytes items =
    (s : Stream) × cuts bytes s × ((long : List ℕ) × (behind : List (List ℕ)) × (s.items ≡ items ++ long ∷ behind) × (longest < length long))

-- whatever follows these bytes, their stream has the fault behind the whole items; want of memory has no cause here
abbrev pub IsCutFault : Cuts → List ℕ → List (List ℕ) → CutFault → Type 0
IsCutFault cuts bytes items faults.TooLong = (more : List ℕ) → HasLong cuts (bytes ++ more) items
IsCutFault cuts bytes items faults.Malformed = (more : List ℕ) → cuts (bytes ++ more) (stream items Malformed)
IsCutFault cuts bytes items faults.Oversized = (more : List ℕ) → cuts (bytes ++ more) (stream items Oversized)
IsCutFault cuts bytes items faults.NoMemory = Unit {0}

-- how the stream of the bytes ends behind the whole items, where no more bytes follow
abbrev pub EndsSo : Cuts → List ℕ → List (List ℕ) → List ℕ → Last → Type 0
EndsSo cuts bytes items item lasts.Nothing = cuts bytes (stream items Ended)
EndsSo cuts bytes items item lasts.Item = (length item ≤ longest) × cuts bytes (stream (items ++ item ∷ []) Ended)
EndsSo cuts bytes items item lasts.CutOff = cuts bytes (stream items CutOff)

-- the stream of the bytes is converted so
abbrev pub ConvertsBy : Cuts → Convert → Faulty → List ℕ → Result ℕ LineError → List ℕ → Type 0
ConvertsBy cuts convert faulty bytes result said = (s : Stream) × cuts bytes s × Converts (job convert faulty s) result said
