-- What the parts of converting a stream answer, on plain values.
use Rattle.std.specs.Prelude.{◌≡◌, ◌⊎◌, ◌≤◌, ◌+◌, ◌++◌, [], ℕ, List, true, Some, Result, Ok, Err, length, is_some}
use Rattle.std.specs.List.{list_all}
use Rattle.protox_io.specs.Sink.{Appends, Begins}
use Rattle.protox_lines_items.specs.Items.{most, stream, Ended}
use Rattle.protox_lines_items.specs.Told.{Convert, Faulty, IsNotConverted, of_short, before_all, begun}
use Rattle.protox_lines_items.specs.Cutting.{Cuts, Stands, ConvertsBy}
use Rattle.protox_lines_items.specs.declared.error.ItemFault.{ItemFault}
use Rattle.protox_lines_items.specs.declared.error.ItemFault.TheVariants as faults
use Rattle.protox_lines_items.specs.declared.cutter.CutFault.{CutFault}
use Rattle.protox_lines_items.specs.declared.cutter.CutFault.TheVariants as cut
use Rattle.protox_lines_items.specs.declared.error.LineError.{LineError}
use Rattle.protox_lines_items.specs.declared.error.LineError.TheVariants as errors

-- ---- the sink

-- the sink failed, by this cause, or memory ran out
abbrev pub IsSinkFault : Type 0 → LineError → Type 0
IsSinkFault rose errors.WriteFault = rose
IsSinkFault rose errors.NoMemory = Unit {0}
IsSinkFault rose error = ⊥

-- what a sink was told of what is gathered for it and of these bytes: all but what is left, or the sink refused and holds the first of them
abbrev pub Puts : {T : Type 0} → List ℕ → List ℕ → List ℕ → List ℕ → List ℕ → Result T LineError → Type 0
Puts held gathered bytes now left (Ok x) = Appends held now (λ said. said ++ left ≡ gathered ++ bytes)
Puts held gathered bytes now left (Err e) = Appends held now (λ said. Begins said (gathered ++ bytes))

-- this error is told behind all that was gathered, or the sink refused
abbrev pub Tells : List ℕ → List ℕ → List ℕ → LineError → LineError → Type 0
Tells held gathered now error told =
    ((told ≡ error) × (now ≡ held ++ gathered))
    ⊎ (IsSinkFault (Unit {0}) told × Appends held now (λ said. Begins said gathered))

-- the same of its cause
abbrev pub IsToldCause : Type 0 → LineError → LineError → Type 0
IsToldCause rose error told = (told ≡ error) ⊎ IsSinkFault rose told

-- ---- errors of items

-- the error of a fault of the item of this number
abbrev pub item_error : ℕ → ItemFault → LineError
item_error n faults.NotJson = errors.NotJson n
item_error n (faults.Json e) = errors.Json n e
item_error n faults.TooDeep = errors.TooDeep n
item_error n faults.TooLong = errors.LineTooLong n
item_error n (faults.Decode e) = errors.Decode n e
item_error n faults.NoMemory = errors.NoMemory

-- the error of a fault of cutting it
abbrev pub cut_error : ℕ → CutFault → LineError
cut_error n cut.TooLong = errors.LineTooLong n
cut_error n cut.Malformed = errors.BadLength n
cut_error n cut.Oversized = errors.RecordTooLong n
cut_error n cut.NoMemory = errors.NoMemory

-- ---- one item

-- an item is not converted, or the sink refused: this is told, and what the sink holds then
abbrev pub ItemFails : Convert → Faulty → List ℕ → List ℕ → List ℕ → ℕ → List ℕ → LineError → Type 0
ItemFails convert faulty item held gathered count now e =
    (IsSinkFault (Unit {0}) e × Appends held now (λ said. Begins said (gathered ++ before_all (convert item) [])))
    ⊎ ((f : ItemFault) × IsNotConverted convert faulty item f × (e ≡ item_error (count + 1) f) × (now ≡ held ++ gathered))

-- an item is converted, and stands behind what was gathered
abbrev pub ItemComes : {T : Type 0} → Convert → Faulty → List ℕ → List ℕ → List ℕ → ℕ → List ℕ → List ℕ → ℕ → Result T LineError → Type 0
ItemComes convert faulty item held gathered count now left number (Ok x) =
    (bytes : List ℕ) × (convert item ≡ Some bytes) × Appends held now (λ said. said ++ left ≡ gathered ++ bytes) × (number ≡ count + 1)
ItemComes convert faulty item held gathered count now left number (Err e) = ItemFails convert faulty item held gathered count now e

-- ---- how far a conversion is

-- The bytes were cut into these items; each is converted, and what they come to is what the sink holds behind what it held first, and what is gathered
-- for it.
pub record Progress (cut : Stands) (convert : Convert) (first held gathered : List ℕ) (count : ℕ) (read : List ℕ) (items : List (List ℕ)) : Type 0 where
  pub is_cut : cut read items
  pub all : list_all (λ x. is_some (of_short convert x)) items ≡ true
  pub printed : List ℕ
  pub holds : held ≡ first ++ printed
  pub said : begun (of_short convert) items ≡ printed ++ gathered
  pub number : count ≡ length items

-- a conversion ends with this error, whatever follows the bytes
abbrev pub EndsBy : Cuts → Convert → Faulty → List ℕ → LineError → List ℕ → List ℕ → Type 0
EndsBy cuts convert faulty read error first now =
    (more : List ℕ) → Appends first now (ConvertsBy cuts convert faulty (read ++ more) (Err error))

-- ---- for a conversion that is so far with bytes read: how it is with more

-- all that holds of a conversion so far
abbrev pub ForProgress : Stands → Convert → List ℕ → List ℕ → ℕ → (List ℕ → List ℕ → List (List ℕ) → Type 0) → Type 0
ForProgress cut convert held gathered count P =
    (first read : List ℕ) (items : List (List ℕ)) → Progress cut convert first held gathered count read items → P first read items

-- so many of the bytes were taken
abbrev pub Goes : Stands → Convert → List ℕ → List ℕ → ℕ → List ℕ → List ℕ → Type 0
Goes cut convert now left number first read = (items : List (List ℕ)) × Progress cut convert first now left number read items

-- Of these bytes all but the rest were taken: so a conversion that was so far with others before them goes on.
abbrev pub Taken : Type 0 → Stands → Convert → List ℕ → List ℕ → ℕ → Stands → List ℕ → List ℕ → ℕ → List ℕ → List ℕ → Type 0
Taken T begun_at c held gathered count cut now left number bytes rest =
    (front : List ℕ) × (bytes ≡ front ++ rest)
    × (T → ForProgress begun_at c held gathered count (λ first read items. length (read ++ bytes) ≤ most → Goes cut c now left number first (read ++ front)))

-- the stream of the bytes ends behind these items
abbrev pub IsEnded : Cuts → Stands
IsEnded cuts read items = cuts read (stream items Ended)

-- So many bytes were read, before those that are left, where the source tells; and where the sink tells a conversion has come so far with them.
abbrev pub Reading : Type 0 → Type 0 → Stands → Convert → List ℕ → List ℕ → List ℕ → ℕ → List ℕ → List ℕ → ℕ → Type 0
Reading source sink cut c first held gathered count all left n =
    (read : List ℕ) × (length read ≡ n) × (source → all ≡ read ++ left) × (sink → Goes cut c held gathered count first read)

-- this comes of some bytes, which are all where the source tells
abbrev pub Answers : Type 0 → Type 0 → Cuts → Convert → Faulty → List ℕ → List ℕ → List ℕ → Result ℕ LineError → Type 0
Answers source sink cuts c faulty first now all result =
    (bytes : List ℕ) × (source → all ≡ bytes) × (sink → Appends first now (ConvertsBy cuts c faulty bytes result))
