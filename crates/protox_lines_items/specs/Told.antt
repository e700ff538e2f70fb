-- What a conversion of a stream answers, and what it has written by then.
-- States: the contract of `convert_items`. How the source cuts its bytes is no part of it.
use Rattle.std.specs.Prelude.{◌≡◌, ◌⊎◌, ◌≤◌, ◌<◌, ℕ, ◌+◌, List, [], ◌∷◌, ◌++◌, length, Bool, true, false, Option, Some, None, is_some, nat_lt, IsTrue}
use Rattle.std.specs.Prelude.{Result, Ok, Err, if◌then◌else◌}
use Rattle.std.specs.List.{list_all}
use Rattle.protox_io.specs.Sink.{Begins}
use Rattle.protox_lines_items.specs.Items.{Stream, End, Ended, Malformed, Oversized, CutOff, More, longest, lines, AreItems}
use Rattle.protox_lines_items.specs.declared.error.ItemFault.{ItemFault}
use Rattle.protox_lines_items.specs.declared.error.ItemFault.TheVariants as faults
use Rattle.protox_lines_items.specs.declared.error.LineError.{LineError}
use Rattle.protox_lines_items.specs.declared.error.LineError.TheVariants as errors

-- what an item is converted to, and none where it is faulty
abbrev pub Convert : Type 0
Convert = List ℕ → Option (List ℕ)

-- what is wrong with an item that is not converted
abbrev pub Faulty : Type 1
Faulty = List ℕ → ItemFault → Type 0

-- why a converter does not convert an item that is not too long; want of memory has no cause here
abbrev pub IsNotConverted : Convert → Faulty → List ℕ → ItemFault → Type 0
IsNotConverted convert faulty item faults.NoMemory = Unit {0}
IsNotConverted convert faulty item faults.TooLong = ⊥
IsNotConverted convert faulty item e = (convert item ≡ None) × faulty item e

-- ---- a job

-- what is converted: a stream, how one item is, and what is wrong with an item that is not
pub record Job : Type 1 where
  pub stream : Stream
  pub convert : Convert
  pub faulty : Faulty

-- no item is converted that is too long
abbrev pub of_short : Convert → Convert
of_short convert item = if nat_lt longest (length item) then None else convert item

-- its length is tested first
abbrev pub IsOfShort : Faulty → Faulty
IsOfShort faulty item faults.TooLong = longest < length item
IsOfShort faulty item e = (length item ≤ longest) × faulty item e

abbrev pub job : Convert → Faulty → Stream → Job
job convert faulty s = record { stream = s; convert = of_short convert; faulty = IsOfShort faulty }

-- ---- what is written, and why a conversion stops

abbrev pub before_all : Option (List ℕ) → List ℕ → List ℕ
before_all None rest = []
before_all (Some b) rest = b ++ rest

-- what the items before the first faulty one are converted to
abbrev pub begun : Convert → List (List ℕ) → List ℕ
begun convert [] = []
begun convert (x ∷ xs) = before_all (convert x) (begun convert xs)

-- every item is converted, and the stream ends so
pub record AllConvert (job : Job) (end : End) : Type 0 where
  pub all : list_all (λ x. is_some (job.convert x)) job.stream.items ≡ true
  pub end_is : job.stream.end ≡ end

-- this is the first faulty item, by its number from 1 on
pub record FirstFaulty (job : Job) (n : ℕ) (e : ItemFault) : Type 0 where
  pub before : List (List ℕ)
  pub item : List ℕ
  pub after : List (List ℕ)
  pub is : job.stream.items ≡ before ++ item ∷ after
  pub good : list_all (λ x. is_some (job.convert x)) before ≡ true
  pub bad : job.convert item ≡ None
  pub why : job.faulty item e
  pub number : n ≡ length before + 1

-- the item behind those that are whole is the first faulty one
abbrev pub Behind : Job → ℕ → End → Type 0
Behind job n end = AllConvert job end × (n ≡ length job.stream.items + 1)

-- why a conversion ended before the end; nothing is said where it was stopped from outside or memory ran out
abbrev pub Stops : Job → LineError → Type 0
Stops job (errors.NotJson n) = FirstFaulty job n faults.NotJson
Stops job (errors.Json n e) = FirstFaulty job n (faults.Json e)
Stops job (errors.TooDeep n) = FirstFaulty job n faults.TooDeep
Stops job (errors.LineTooLong n) = FirstFaulty job n faults.TooLong
Stops job (errors.BadLength n) = Behind job n Malformed
Stops job (errors.RecordTooLong n) = Behind job n Oversized
Stops job (errors.CutOff n) = Behind job n CutOff
Stops job (errors.Decode n e) = FirstFaulty job n (faults.Decode e)
Stops job errors.TooMuch = AllConvert job More
Stops job errors.ReadFault = Unit {0}
Stops job errors.WriteFault = Unit {0}
Stops job errors.NoMemory = Unit {0}

-- it was stopped from outside, or memory ran out
abbrev pub is_stopped : LineError → Bool
is_stopped errors.ReadFault = true
is_stopped errors.WriteFault = true
is_stopped errors.NoMemory = true
is_stopped _ = false

-- All that the items before the first faulty one are converted to is written, or where the conversion was stopped the first bytes of it.
abbrev pub Converts : Job → Result ℕ LineError → List ℕ → Type 0
Converts job (Ok n) said = AllConvert job Ended × (n ≡ length job.stream.items) × (said ≡ begun job.convert job.stream.items)
Converts job (Err e) said =
    Stops job e × Begins said (begun job.convert job.stream.items)
    × (IsTrue (is_stopped e) ⊎ (said ≡ begun job.convert job.stream.items))

-- the lines of the bytes are converted so
abbrev pub ConvertsLines : Convert → Faulty → List ℕ → Result ℕ LineError → List ℕ → Type 0
ConvertsLines convert faulty bytes = Converts (job convert faulty (lines bytes))

-- the records of the bytes are
abbrev pub ConvertsRecords : Convert → Faulty → List ℕ → Result ℕ LineError → List ℕ → Type 0
ConvertsRecords convert faulty bytes result said = (s : Stream) × AreItems bytes s × Converts (job convert faulty s) result said

-- the count of the input rose, or that of out; want of memory has no cause here
abbrev pub IsCaused : Type 0 → Type 0 → LineError → Type 0
IsCaused input out errors.ReadFault = input
IsCaused input out errors.WriteFault = out
IsCaused input out _ = Unit {0}
