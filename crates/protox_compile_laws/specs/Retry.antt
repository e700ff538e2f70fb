-- Opening a path again where a fault may pass: what the tries leave, and what they come to.
use Rattle.std.specs.Prelude.{◌≡◌, ℕ, List, Bool, true, false, Option, Some}
use Rattle.protox_file_error.specs.declared.error.ErrorKind.{ErrorKind}
use Rattle.protox_file_error.specs.declared.error.ErrorKind.TheVariants.{OpenFile, Custom, NoMemory}
use Rattle.protox_file_sources.specs.Told.{Told, Lookup, ByLookups}
use Rattle.protox_compile_walk.specs.Walk.{Done}
use Rattle.protox_compile_walk.specs.Opening.{Accepted, opening, grown, root_of, report_of}
use Rattle.protox_compile_walk.specs.Refusals.{Extends, Grows, IsLeftOut, RefusesOpening}
use Rattle.protox_compile_walk.specs.declared.root.Opened.{Opened}

-- a fault of reading, or want of memory, which the next try may not meet
abbrev pub may_pass : ErrorKind → Bool
may_pass (OpenFile name path words) = true
may_pass (Custom text is_io) = true
may_pass NoMemory = true
may_pass kind = false

-- What refused tries of opening the path left: behind the files that were there, the first of those that the opening finishes, as imports,
-- without the one that the path asks for.
pub record IsFront (lookups : List ℕ → Lookup) (resolves : List ℕ → Option (List ℕ)) (limit : ℕ) (path : List ℕ) (old now : List Done) : Type 0 where
  pub grows : Grows old now
  pub front : Extends now (grown lookups limit (root_of resolves path) old)
  pub root : IsLeftOut (root_of resolves path) old now

-- How opening the path was refused at the last of several tries: a single opening, from the files before the first try, may be refused with this
-- error too, and what it then leaves is a front of what the tries left. Where the error is the walk's own, it is, and both left the same.
pub record RefusesTries (lookups : List ℕ → Lookup) (resolves : List ℕ → Option (List ℕ)) (limit : ℕ) (path : List ℕ) (old new : List Done)
    (error : ErrorKind) : Type 0 where
  pub first : List Done
  pub refused : RefusesOpening lookups resolves limit path old first error
  pub more : Grows first new
  pub exact : may_pass error ≡ false → first ≡ new
  pub left : IsFront lookups resolves limit path old new

-- Before the first try nothing is left but what was there.
abbrev pub BeginsTries : Type 0
BeginsTries =
    (lookups : List ℕ → Lookup) (resolves : List ℕ → Option (List ℕ)) (limit : ℕ) (path : List ℕ) (old : List Done)
    → IsFront lookups resolves limit path old old

-- A try from a front that is accepted leaves what a single opening does.
abbrev pub AcceptedAtLast : Type 0
AcceptedAtLast =
    (files : List ℕ → Told) (resolves : List ℕ → Option (List ℕ)) (limit : ℕ) (path : List ℕ) (old now later : List Done)
    → ByLookups files (λ some. IsFront some resolves limit path old now)
    → ByLookups files (λ some. opening some resolves limit path now ≡ (later, Accepted))
    → ByLookups files (λ some. opening some resolves limit path old ≡ (later, Accepted))

-- One that is refused with any error is refused as several tries are.
abbrev pub RefusedAtLast : Type 0
RefusedAtLast =
    (files : List ℕ → Told) (resolves : List ℕ → Option (List ℕ)) (limit : ℕ) (path : List ℕ) (old now later : List Done) (error : ErrorKind)
    → ByLookups files (λ some. IsFront some resolves limit path old now) → Grows now later
    → ByLookups files (λ some. RefusesOpening some resolves limit path now later error)
    → ByLookups files (λ some. RefusesTries some resolves limit path old later error)

-- What is reported of a front is reported of the files before the first try.
abbrev pub ReportedAtLast : Type 0
ReportedAtLast =
    (lookups : List ℕ → Lookup) (resolves : List ℕ → Option (List ℕ)) (limit : ℕ) (path : List ℕ) (old now : List Done) (report : Opened)
    → IsFront lookups resolves limit path old now → report_of resolves path now ≡ Some report → report_of resolves path old ≡ Some report
