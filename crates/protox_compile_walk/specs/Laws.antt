-- What holds of openings.
use Rattle.std.specs.Prelude.{◌≡◌, ◌⊎◌, [], ℕ, List, true, Option, Some}
use Rattle.pbx_link_rules.specs.Pool.{ArePooled}
use Rattle.protox_io.specs.FileNames.{name_of}
use Rattle.protox_file_sources.specs.Told.{Told, Lookup, AreLookups, AreComplete, ByLookups}
use Rattle.protox_file_error.specs.declared.error.ErrorKind.{ErrorKind}
use Rattle.protox_compile_walk.specs.Walk.{Done, Fault, is_done, records}
use Rattle.protox_compile_walk.specs.Opening.{Ended, Accepted, Refused, IsDecided, mark, opening, closure, root_of}
use Rattle.protox_compile_walk.specs.Refusals.{RefusesOpening}
use Rattle.protox_compile_walk.specs.Closures.{StopsAt}
use Rattle.protox_compile_walk.specs.Compiled.{IsOrdered}

-- The name that a path asks for names itself.
abbrev pub RootsAreNames : Type 0
RootsAreNames =
    (resolves : List ℕ → Option (List ℕ)) (path name : List ℕ) (asked : Option (List ℕ)) → root_of resolves path ≡ Some (name, asked)
    → name_of name ≡ Some name

-- A path that a resolver knows by a name that names itself asks for this name.
abbrev pub KnownAreRoots : Type 0
KnownAreRoots =
    (resolves : List ℕ → Option (List ℕ)) (path name : List ℕ) → resolves path ≡ Some name → name_of name ≡ Some name
    → root_of resolves path ≡ Some (name, Some path)

-- The opening was accepted, and changes the mark of the name alone, or it was refused, and changes nothing.
abbrev pub IsOpenedAgain : List ℕ → List Done → List Done × Ended → Type 0
IsOpenedAgain name done opened = (opened ≡ (mark name done, Accepted)) ⊎ ((fault : Fault) × (opened ≡ (done, Refused fault)))

-- Opening a path whose name is finished changes its mark alone, to opened, or is refused and changes nothing.
abbrev pub OpeningAgainMarks : Type 0
OpeningAgainMarks =
    (lookups : List ℕ → Lookup) (resolves : List ℕ → Option (List ℕ)) (limit : ℕ) (path name : List ℕ) (asked : Option (List ℕ))
    (done : List Done) → root_of resolves path ≡ Some (name, asked) → is_done done name ≡ true
    → IsOpenedAgain name done (opening lookups resolves limit path done)

-- What opening a path comes to is one thing at most, whatever was looked up, if it was all that the opening asks for.
abbrev pub OpensOnce : Type 0
OpensOnce =
    (files : List ℕ → Told) (resolves : List ℕ → Option (List ℕ)) (limit : ℕ) (path : List ℕ) (done : List Done) (some others : List ℕ → Lookup)
    → AreLookups files some → AreLookups files others
    → IsDecided (opening some resolves limit path done).1 → IsDecided (opening others resolves limit path done).1
    → opening some resolves limit path done ≡ opening others resolves limit path done

-- the same of paths one after another
abbrev pub ClosesOnce : Type 0
ClosesOnce =
    (files : List ℕ → Told) (resolves : List ℕ → Option (List ℕ)) (limit : ℕ) (paths : List (List ℕ)) (done : List Done)
    (some others : List ℕ → Lookup) → AreLookups files some → AreLookups files others
    → IsDecided (closure some resolves limit paths done).1 → IsDecided (closure others resolves limit paths done).1
    → closure some resolves limit paths done ≡ closure others resolves limit paths done

-- What is said of an opening by some look-ups is true of it by each that leave no name out.
abbrev pub OpensByAll : Type 0
OpensByAll =
    (files : List ℕ → Told) (resolves : List ℕ → Option (List ℕ)) (limit : ℕ) (path : List ℕ) (done later : List Done) (all : List ℕ → Lookup)
    → AreLookups files all → AreComplete all → ByLookups files (λ some. opening some resolves limit path done ≡ (later, Accepted))
    → opening all resolves limit path done ≡ (later, Accepted)

abbrev pub RefusesByAll : Type 0
RefusesByAll =
    (files : List ℕ → Told) (resolves : List ℕ → Option (List ℕ)) (limit : ℕ) (path : List ℕ) (done later : List Done) (error : ErrorKind)
    (all : List ℕ → Lookup) → AreLookups files all → AreComplete all
    → ByLookups files (λ some. RefusesOpening some resolves limit path done later error) → RefusesOpening all resolves limit path done later error

-- the same of paths one after another
abbrev pub ClosesByAll : Type 0
ClosesByAll =
    (files : List ℕ → Told) (resolves : List ℕ → Option (List ℕ)) (limit : ℕ) (paths : List (List ℕ)) (done later : List Done)
    (all : List ℕ → Lookup) → AreLookups files all → AreComplete all
    → ByLookups files (λ some. closure some resolves limit paths done ≡ (later, Accepted)) → closure all resolves limit paths done ≡ (later, Accepted)

abbrev pub StopsByAll : Type 0
StopsByAll =
    (files : List ℕ → Told) (resolves : List ℕ → Option (List ℕ)) (limit : ℕ) (paths : List (List ℕ)) (done later : List Done) (error : ErrorKind)
    (all : List ℕ → Lookup) → AreLookups files all → AreComplete all
    → ByLookups files (λ some. StopsAt some resolves limit paths done later error) → StopsAt all resolves limit paths done later error

-- What openings finish, from nothing on, is in order, each file once and behind its imports, and its records are a pool, however they end.
abbrev pub ClosedAreOrdered : Type 0
ClosedAreOrdered =
    (lookups : List ℕ → Lookup) (resolves : List ℕ → Option (List ℕ)) (limit : ℕ) (paths : List (List ℕ)) (later : List Done) (end : Ended)
    → closure lookups resolves limit paths [] ≡ (later, end) → IsOrdered [] later × ArePooled [] (records later)
