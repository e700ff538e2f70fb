-- What opening a path does to the finished files and their marks.
use Rattle.std.specs.Prelude.{◌∷◌, [], ℕ, List, Bool, true, false, if◌then◌else◌, Option, Some, None, option_map, option_and_then}
use Rattle.std.specs.Str.{bytes_eq}
use Rattle.protox_io.specs.FileNames.{name_of, path_equal}
use Rattle.protox_file_sources.specs.Told.{Lookup}
use Rattle.protox_compile_walk.specs.declared.root.Opened.{Opened}
use Rattle.protox_compile_walk.specs.declared.root.Opened.TheVariants.{Compiled, Import, Again}
use Rattle.protox_compile_walk.specs.Walk.{Done, Fault, Shadowed, NotRead, Visited, Finished, Missing, Faulted, is_done, visits}

-- the files, that of this name marked as opened
abbrev pub mark : List ℕ → List Done → List Done
mark name [] = []
mark name (d ∷ ds) = if bytes_eq d.name name then record d { opened = true } ∷ ds else d ∷ mark name ds

-- the path of the file of this name, if it has one
abbrev pub path_in : List ℕ → List Done → Option (List ℕ)
path_in name [] = None
path_in name (d ∷ ds) = if bytes_eq d.name name then d.path else path_in name ds

-- whether the file of this name is marked as opened
abbrev pub is_opened : List ℕ → List Done → Bool
is_opened name [] = false
is_opened name (d ∷ ds) = if bytes_eq d.name name then d.opened else is_opened name ds

-- how an opening ends
pub data Ended : Type 0 where
  Accepted : Ended
  NotIncluded : Ended
  Refused : Fault → Ended

-- the look-ups decide how an opening ends: each name that it asks for was looked up
abbrev pub IsDecided : Ended → Type 0
IsDecided (Refused (NotRead name)) = ⊥
IsDecided end = Unit {0}

-- the name that a path asks for, and the path itself where the resolver knows it
abbrev pub root_by : Option (List ℕ) → List ℕ → Option (List ℕ) → Option (List ℕ × Option (List ℕ))
root_by (Some name) path own = Some (name, Some path)
root_by None path None = None
root_by None path (Some name) = Some (name, None)

-- The same, of a resolver and the name that the path has of itself. What a resolver knows a path by is taken as a name, which changes
-- nothing over any resolver: it resolves paths to names alone, and a name names itself.
abbrev pub root_of : (List ℕ → Option (List ℕ)) → List ℕ → Option (List ℕ × Option (List ℕ))
root_of resolves path = root_by (option_and_then name_of (resolves path)) path (name_of path)

-- the path that was asked, where it was resolved
abbrev pub asked_path : Bool → List ℕ → Option (List ℕ)
asked_path true path = Some path
asked_path false path = None

-- a finished file is marked, unless it has another path than the one that was asked
abbrev pub open_done : List ℕ → Option (List ℕ) → Option (List ℕ) → List Done → List Done × Ended
open_done name None path done = (mark name done, Accepted)
open_done name (Some asked) None done = (mark name done, Accepted)
open_done name (Some asked) (Some path) done = if path_equal path asked then (mark name done, Accepted) else (done, Refused (Shadowed name asked path))

-- a visit of a root, and its mark
abbrev pub open_root : List ℕ → List Done × Visited → List Done × Ended
open_root name (done, Finished) = (mark name done, Accepted)
open_root name (done, Missing) = (done, NotIncluded)
open_root name (done, Faulted fault) = (done, Refused fault)

-- what is asked for is opened: again, where its name is finished
abbrev pub open_name : (List ℕ → Lookup) → ℕ → Option (List ℕ × Option (List ℕ)) → List Done → List Done × Ended
open_name lookups limit None done = (done, NotIncluded)
open_name lookups limit (Some root) done =
    if is_done done root.0 then open_done root.0 root.1 (path_in root.0 done) done else open_root root.0 (visits lookups limit [] root.1 root.0 done)

-- the opening of a path
abbrev pub opening : (List ℕ → Lookup) → (List ℕ → Option (List ℕ)) → ℕ → List ℕ → List Done → List Done × Ended
opening lookups resolves limit path done = open_name lookups limit (root_of resolves path) done

-- an accepted opening goes on, and a fault stops
abbrev pub after_opening : List Done × Ended → (List Done → List Done × Ended) → List Done × Ended
after_opening (done, Accepted) rest = rest done
after_opening (done, NotIncluded) rest = (done, NotIncluded)
after_opening (done, Refused fault) rest = (done, Refused fault)

-- the openings of paths one after another, up to the first fault
abbrev pub closure : (List ℕ → Lookup) → (List ℕ → Option (List ℕ)) → ℕ → List (List ℕ) → List Done → List Done × Ended
closure lookups resolves limit [] done = (done, Accepted)
closure lookups resolves limit (path ∷ paths) done = after_opening (opening lookups resolves limit path done) (closure lookups resolves limit paths)

-- the files that an opening would leave finished, marks aside
abbrev pub grown : (List ℕ → Lookup) → ℕ → Option (List ℕ × Option (List ℕ)) → List Done → List Done
grown lookups limit None done = done
grown lookups limit (Some root) done = if is_done done root.0 then done else (visits lookups limit [] root.1 root.0 done).0

-- what a name was before it was opened: not compiled, compiled and marked as an import, or marked as opened
abbrev pub report_in : List ℕ → List Done → Opened
report_in name done = if is_done done name then (if is_opened name done then Again else Import) else Compiled

-- the same, of the name that a path asks for, if it asks for one
abbrev pub report_of : (List ℕ → Option (List ℕ)) → List ℕ → List Done → Option Opened
report_of resolves path done = option_map (λ root. report_in root.0 done) (root_of resolves path)
