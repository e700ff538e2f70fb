-- The order in which accepted openings finish files, by their names.
use Rattle.std.specs.Prelude.{◌≡◌, ◌+◌, ◌≤◌, [], ℕ, List, length, map, Option}
use Rattle.std.specs.List.{IsDistinct}
use Rattle.std.specs.Str.{bytes_eq}
use Rattle.protox_file_sources.specs.Told.{Lookup, IsFile}
use Rattle.protox_compile_walk.specs.Walk.{Done, imports_of}
use Rattle.protox_compile_walk.specs.Opening.{Accepted, closure}
use Rattle.protox_compile_walk.specs.Again.{AskFor}
use Rattle.protox_compile_walk.specs.PostOrder.{post_order}

-- the imports of the file that a name looks up to, if it does
abbrev pub imports_in : Lookup → List (List ℕ)
imports_in (IsFile entry) = imports_of entry
imports_in lookup = []

-- what each name imports
abbrev pub imports_by : (List ℕ → Lookup) → List ℕ → List (List ℕ)
imports_by lookups name = imports_in (lookups name)

-- the names of finished files
abbrev pub finished_names : List Done → List (List ℕ)
finished_names done = map (λ (d : Done). d.name) done

-- Where paths were opened and accepted, the finished files are those before and, behind them, the post-order of the names that the paths
-- ask for. The limit is depth enough.
abbrev pub ClosesInPostOrder : Type 0
ClosesInPostOrder =
    (lookups : List ℕ → Lookup) (resolves : List ℕ → Option (List ℕ)) (limit : ℕ) (paths names : List (List ℕ)) (done later : List Done)
    → closure lookups resolves limit paths done ≡ (later, Accepted) → AskFor resolves paths names
    → finished_names later ≡ post_order (imports_by lookups) limit (finished_names done) names

-- Each depth is enough that is at least the number of the files that were finished: a greater one changes nothing.
abbrev pub ClosesAtEachDepth : Type 0
ClosesAtEachDepth =
    (lookups : List ℕ → Lookup) (resolves : List ℕ → Option (List ℕ)) (limit depth : ℕ) (paths names : List (List ℕ)) (done later : List Done)
    → closure lookups resolves limit paths done ≡ (later, Accepted) → AskFor resolves paths names → length later ≤ length done + depth
    → finished_names later ≡ post_order (imports_by lookups) depth (finished_names done) names

-- where no name stood twice, none does afterwards
abbrev pub ClosesDistinct : Type 0
ClosesDistinct =
    (lookups : List ℕ → Lookup) (resolves : List ℕ → Option (List ℕ)) (limit : ℕ) (paths : List (List ℕ)) (done later : List Done)
    → closure lookups resolves limit paths done ≡ (later, Accepted) → IsDistinct bytes_eq (finished_names done)
    → IsDistinct bytes_eq (finished_names later)

-- where the files were within the limit, they are so afterwards
abbrev pub ClosesWithin : Type 0
ClosesWithin =
    (lookups : List ℕ → Lookup) (resolves : List ℕ → Option (List ℕ)) (limit : ℕ) (paths : List (List ℕ)) (done later : List Done)
    → closure lookups resolves limit paths done ≡ (later, Accepted) → length done ≤ limit → length later ≤ limit
