-- Opening paths is free of their order.
use Rattle.std.specs.Prelude.{◌≡◌, [], ℕ, List, length, Option, Contains}
use Rattle.protox_file_sources.specs.Told.{Told, Lookup, ByLookups}
use Rattle.protox_compile_walk.specs.Walk.{Done}
use Rattle.protox_compile_walk.specs.Opening.{Accepted, closure}
use Rattle.protox_compile_walk.specs.Compiled.{IsOrdered}

-- each of the first stands among the others
abbrev pub StandAmong : {X : Type 0} → List X → List X → Type 0
StandAmong {X} some all = (x : X) → Contains some x → Contains all x

-- the same stand in both, so that at most their order and how often each stands there differ
abbrev pub StandAlike : {X : Type 0} → List X → List X → Type 0
StandAlike some others = StandAmong some others × StandAmong others some

-- Paths are all opened, and the files that are then finished are these, as many of them, in some order.
pub record ClosesAlike (lookups : List ℕ → Lookup) (resolves : List ℕ → Option (List ℕ)) (limit : ℕ) (paths : List (List ℕ)) (done later : List Done)
    : Type 0 where
  pub again : List Done
  pub closed : closure lookups resolves limit paths done ≡ (again, Accepted)
  pub alike : StandAlike again later
  pub as_many : length again ≡ length later

-- Where paths are all opened from finished files that stand behind their imports, the same paths are all opened in any order, however often
-- each stands there. The same files are finished, with the same records, paths and marks.
abbrev pub ClosesInEachOrder : Type 0
ClosesInEachOrder =
    (lookups : List ℕ → Lookup) (resolves : List ℕ → Option (List ℕ)) (limit : ℕ) (paths others : List (List ℕ)) (done later : List Done)
    → IsOrdered [] done → StandAlike paths others → closure lookups resolves limit paths done ≡ (later, Accepted)
    → ClosesAlike lookups resolves limit others done later

-- What paths in one order and in another leave, as `open_files` says it of a resolver that tells, is alike.
abbrev pub OpensInEachOrder : Type 0
OpensInEachOrder =
    (files : List ℕ → Told) (resolves : List ℕ → Option (List ℕ)) (limit : ℕ) (paths others : List (List ℕ)) (done later again : List Done)
    → IsOrdered [] done → StandAlike paths others → ByLookups files (λ some. closure some resolves limit paths done ≡ (later, Accepted))
    → ByLookups files (λ some. closure some resolves limit others done ≡ (again, Accepted)) → StandAlike again later × (length again ≡ length later)
