-- How openings one after another were refused.
use Rattle.std.specs.Prelude.{◌≡◌, ◌++◌, ◌∷◌, ℕ, List, Option}
use Rattle.protox_file_sources.specs.Told.{Lookup}
use Rattle.protox_file_error.specs.declared.error.ErrorKind.{ErrorKind}
use Rattle.protox_compile_walk.specs.Walk.{Done}
use Rattle.protox_compile_walk.specs.Opening.{Accepted, closure}
use Rattle.protox_compile_walk.specs.Refusals.{RefusesOpening, Grows}

-- which path was refused with the error, the paths before it being accepted: more files stand behind theirs as imports, without its own
pub record StopsAt (lookups : List ℕ → Lookup) (resolves : List ℕ → Option (List ℕ)) (limit : ℕ) (paths : List (List ℕ)) (old new : List Done)
    (error : ErrorKind) : Type 0 where
  pub before : List (List ℕ)
  pub path : List ℕ
  pub after : List (List ℕ)
  pub middle : List Done
  pub split : paths ≡ before ++ path ∷ after
  pub accepted : closure lookups resolves limit before old ≡ (middle, Accepted)
  pub refused : RefusesOpening lookups resolves limit path middle new error
  pub grows : Grows middle new
