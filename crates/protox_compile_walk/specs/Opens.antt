-- What opening paths does to the finished files, over every resolver.
use Rattle.std.specs.Prelude.{◌≡◌, ◌++◌, ◌∷◌, ℕ, zero, suc, List, length, Bool, true, false, Option, Some, None}
use Rattle.protox_io.specs.FileNames.{name_of, path_equal}
use Rattle.protox_file_error.specs.declared.error.ErrorKind.{ErrorKind}
use Rattle.protox_file_error.specs.declared.error.ErrorKind.TheVariants.{FileShadowed, NoMemory}
use Rattle.protox_compile_walk.specs.Walk.{Done, is_done}
use Rattle.protox_compile_walk.specs.declared.root.Opened.{Opened}
use Rattle.protox_compile_walk.specs.Opening.{mark, asked_path, report_in}
use Rattle.protox_compile_walk.specs.Refusals.{Grows, HasOpeningCause}

-- the name that a path asks for, and whether the path was resolved
abbrev pub IsRoot : Option (List ℕ × Option (List ℕ)) → List ℕ → Option (List ℕ × Bool) → Type 0
IsRoot root path None = root ≡ None
IsRoot root path (Some found) = root ≡ Some (found.0, asked_path found.1 path)

-- a file that is finished has another path than the one that was asked
abbrev pub IsShadowedBy : List ℕ → Option (List ℕ) → Option (List ℕ) → ErrorKind → Type 0
IsShadowedBy name asked known (FileShadowed n path shadow) = (n ≡ name) × (asked ≡ Some path) × (known ≡ Some shadow) × (path_equal shadow path ≡ false)
IsShadowedBy name asked known NoMemory = Unit {0}
IsShadowedBy name asked known kind = ⊥

-- nothing is read for a name that is finished, nor where no name is asked for
abbrev pub is_settled : Option (List ℕ × Option (List ℕ)) → List Done → Bool
is_settled None done = true
is_settled (Some root) done = is_done done root.0

-- more files stand behind the old ones as imports, and one of all has been marked, whose name names itself; the report is what that name
-- was before
pub record Opens (old new : List Done) (report : Opened) : Type 0 where
  pub name : List ℕ
  pub named : name_of name ≡ Some name
  pub middle : List Done
  pub grows : Grows old middle
  pub finished : is_done middle name ≡ true
  pub marked : new ≡ mark name middle
  pub reported : report ≡ report_in name old

-- so many paths were opened one after another
abbrev pub OpensTimes : ℕ → List Done → List Done → Type 0
OpensTimes zero old new = new ≡ old
OpensTimes (suc n) old new = (middle : List Done) × OpensTimes n old middle × (report : Opened) × Opens middle new report

-- The paths before this one were opened one after another, and then it was refused with the error, of which so much is known: more files stand behind as
-- imports.
pub record StopsAmong (limit : ℕ) (paths : List (List ℕ)) (old new : List Done) (fault : ErrorKind → Type 0) (error : ErrorKind) : Type 0 where
  pub before : List (List ℕ)
  pub path : List ℕ
  pub after : List (List ℕ)
  pub split : paths ≡ before ++ path ∷ after
  pub middle : List Done
  pub opens : OpensTimes (length before) old middle
  pub grows : Grows middle new
  pub cause : HasOpeningCause limit path new fault error
