-- The state of a compiler.
use Rattle.std.specs.Prelude.{◌≡◌, ℕ, List, [], Bool, false}
use Rattle.protox_io.specs.Count.{Count, Later}
use Rattle.protox_file_sources.specs.Library.{Library}
use Rattle.protox_compile_walk.specs.Walk.{Done}

-- its resolver, the files that are finished, how many files there may be, and whether sets have the files that are only imported and
-- source information
pub record State (R : Type 0) : Type 0 where
  pub resolver : R
  pub done : List Done
  pub limit : ℕ
  pub imports : Bool
  pub info : Bool

-- how many files there may be at most
abbrev pub most_files : ℕ
most_files = 65536

-- a compiler without files
abbrev pub fresh : {R : Type 0} → R → State R
fresh resolver = record { resolver = resolver; done = []; limit = most_files; imports = false; info = false }

-- What a call leaves of where it reads files, a resolver or a disk: it tells of the same files, and its count of faults has not fallen.
pub record KeepsFiles {S T : Type 0} (tells : S → T) (count : S → Count) (old new : S) : Type 0 where
  pub keeps : tells new ≡ tells old
  pub later : Later (count old) (count new)

-- What a call that opens files leaves of a compiler: its settings, and where it reads files.
pub record KeepsSettings {R : Type 0} (library : R → Library) (count : R → Count) (old new : State R) : Type 0 where
  pub settings : new ≡ record old { resolver = new.resolver; done = new.done }
  pub files : KeepsFiles library count old.resolver new.resolver
