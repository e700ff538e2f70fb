-- Opening a path again: what a refused opening is answered with, and what the name of the path was before the first one.
use Rattle.std.specs.Prelude.{◌≡◌, ◌&&◌, ℕ, List, Bool, true, false, not, if◌then◌else◌}
use Rattle.std.specs.List.{list_any}
use Rattle.protox_file_error.specs.declared.error.ErrorKind.{ErrorKind}
use Rattle.protox_file_error.specs.declared.error.ErrorKind.TheVariants.{NoMemory}
use Rattle.protox_file_sources.specs.Metadata.{Metadata}
use Rattle.protox_compile_walk.specs.declared.root.Opened.{Opened}
use Rattle.protox_compile_walk.specs.declared.root.Opened.TheVariants.{Compiled, Import, Again}
use Rattle.protox_compile_laws.specs.Retry.{may_pass}

-- the error is want of memory
abbrev pub lacks_memory : ErrorKind → Bool
lacks_memory NoMemory = true
lacks_memory error = false

-- what the last opening is answered with: want of memory where an earlier one was refused for it, and this one may pass
abbrev pub last_error : Bool → ErrorKind → ErrorKind
last_error lacked error = if may_pass error && lacked then NoMemory else error

-- Why the error of an opening ends the tries, of which so many are left, and with which answer.
pub record EndsTries (lacked : Bool) (left : ℕ) (error answer : ErrorKind) : Type 0 where
  pub last : may_pass error ≡ true → left ≡ 0
  pub answer_is : answer ≡ last_error lacked error

-- one of the files is marked as opened
abbrev pub has_opened : List Metadata → Bool
has_opened files = list_any (λ (m : Metadata). not m.is_import) files

-- What a name was before the first opening, by what it was before the last one and by the files that stand behind those of then, where it
-- is marked: one of these is marked as opened only where it has this name.
abbrev pub told_before : List Metadata → Opened → Opened
told_before more Compiled = Compiled
told_before more Import = if has_opened more then Compiled else Import
told_before more Again = Again
