-- What compiling paths at once comes to.
use Rattle.std.specs.Prelude.{◌≡◌, ◌⊎◌, [], ℕ, List, true}
use Rattle.pbx_desc_records.specs.declared.file.FileDescriptorSet.{FileDescriptorSet}
use Rattle.pbx_link_laws.specs.ContentLaws.{AreLinked}
use Rattle.protox_file_error.specs.declared.error.ErrorKind.{ErrorKind}
use Rattle.protox_file_error.specs.declared.error.ErrorKind.TheVariants.{NoMemory}
use Rattle.protox_file_sources.specs.Library.{Library}
use Rattle.protox_file_sources.specs.Told.{ByLookups}
use Rattle.protox_compile_walk.specs.Walk.{Done, records}
use Rattle.protox_compile_walk.specs.Compiled.{IsOrdered}
use Rattle.protox_compile_walk.specs.Opens.{OpensTimes, StopsAmong}
use Rattle.protox_compile_walk.specs.Opening.{Accepted, closure}
use Rattle.protox_compile_walk.specs.Closures.{StopsAt}
use Rattle.protox_compile.specs.State.{most_files}
use Rattle.protox_compile.specs.Sets.{listed}

-- the set of all the files, with imports and source information
abbrev pub whole_set : List Done → FileDescriptorSet
whole_set done = record { file = listed true true done; unknown = [] }

-- the files of the paths and all that they import, in order
abbrev pub Compiles : Library → List (List ℕ) → (List Done → Type 0) → Type 0
Compiles library paths P =
    ByLookups library.files (λ lookups. (done : List Done) × (closure lookups library.resolves most_files paths [] ≡ (done, Accepted)) × P done)

-- the first path that is refused, with its fault
abbrev pub StopsWalk : Library → List (List ℕ) → ErrorKind → Type 0
StopsWalk library paths error =
    ByLookups library.files (λ lookups. (done : List Done) × StopsAt lookups library.resolves most_files paths [] done error)

-- why there is no such set: want of memory, or a path that is refused
abbrev pub StopsCompiling : Library → List (List ℕ) → ErrorKind → Type 0
StopsCompiling library paths error = (error ≡ NoMemory) ⊎ StopsWalk library paths error

-- What opening so many paths leaves over every resolver: files in order, each once and behind its imports, and each linked to itself among those before it.
pub record AreCompiled (count : ℕ) (done : List Done) : Type 0 where
  pub opened : OpensTimes count [] done
  pub ordered : IsOrdered [] done
  pub linked : AreLinked [] (records done)

-- why there is no such set over every resolver, whose faults have this cause: a path is refused, those before it being opened
abbrev pub HasCompilingCause : List (List ℕ) → (ErrorKind → Type 0) → ErrorKind → Type 0
HasCompilingCause paths fault error =
    (error ≡ NoMemory) ⊎ ((done : List Done) × StopsAmong most_files paths [] done fault error)
