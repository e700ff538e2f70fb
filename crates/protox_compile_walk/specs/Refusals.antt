-- What an error says of a walk and of an opening.
use Rattle.std.specs.Prelude.{◌≡◌, ◌++◌, ◌⊎◌, ℕ, List, Bool, true, false, not, if◌then◌else◌, Option, Some, None}
use Rattle.std.specs.List.{list_all}
use Rattle.std.specs.Str.{bytes_eq}
use Rattle.pbx_desc_records.specs.declared.file.FileDescriptorProto.{FileDescriptorProto}
use Rattle.pbx_link_definitions.specs.Names.{text_or_empty}
use Rattle.pbx_link_definitions.specs.declared.error.DescriptorError.{DescriptorError}
use Rattle.pbx_link.specs.Pool.{IsRefused}
use Rattle.pbx_parse.specs.declared.error.ParseError.TheVariants as parse
use Rattle.protox_io.specs.FileNames.{path_equal, escapes}
use Rattle.protox_file_sources.specs.Told.{Entry, Lookup, NoFile, IsFile, TextFault}
use Rattle.protox_file_error.specs.declared.error.ErrorKind.{ErrorKind}
use Rattle.protox_file_error.specs.declared.error.ErrorKind.TheVariants.{Parse, Check, OpenFile, FileTooLarge, FileInvalidUtf8, FileNotFound}
use Rattle.protox_file_error.specs.declared.error.ErrorKind.TheVariants.{ImportNotFound, CircularImport, FileNotIncluded, FileShadowed}
use Rattle.protox_file_error.specs.declared.error.ErrorKind.TheVariants.{DuplicateImport, Custom, NameMismatch, FileLimit, NoMemory, ImportEscapes}
use Rattle.protox_compile_walk.specs.Walk.{Open, Done, Limit, Text, Mismatch, Shadowed, Duplicate, Escapes, Circular, NoImport, Unlinked, Visited}
use Rattle.protox_compile_walk.specs.Walk.{Missing, Faulted, records, declared_name, is_done}
use Rattle.protox_compile_walk.specs.Opening.{Ended, NotIncluded, Refused, root_of, opening, grown}

-- a walk, by what looking names up comes to
abbrev pub Walk : Type 0
Walk = (List ℕ → Lookup) → List Done × Visited

-- the same look-ups, with this one of a name
abbrev pub with_lookup : List ℕ → Lookup → (List ℕ → Lookup) → List ℕ → Lookup
with_lookup n lookup lookups m = if bytes_eq m n then lookup else lookups m

-- the same look-ups, with one name that has no file
abbrev pub without : List ℕ → (List ℕ → Lookup) → List ℕ → Lookup
without n lookups = with_lookup n NoFile lookups

-- a file that was only imported
abbrev pub is_imported : Done → Bool
is_imported d = not d.opened

-- the second list begins with the first
pub record Extends (old new : List Done) : Type 0 where
  pub more : List Done
  pub is : new ≡ old ++ more

-- more files stand behind the old ones, as imports
pub record Grows (old new : List Done) : Type 0 where
  pub more : List Done
  pub is : new ≡ old ++ more
  pub imported : list_all is_imported more ≡ true

-- the record is not linked among the finished files, for this reason
pub record StopsLinking (error : DescriptorError) (walk : List Done × Visited) (done : List Done) : Type 0 where
  pub file : FileDescriptorProto
  pub walk_is : walk ≡ (done, Faulted (Unlinked file))
  pub refused : IsRefused (records done) file error

-- the walk ended since the name has no file, which is that of its root or of an import
abbrev pub EndsWithout : List ℕ → List ℕ → Visited → Type 0
EndsWithout root n Missing = n ≡ root
EndsWithout root n (Faulted (NoImport file index place m)) = m ≡ n
EndsWithout root n end = ⊥

-- reading the name failed: the files are those that the walk finishes where the name has no file, and begin those that it finishes
pub record StopsAtName (root n : List ℕ) (walk : Walk) (lookups : List ℕ → Lookup) (done : List Done) : Type 0 where
  pub front : Extends done (walk lookups).0
  pub end : Visited
  pub exact : walk (without n lookups) ≡ (done, end)
  pub lacking : EndsWithout root n end

-- How the walk of this root ended, by the error that was answered: a fault is the walk's own, with the files that it finished before it;
-- after a fault of the resolver and want of memory there are some of them.
abbrev pub Ends : List ℕ → ErrorKind → Walk → (List ℕ → Lookup) → List Done → Type 0
Ends root (Parse (parse.Syntax file line column expected found)) walk lookups done = walk lookups ≡ (done, Faulted (Text file 1))
Ends root (Parse parse.NoMemory) walk lookups done = ⊥
Ends root (Check error) walk lookups done = StopsLinking error (walk lookups) done
Ends root (OpenFile name path fault) walk lookups done = StopsAtName root name walk lookups done
Ends root (FileTooLarge name) walk lookups done = walk lookups ≡ (done, Faulted (Text name 4))
Ends root (FileInvalidUtf8 name) walk lookups done = walk lookups ≡ (done, Faulted (Text name 5))
Ends root (FileNotFound name) walk lookups done = (name ≡ root) × (walk lookups ≡ (done, Missing))
Ends root (ImportNotFound file index place name) walk lookups done = walk lookups ≡ (done, Faulted (NoImport file index place name))
Ends root (CircularImport name cycle) walk lookups done = walk lookups ≡ (done, Faulted (Circular name cycle))
Ends root (FileShadowed name path shadow) walk lookups done = walk lookups ≡ (done, Faulted (Shadowed name path shadow))
Ends root (DuplicateImport file index place name) walk lookups done = walk lookups ≡ (done, Faulted (Duplicate file index place name))
Ends root (Custom text is_io) walk lookups done = Extends done (walk lookups).0
Ends root (NameMismatch asked declared) walk lookups done = walk lookups ≡ (done, Faulted (Mismatch asked declared))
Ends root (FileLimit limit) walk lookups done = walk lookups ≡ (done, Faulted (Limit limit))
Ends root NoMemory walk lookups done = Extends done (walk lookups).0
Ends root (ImportEscapes file index place name) walk lookups done = walk lookups ≡ (done, Faulted (Escapes file index place name))
Ends root kind walk lookups done = ⊥

-- a record whose file is not finished breaks a rule among the finished files, which is this one
abbrev pub BreaksRule : List Done → DescriptorError → Type 0
BreaksRule done error = (file : FileDescriptorProto) × (is_done done (text_or_empty file.name) ≡ false) × IsRefused (records done) file error

-- What is known of the error of a walk over every resolver: the rule is broken among the finished files, a fault of the resolver has this
-- cause, the limit is this one, the declared name is another than the one asked for, and an import that leaves the folders does so. Some
-- kinds never come.
abbrev pub HasStepCause : ℕ → List Done → (ErrorKind → Type 0) → ErrorKind → Type 0
HasStepCause limit done fault (Parse error) = Unit {0}
HasStepCause limit done fault (Check error) = BreaksRule done error
HasStepCause limit done fault (OpenFile name path words) = fault (OpenFile name path words)
HasStepCause limit done fault (FileTooLarge name) = Unit {0}
HasStepCause limit done fault (FileInvalidUtf8 name) = Unit {0}
HasStepCause limit done fault (FileNotFound name) = Unit {0}
HasStepCause limit done fault (ImportNotFound file index place name) = Unit {0}
HasStepCause limit done fault (CircularImport name cycle) = Unit {0}
HasStepCause limit done fault (DuplicateImport file index place name) = Unit {0}
HasStepCause limit done fault (Custom text is_io) = fault (Custom text is_io)
HasStepCause limit done fault (NameMismatch asked declared) = bytes_eq declared asked ≡ false
HasStepCause limit done fault (FileLimit most) = most ≡ limit
HasStepCause limit done fault NoMemory = Unit {0}
HasStepCause limit done fault (ImportEscapes file index place name) = escapes name ≡ true
HasStepCause limit done fault kind = ⊥

-- the same where a root was asked by a path: a file that has another path may be found
abbrev pub HasRootCause : Option (List ℕ) → ℕ → List Done → (ErrorKind → Type 0) → ErrorKind → Type 0
HasRootCause asked limit done fault (FileShadowed name path shadow) = (asked ≡ Some path) × (path_equal shadow path ≡ false)
HasRootCause asked limit done fault kind = HasStepCause limit done fault kind

-- this error, or want of memory in its place
abbrev pub OrNoMemory : ErrorKind → ErrorKind → Type 0
OrNoMemory error told = (error ≡ NoMemory) ⊎ (error ≡ told)

-- the error that no file has the name
abbrev pub is_absent : ErrorKind → Bool
is_absent (FileNotFound name) = true
is_absent kind = false

-- the error of an import or a root, made of the error at its opening: what is missing is told otherwise
pub record IsToldBy (missing : ErrorKind) (error answer : ErrorKind) : Type 0 where
  pub absent : is_absent error ≡ true → OrNoMemory answer missing
  pub other : is_absent error ≡ false → answer ≡ error

-- the name has just been opened
pub record IsOpenOf (lookup : Lookup) (name : List ℕ) (f : Open) : Type 0 where
  pub lookup_is : lookup ≡ IsFile f.entry
  pub declared : bytes_eq (declared_name f.entry) name ≡ true
  pub name_is : f.name ≡ name
  pub next_is : f.next ≡ 0

-- a root that was asked by this path has that path, or none
abbrev pub IsUnshadowed : Option (List ℕ) → Option (List ℕ) → Type 0
IsUnshadowed None path = Unit {0}
IsUnshadowed (Some asked) None = Unit {0}
IsUnshadowed (Some asked) (Some path) = path_equal path asked ≡ true

-- the declared name is another
pub record Declares (lookup : Lookup) (name declared : List ℕ) : Type 0 where
  pub entry : Entry
  pub lookup_is : lookup ≡ IsFile entry
  pub other : bytes_eq (declared_name entry) name ≡ false
  pub declared_is : declared ≡ declared_name entry

-- the file has another path than the one that was asked
pub record IsShadowed (lookup : Lookup) (name : List ℕ) (asked : Option (List ℕ)) (path shadow : List ℕ) : Type 0 where
  pub entry : Entry
  pub lookup_is : lookup ≡ IsFile entry
  pub declared : bytes_eq (declared_name entry) name ≡ true
  pub asked_is : asked ≡ Some path
  pub path_is : entry.path ≡ Some shadow
  pub other : path_equal shadow path ≡ false

-- why a name that looks up to this was not opened
abbrev pub StopsOpening : Lookup → List ℕ → Option (List ℕ) → ErrorKind → Type 0
StopsOpening lookup name asked (Parse (parse.Syntax file line column expected found)) = (file ≡ name) × (lookup ≡ TextFault 1)
StopsOpening lookup name asked (Parse parse.NoMemory) = ⊥
StopsOpening lookup name asked (OpenFile file path fault) = file ≡ name
StopsOpening lookup name asked (FileTooLarge file) = (file ≡ name) × (lookup ≡ TextFault 4)
StopsOpening lookup name asked (FileInvalidUtf8 file) = (file ≡ name) × (lookup ≡ TextFault 5)
StopsOpening lookup name asked (FileNotFound file) = (file ≡ name) × (lookup ≡ NoFile)
StopsOpening lookup name asked (FileShadowed n path shadow) = (n ≡ name) × IsShadowed lookup name asked path shadow
StopsOpening lookup name asked (Custom text is_io) = Unit {0}
StopsOpening lookup name asked (NameMismatch n declared) = (n ≡ name) × Declares lookup name declared
StopsOpening lookup name asked NoMemory = Unit {0}
StopsOpening lookup name asked kind = ⊥

-- Why a name that may be asked by a path was not opened, over every resolver: a fault of the resolver has this cause, and a file that has
-- another name or another path was found. Some kinds never come.
abbrev pub HasOpenCause : Option (List ℕ) → (ErrorKind → Type 0) → ErrorKind → Type 0
HasOpenCause asked fault (Parse error) = Unit {0}
HasOpenCause asked fault (OpenFile name path words) = fault (OpenFile name path words)
HasOpenCause asked fault (FileTooLarge name) = Unit {0}
HasOpenCause asked fault (FileInvalidUtf8 name) = Unit {0}
HasOpenCause asked fault (FileNotFound name) = Unit {0}
HasOpenCause asked fault (FileShadowed name path shadow) = (asked ≡ Some path) × (path_equal shadow path ≡ false)
HasOpenCause asked fault (Custom text is_io) = fault (Custom text is_io)
HasOpenCause asked fault (NameMismatch name declared) = bytes_eq declared name ≡ false
HasOpenCause asked fault NoMemory = Unit {0}
HasOpenCause asked fault kind = ⊥

-- the opening of what is asked for was refused since the name has no file, which is the name that is asked for or that of an import
abbrev pub RefusedWithout : Option (List ℕ × Option (List ℕ)) → List ℕ → Ended → Type 0
RefusedWithout root n NotIncluded = (asked : Option (List ℕ)) × (root ≡ Some (n, asked))
RefusedWithout root n (Refused (NoImport file index place m)) = m ≡ n
RefusedWithout root n end = ⊥

-- How an opening was refused: reading the name failed. The files are those that are finished where the name has no file.
pub record FailsAtName (root : Option (List ℕ × Option (List ℕ))) (n : List ℕ) (files : (List ℕ → Lookup) → List Done)
    (opened : (List ℕ → Lookup) → List Done × Ended) (lookups : List ℕ → Lookup) (later : List Done) : Type 0 where
  pub front : Extends later (files lookups)
  pub end : Ended
  pub exact : opened (without n lookups) ≡ (later, end)
  pub lacking : RefusedWithout root n end

-- the record is not linked among the finished files, for this reason
pub record RefusesLinking (error : DescriptorError) (opened : List Done × Ended) (later : List Done) : Type 0 where
  pub file : FileDescriptorProto
  pub opened_is : opened ≡ (later, Refused (Unlinked file))
  pub refused : IsRefused (records later) file error

-- The error that an opening of the path was refused with, and the files that it left: `root` is what the path asks for, `files` are those
-- that it would finish, `opened` is what it comes to, each by what looking names up comes to.
abbrev pub RefusesWith : List ℕ → Option (List ℕ × Option (List ℕ)) → ((List ℕ → Lookup) → List Done)
    → ((List ℕ → Lookup) → List Done × Ended) → (List ℕ → Lookup) → List Done → ErrorKind → Type 0
RefusesWith path root files opened lookups later (Parse (parse.Syntax file line column expected found)) = opened lookups ≡ (later, Refused (Text file 1))
RefusesWith path root files opened lookups later (Parse parse.NoMemory) = ⊥
RefusesWith path root files opened lookups later (Check error) = RefusesLinking error (opened lookups) later
RefusesWith path root files opened lookups later (OpenFile name p fault) = FailsAtName root name files opened lookups later
RefusesWith path root files opened lookups later (FileTooLarge name) = opened lookups ≡ (later, Refused (Text name 4))
RefusesWith path root files opened lookups later (FileInvalidUtf8 name) = opened lookups ≡ (later, Refused (Text name 5))
RefusesWith path root files opened lookups later (ImportNotFound file index place name) = opened lookups ≡ (later, Refused (NoImport file index place name))
RefusesWith path root files opened lookups later (CircularImport name cycle) = opened lookups ≡ (later, Refused (Circular name cycle))
RefusesWith path root files opened lookups later (FileNotIncluded p) = (p ≡ path) × (opened lookups ≡ (later, NotIncluded))
RefusesWith path root files opened lookups later (FileShadowed name asked shadow) = opened lookups ≡ (later, Refused (Shadowed name asked shadow))
RefusesWith path root files opened lookups later (DuplicateImport file index place name) = opened lookups ≡ (later, Refused (Duplicate file index place name))
RefusesWith path root files opened lookups later (Custom text is_io) = Extends later (files lookups)
RefusesWith path root files opened lookups later (NameMismatch asked declared) = opened lookups ≡ (later, Refused (Mismatch asked declared))
RefusesWith path root files opened lookups later (FileLimit limit) = opened lookups ≡ (later, Refused (Limit limit))
RefusesWith path root files opened lookups later NoMemory = Extends later (files lookups)
RefusesWith path root files opened lookups later (ImportEscapes file index place name) = opened lookups ≡ (later, Refused (Escapes file index place name))
RefusesWith path root files opened lookups later kind = ⊥

-- the name that was asked for is finished exactly if it was before
abbrev pub IsLeftOut : Option (List ℕ × Option (List ℕ)) → List Done → List Done → Type 0
IsLeftOut None old new = Unit {0}
IsLeftOut (Some root) old new = is_done new root.0 ≡ is_done old root.0

-- The opening of the path was refused with the error, and left these files. The name that it asks for is finished exactly if it was before.
pub record RefusesOpening (lookups : List ℕ → Lookup) (resolves : List ℕ → Option (List ℕ)) (limit : ℕ) (path : List ℕ) (done later : List Done)
    (error : ErrorKind) : Type 0 where
  pub refused : RefusesWith path (root_of resolves path) (λ ls. grown ls limit (root_of resolves path) done)
      (λ ls. opening ls resolves limit path done) lookups later error
  pub root : IsLeftOut (root_of resolves path) done later

-- What is known of the error of opening a path over every resolver: the rule is broken among the files that are left, a fault of the
-- resolver has this cause, the path and the limit are these, what was found has another path or another name, and an import that leaves
-- the folders does so. Some kinds never come.
abbrev pub HasOpeningCause : ℕ → List ℕ → List Done → (ErrorKind → Type 0) → ErrorKind → Type 0
HasOpeningCause limit path later fault (Parse error) = Unit {0}
HasOpeningCause limit path later fault (Check error) = BreaksRule later error
HasOpeningCause limit path later fault (OpenFile name p words) = fault (OpenFile name p words)
HasOpeningCause limit path later fault (FileTooLarge name) = Unit {0}
HasOpeningCause limit path later fault (FileInvalidUtf8 name) = Unit {0}
HasOpeningCause limit path later fault (ImportNotFound file index place name) = Unit {0}
HasOpeningCause limit path later fault (CircularImport name cycle) = Unit {0}
HasOpeningCause limit path later fault (FileNotIncluded p) = p ≡ path
HasOpeningCause limit path later fault (FileShadowed name asked shadow) = (asked ≡ path) × (path_equal shadow asked ≡ false)
HasOpeningCause limit path later fault (DuplicateImport file index place name) = Unit {0}
HasOpeningCause limit path later fault (Custom text is_io) = fault (Custom text is_io)
HasOpeningCause limit path later fault (NameMismatch asked declared) = bytes_eq declared asked ≡ false
HasOpeningCause limit path later fault (FileLimit most) = most ≡ limit
HasOpeningCause limit path later fault NoMemory = Unit {0}
HasOpeningCause limit path later fault (ImportEscapes file index place name) = escapes name ≡ true
HasOpeningCause limit path later fault kind = ⊥
