-- What is left of a walk whose open files stand on a stack, the innermost first.
use Rattle.std.specs.Prelude.{◌≡◌, ◌⊎◌, ◌+◌, ◌∷◌, [], ℕ, List, Bool, false, ◌||◌, map, take, drop, slice_index_or, Option, None}
use Rattle.pbx_link_definitions.specs.Names.{among}
use Rattle.protox_io.specs.FileNames.{escapes}
use Rattle.protox_file_sources.specs.Told.{Told, Lookup, Unread, IsLookup, AreLookups, ByLookups}
use Rattle.protox_compile_walk.specs.Places.{place_of_import}
use Rattle.protox_compile_walk.specs.Walk.{Done, Fault, Visited, Finished, Missing, Faulted, Open, imports_of, is_done, visit_imports, finish, visits}
use Rattle.protox_file_error.specs.declared.error.ErrorKind.{ErrorKind}
use Rattle.protox_compile_walk.specs.Refusals.{Walk, Ends}
use Rattle.protox_compile_walk.specs.declared.step.Import.{Import}
use Rattle.protox_compile_walk.specs.declared.step.Import.TheVariants.{Finished as FinishedImport, Visit}

abbrev pub names_of : List Open → List (List ℕ)
names_of fs = map (λ (f : Open). f.name) fs

-- the imports that an open file has left
abbrev pub imports_left : (List ℕ → Lookup) → ℕ → List (List ℕ) → Open → List Done → List Done × Option Fault
imports_left lookups limit chain f done = visit_imports (λ d m. visits lookups limit (f.name ∷ chain) None m d) (f.name ∷ chain) f.name
    (place_of_import f.entry) (take f.next (imports_of f.entry)) (drop f.next (imports_of f.entry)) done

abbrev pub go_on : List Done × Visited → (List Done → List Done × Visited) → List Done × Visited
go_on (done, Finished) rest = rest done
go_on (done, Missing) rest = (done, Missing)
go_on (done, Faulted fault) rest = (done, Faulted fault)

-- the end of the walk, where these files are open, the innermost first
unfoldable pub resume : (List ℕ → Lookup) → ℕ → List Open → List Done → List Done × Visited
resume lookups limit [] done = (done, Finished)
resume lookups limit (f ∷ fs) done = go_on (finish f.name f.entry (imports_left lookups limit (names_of fs) f done)) (resume lookups limit fs)

-- past the import that comes next
abbrev pub past : Open → Open
past f = record f { next = f.next + 1 }

-- the import that comes next
abbrev pub import_of : Open → List ℕ
import_of f = slice_index_or (imports_of f.entry) f.next []

-- the import that comes next is to be visited
pub record IsVisit (f : Open) (fs : List Open) (done : List Done) (name : List ℕ) : Type 0 where
  pub name_is : name ≡ import_of f
  pub unseen : among (take f.next (imports_of f.entry)) name ≡ false
  pub inside : escapes name ≡ false
  pub closed : among (names_of (f ∷ fs)) name ≡ false
  pub new : is_done done name ≡ false

-- a file of this name was opened: it is open or finished
abbrev pub was_opened : List Open → List Done → List ℕ → Bool
was_opened fs done name = among (names_of fs) name || is_done done name

-- the look-up of a name is such, which is right where this stands under the name
abbrev pub ByLookup : List ℕ → Told → (Lookup → Type 0) → Type 0
ByLookup name told P = (lookup : Lookup) × IsLookup name told lookup × P lookup

-- the others are the same at each name that these looked up
abbrev pub IsMore : (List ℕ → Lookup) → (List ℕ → Lookup) → Type 0
IsMore known lookups = (name : List ℕ) → (known name ≡ Unread) ⊎ (lookups name ≡ known name)

-- What a walk comes to is what is left of it on the stack, where the look-ups begin with those that it has made. These are right, and of
-- the files that were opened alone.
pub record Follows (files : List ℕ → Told) (walk : Walk) (limit : ℕ) (fs : List Open) (done : List Done) : Type 0 where
  pub known : List ℕ → Lookup
  pub right : AreLookups files known
  pub closed : (name : List ℕ) → was_opened fs done name ≡ false → known name ≡ Unread
  pub is : (lookups : List ℕ → Lookup) → IsMore known lookups → walk lookups ≡ resume lookups limit fs done

-- every walk that has this left on the stack ends so by the error, whatever its root is
abbrev pub EndsWalks : (List ℕ → Told) → ℕ → List Open → List Done → ErrorKind → List Done → Type 0
EndsWalks files limit fs done error later =
    (root : List ℕ) (walk : Walk) → Follows files walk limit fs done → ByLookups files (λ lookups. Ends root error walk lookups later)

-- every walk that has the one left has the other left
abbrev pub LeadsTo : (List ℕ → Told) → ℕ → List Open → List Done → List Open → List Done → Type 0
LeadsTo files limit fs done gs later = (walk : Walk) → Follows files walk limit fs done → Follows files walk limit gs later

-- what an import asks for
abbrev pub AdvancesOrVisits : Open → List Open → List Done → Import → Type 0
AdvancesOrVisits f fs done FinishedImport = (files : List ℕ → Told) (limit : ℕ) → LeadsTo files limit (f ∷ fs) done (past f ∷ fs) done
AdvancesOrVisits f fs done (Visit name) = IsVisit f fs done name
