-- The walk over imports: which files are finished, in which order, and the first fault. The files that a file imports come before it
-- (Protocol Buffers documentation of FileDescriptorSet in descriptor.proto and of `--include_imports` of protoc: topological order).
use Rattle.std.specs.Prelude.{◌+◌, ◌-◌, ◌∷◌, ◌++◌, [], ℕ, zero, suc, List, Bool, false, if◌then◌else◌, nat_lt, length, reverse, map, codes, Option, Some, None}
use Rattle.std.specs.List.{list_any, concat}
use Rattle.std.specs.Str.{bytes_eq}
use Rattle.pbx_desc_records.specs.declared.file.FileDescriptorProto.{FileDescriptorProto}
use Rattle.pbx_link_definitions.specs.Names.{among, text_or_empty}
use Rattle.pbx_link_record.specs.Linked.{linked_record}
use Rattle.pbx_link_rules.specs.Breaches.{keeps_rules}
use Rattle.protox_io.specs.FileNames.{path_equal, escapes}
use Rattle.protox_file_sources.specs.Told.{Entry, Lookup, NoFile, IsFile, TextFault, Unread}
use Rattle.protox_compile_walk.specs.Places.{place_of_import}

-- a finished file: its name, its linked record, the path that it was read from, and whether it was opened or only imported
pub record Done : Type 0 where
  pub name : List ℕ
  pub file : FileDescriptorProto
  pub path : Option (List ℕ)
  pub opened : Bool

-- an open file: its name, its entry, and how many of its imports are done with
pub record Open : Type 0 where
  pub name : List ℕ
  pub entry : Entry
  pub next : ℕ

-- the linked records of finished files
abbrev pub records : List Done → List FileDescriptorProto
records done = map (λ (d : Done). d.file) done

-- the name that a file declares, which is empty where it declares none
abbrev pub declared_name : Entry → List ℕ
declared_name entry = text_or_empty entry.file.name

-- the names of the files that it imports, in the order of the source
abbrev pub imports_of : Entry → List (List ℕ)
imports_of entry = entry.file.dependency

-- the file of an entry, linked among finished files, as an import under this name
abbrev pub done_as : List Done → List ℕ → Entry → Done
done_as done name entry = record { name = name; file = linked_record (records done) entry.file; path = entry.path; opened = false }

-- what ends a walk, but for a file that is absent; a name that was not looked up ends it too
pub data Fault : Type 0 where
  Limit : ℕ → Fault
  Text : List ℕ → ℕ → Fault
  Mismatch : List ℕ → List ℕ → Fault
  Shadowed : List ℕ → List ℕ → List ℕ → Fault
  Duplicate : List ℕ → ℕ → Option (ℕ × ℕ) → List ℕ → Fault
  Escapes : List ℕ → ℕ → Option (ℕ × ℕ) → List ℕ → Fault
  Circular : List ℕ → List ℕ → Fault
  NoImport : List ℕ → ℕ → Option (ℕ × ℕ) → List ℕ → Fault
  Unlinked : FileDescriptorProto → Fault
  NotRead : List ℕ → Fault

-- how a visit ends
pub data Visited : Type 0 where
  Finished : Visited
  Missing : Visited
  Faulted : Fault → Visited

-- a file of this name is finished
abbrev pub is_done : List Done → List ℕ → Bool
is_done done name = list_any (λ (d : Done). bytes_eq d.name name) done

-- names, an arrow before each
abbrev pub arrows_before : List (List ℕ) → List (List ℕ)
arrows_before [] = []
arrows_before (name ∷ names) = codes " -> " ∷ name ∷ arrows_before names

-- names, joined by arrows
abbrev pub chain_text : List (List ℕ) → List ℕ
chain_text [] = []
chain_text (name ∷ names) = concat (name ∷ arrows_before names)

-- after the visit of the import m at index i of n, which stands at this place: a fault ends the imports, and what is missing is told by its importer
abbrev pub after_visit : List ℕ → ℕ → Option (ℕ × ℕ) → List ℕ → List Done × Visited → (List Done → List Done × Option Fault) → List Done × Option Fault
after_visit n i place m (done, Finished) rest = rest done
after_visit n i place m (done, Missing) rest = (done, Some (NoImport n i place m))
after_visit n i place m (done, Faulted fault) rest = (done, Some fault)

-- the imports of the file n in order: `chain` are the open names, the innermost first, `places` tells the places of its imports by their
-- indices, `seen` are its imports before these
abbrev pub visit_imports : (List Done → List ℕ → List Done × Visited) → List (List ℕ) → List ℕ → (ℕ → Option (ℕ × ℕ)) → List (List ℕ)
    → List (List ℕ) → List Done → List Done × Option Fault
visit_imports visit chain n places seen [] done = (done, None)
visit_imports visit chain n places seen (m ∷ ms) done =
    if among seen m then (done, Some (Duplicate n (length seen) (places (length seen)) m))
    else (if escapes m then (done, Some (Escapes n (length seen) (places (length seen)) m))
    else (if among chain m then (done, Some (Circular m (chain_text (reverse (m ∷ chain)))))
    else (if is_done done m then visit_imports visit chain n places (seen ++ m ∷ []) ms done
    else after_visit n (length seen) (places (length seen)) m (visit done m) (visit_imports visit chain n places (seen ++ m ∷ []) ms))))

-- after the imports, the file is linked among the finished files and finished as an import, unless it breaks a rule among them
abbrev pub finish : List ℕ → Entry → List Done × Option Fault → List Done × Visited
finish n entry (done, None) =
    if keeps_rules (records done) entry.file then (done ++ done_as done n entry ∷ [], Finished) else (done, Faulted (Unlinked entry.file))
finish n entry (done, Some fault) = (done, Faulted fault)

-- a root that was asked by a path has that path, or none
abbrev pub unless_shadowed : List ℕ → Option (List ℕ) → Option (List ℕ) → List Done → List Done × Visited → List Done × Visited
unless_shadowed n None path done visited = visited
unless_shadowed n (Some asked) None done visited = visited
unless_shadowed n (Some asked) (Some path) done visited = if path_equal path asked then visited else (done, Faulted (Shadowed n asked path))

-- the visit of a name that looks up to this, where the visit of an entry's imports ends so
abbrev pub visit_lookup : List ℕ → Option (List ℕ) → Lookup → List Done → (Entry → List Done × Visited) → List Done × Visited
visit_lookup n asked Unread done imports = (done, Faulted (NotRead n))
visit_lookup n asked NoFile done imports = (done, Missing)
visit_lookup n asked (TextFault kind) done imports = (done, Faulted (Text n kind))
visit_lookup n asked (IsFile entry) done imports =
    if bytes_eq (declared_name entry) n then unless_shadowed n asked entry.path done (imports entry)
    else (done, Faulted (Mismatch n (declared_name entry)))

-- The visit of the name n under a chain of open names, the innermost first. `room` is the limit less the chain's length: finished and
-- open files and one more are at most the limit. `asked` is the path of a root that was resolved.
unfoldable pub visit : (List ℕ → Lookup) → ℕ → ℕ → List (List ℕ) → Option (List ℕ) → List ℕ → List Done → List Done × Visited
visit lookups limit zero chain asked n done = (done, Faulted (Limit limit))
visit lookups limit (suc room) chain asked n done =
    if nat_lt limit (length done + length chain + 1) then (done, Faulted (Limit limit))
    else visit_lookup n asked (lookups n) done (λ entry.
    finish n entry (visit_imports (λ d m. visit lookups limit room (n ∷ chain) None m d) (n ∷ chain) n (place_of_import entry) [] (imports_of entry) done))

-- the same, with the room that the chain leaves
abbrev pub visits : (List ℕ → Lookup) → ℕ → List (List ℕ) → Option (List ℕ) → List ℕ → List Done → List Done × Visited
visits lookups limit chain asked n done = visit lookups limit (limit - length chain) chain asked n done
