-- Opening the names of files over their linked records: what paths were opened to is come to again.
use Rattle.std.specs.Prelude.{◌≡◌, ◌++◌, ◌∷◌, [], ℕ, List, map, true, Option, Some, None}
use Rattle.std.specs.Str.{bytes_eq}
use Rattle.pbx_desc_records.specs.declared.file.FileDescriptorProto.{FileDescriptorProto}
use Rattle.pbx_link_record.specs.Linked.{linked_record}
use Rattle.pbx_link_rules.specs.Breaches.{keeps_rules}
use Rattle.protox_file_sources.specs.Told.{Entry, Lookup, IsFile}
use Rattle.protox_file_sources.specs.Library.{resolves_nothing}
use Rattle.protox_compile_walk.specs.Walk.{Done, records, declared_name}
use Rattle.protox_compile_walk.specs.Opening.{Accepted, root_of, closure}

-- a finished file that was read from no path, its name, its record and its mark kept
abbrev pub without_path : Done → Done
without_path d = record d { path = None }

-- finished files that were read from no path
abbrev pub without_paths : List Done → List Done
without_paths done = map without_path done

-- the path asks for this name
pub record AsksFor (resolves : List ℕ → Option (List ℕ)) (path name : List ℕ) : Type 0 where
  pub asked : Option (List ℕ)
  pub root_is : root_of resolves path ≡ Some (name, asked)

-- the paths ask for these names, in their order
abbrev pub AskFor : (List ℕ → Option (List ℕ)) → List (List ℕ) → List (List ℕ) → Type 0
AskFor resolves [] [] = Unit {0}
AskFor resolves [] (name ∷ names) = ⊥
AskFor resolves (path ∷ paths) [] = ⊥
AskFor resolves (path ∷ paths) (name ∷ names) = AsksFor resolves path name × AskFor resolves paths names

-- Each of paths that are accepted asks for a name.
abbrev pub AcceptedAskFor : Type 0
AcceptedAskFor =
    (lookups : List ℕ → Lookup) (resolves : List ℕ → Option (List ℕ)) (limit : ℕ) (paths : List (List ℕ)) (done later : List Done)
    → closure lookups resolves limit paths done ≡ (later, Accepted) → (names : List (List ℕ)) × AskFor resolves paths names

-- The look-up is a file from no path that declares this name: among the records before, it keeps the rules and is linked to this record.
-- So it has the imports of that record too, since linking keeps them.
pub record LinksTo (before : List FileDescriptorProto) (name : List ℕ) (file : FileDescriptorProto) (lookup : Lookup) : Type 0 where
  pub entry : Entry
  pub lookup_is : lookup ≡ IsFile entry
  pub declared : bytes_eq (declared_name entry) name ≡ true
  pub path_is : entry.path ≡ None
  pub keeps : keeps_rules before entry.file ≡ true
  pub linked_is : linked_record before entry.file ≡ file

-- the name of each finished file looks up to a file that is linked to its record, among the records of the files before it
abbrev pub AllLinkTo : (List ℕ → Lookup) → List Done → Type 0
AllLinkTo others later =
    (before after : List Done) (d : Done) → later ≡ before ++ d ∷ after → LinksTo (records before) d.name d.file (others d.name)

-- Where paths were opened from nothing and these files are finished, the names that the paths ask for open to the same files, marks and
-- records, over any look-ups that link to them and a resolver that knows no path: only the paths that files were read from are gone.
abbrev pub ClosesAgain : Type 0
ClosesAgain =
    (lookups others : List ℕ → Lookup) (resolves : List ℕ → Option (List ℕ)) (limit : ℕ) (paths names : List (List ℕ)) (later : List Done)
    → closure lookups resolves limit paths [] ≡ (later, Accepted) → AskFor resolves paths names → AllLinkTo others later
    → closure others resolves_nothing limit names [] ≡ (without_paths later, Accepted)
