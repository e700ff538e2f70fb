-- What holds of a pool of linked records, and of a record that may be added to it.
use Rattle.std.specs.Prelude.{◌≡◌, ◌↔◌, ◌++◌, reverse, ℕ, List, [], ◌∷◌, map, find, true, false, Option, Some, None, is_some, Contains}
use Rattle.std.specs.List.{list_all, flat_map}
use Rattle.std.specs.Str.{bytes_eq}
use Rattle.pbx_desc_records.specs.declared.enumeration.EnumDescriptorProto.{EnumDescriptorProto}
use Rattle.pbx_desc_records.specs.declared.field.FieldDescriptorProto.{FieldDescriptorProto}
use Rattle.pbx_desc_records.specs.declared.service.MethodDescriptorProto.{MethodDescriptorProto}
use Rattle.pbx_desc_records.specs.declared.message.DescriptorProto.{DescriptorProto}
use Rattle.pbx_desc_records.specs.declared.file.FileDescriptorProto.{FileDescriptorProto}
use Rattle.pbx_link_definitions.specs.Names.{text_or_empty, among}
use Rattle.pbx_link_definitions.specs.Definitions.{Part, full_name, definitions, message_name, messages, fields_in, enum_name, enums, extensions, methods}
use Rattle.pbx_link_definitions.specs.Says.{is_number}
use Rattle.pbx_link_definitions.specs.Places.{repeated}
use Rattle.pbx_link_scope.specs.Scope.{packages, bound_name, public_imports, is_file_of, reached}
use Rattle.pbx_link_scope.specs.declared.types.Bound.{Bound}
use Rattle.pbx_link_scope.specs.Pooled.{has_file, HaveOwnNames, like_named, AreDistinct, all_packages, by_file, file_types, type_with_file, definition_with_file}
use Rattle.pbx_link_rules_field.specs.Rules.{all_fields}
use Rattle.pbx_link_rules.specs.Breaches.{keeps_rules}
use Rattle.pbx_link_rules.specs.Pool.{ArePooled, with_file}

-- ---- pools

-- No files are a pool.
abbrev pub EmptyIsPooled : Type 0
EmptyIsPooled = ArePooled [] []

-- A record that keeps the rules among the files of a pool makes a larger pool.
abbrev pub PooledGrow : Type 0
PooledGrow =
    (files : List FileDescriptorProto) (f : FileDescriptorProto) → ArePooled [] files → keeps_rules files f ≡ true → ArePooled [] (with_file files f)

-- Each file of a pool has a name, and no two have one name.
abbrev pub PooledHaveOwnNames : Type 0
PooledHaveOwnNames = (files : List FileDescriptorProto) → ArePooled [] files → HaveOwnNames files

-- No full name is defined twice in a pool.
abbrev pub PooledAreDistinct : Type 0
PooledAreDistinct = (files : List FileDescriptorProto) → ArePooled [] files → AreDistinct files

-- these stand behind others: each has a name that none before it has, and imports only files before it
unfoldable pub AreBehind : List FileDescriptorProto → List FileDescriptorProto → Type 0
AreBehind before [] = Unit {0}
AreBehind before (g ∷ gs) =
    (has_file before (text_or_empty g.name) ≡ false) × (list_all (has_file before) g.dependency ≡ true) × AreBehind (before ++ g ∷ []) gs

-- Each file of a pool stands behind those that it imports, and has a name that none before it has.
abbrev pub PooledAreBehind : Type 0
PooledAreBehind = (files : List FileDescriptorProto) → ArePooled [] files → AreBehind [] files

-- ---- what is seen

-- A file is reached from names: it has one of them, or a file that has one of them reaches it by its public imports.
pub data Reaches (files : List FileDescriptorProto) : List (List ℕ) → FileDescriptorProto → Type 0 where
  direct : (names : List (List ℕ)) (g : FileDescriptorProto) → Contains files g → is_file_of names g ≡ true → Reaches files names g
  further : (names : List (List ℕ)) (via g : FileDescriptorProto) → Contains files via → is_file_of names via ≡ true
      → Reaches files (public_imports via) g → Reaches files names g

-- Of files behind those that they import, those found from the last file to the first are the ones that public imports reach.
abbrev pub ReachedIsReaches : Type 0
ReachedIsReaches =
    (files : List FileDescriptorProto) (names : List (List ℕ)) (g : FileDescriptorProto) → AreBehind [] files
    → Contains (reached names (reverse files)) g ↔ Reaches files names g

-- ---- messages and enums of a pool

-- the first message of exactly this full name, beside the index of its file
abbrev pub message_with_file : List FileDescriptorProto → List ℕ → Option (ℕ × Part DescriptorProto)
message_with_file files name = find (λ m. bytes_eq (message_name m.1) name) (by_file messages files)

-- Each message or enum of a pool is the one of its full name.
abbrev pub TypesAreNamed : Type 0
TypesAreNamed =
    (files : List FileDescriptorProto) (t : ℕ × Bound) → ArePooled [] files → Contains (by_file file_types files) t
    → type_with_file files (bound_name t.1) ≡ Some t

-- Each message of a pool is the message of its full name.
abbrev pub MessagesAreNamed : Type 0
MessagesAreNamed =
    (files : List FileDescriptorProto) (d : ℕ × Part DescriptorProto) → ArePooled [] files → Contains (by_file messages files) d
    → message_with_file files (message_name d.1) ≡ Some d

-- The message in whose body a field stands is the one whose full name is the field's scope.
abbrev pub FieldsAreHeld : Type 0
FieldsAreHeld =
    (files : List FileDescriptorProto) (d : ℕ × Part DescriptorProto) (x : Part FieldDescriptorProto) → ArePooled [] files
    → Contains (by_file messages files) d → Contains (fields_in d.1) x → message_with_file files x.scope ≡ Some d

-- ---- references

-- the first enum of exactly this full name, beside the index of its file
abbrev pub enum_with_file : List FileDescriptorProto → List ℕ → Option (ℕ × Part EnumDescriptorProto)
enum_with_file files name = find (λ e. bytes_eq (enum_name e.1) name) (by_file enums files)

-- an exact name without the dot before it
abbrev pub undotted : Option (List ℕ) → List ℕ
undotted None = []
undotted (Some []) = []
undotted (Some (b ∷ bs)) = bs

-- the message or enum that is the type of a field is in the files: 11 is the type of a message, 14 that of an enum
pub record HasType (files : List FileDescriptorProto) (x : FieldDescriptorProto) : Type 0 where
  pub message : is_number x.kind 11 ≡ true → is_some (message_with_file files (undotted x.type_name)) ≡ true
  pub enum : is_number x.kind 14 ≡ true → is_some (enum_with_file files (undotted x.type_name)) ≡ true

-- The type of each field and of each extension of a pool is in the pool.
abbrev pub TypesAreThere : Type 0
TypesAreThere =
    (files : List FileDescriptorProto) (x : Part FieldDescriptorProto) → ArePooled [] files → Contains (flat_map all_fields files) x → HasType files x.item

-- The message that an extension of a pool extends is in the pool.
abbrev pub ExtendeesAreThere : Type 0
ExtendeesAreThere =
    (files : List FileDescriptorProto) (x : Part FieldDescriptorProto) → ArePooled [] files → Contains (flat_map extensions files) x
    → is_some (message_with_file files (undotted x.item.extendee)) ≡ true

-- the messages that a method takes and gives are in the files
pub record HasMessages (files : List FileDescriptorProto) (m : MethodDescriptorProto) : Type 0 where
  pub input : is_some (message_with_file files (undotted m.input_type)) ≡ true
  pub output : is_some (message_with_file files (undotted m.output_type)) ≡ true

-- The messages that the methods of a pool take and give are in the pool.
abbrev pub MethodsHaveMessages : Type 0
MethodsHaveMessages =
    (files : List FileDescriptorProto) (x : Part MethodDescriptorProto) → ArePooled [] files → Contains (flat_map methods files) x → HasMessages files x.item

-- ---- names of a record that may be added

-- the full names that a file defines
abbrev pub defined_names : FileDescriptorProto → List (List ℕ)
defined_names f = map full_name (definitions f)

-- The names of a file are new to files: its own name, which is there; the full names that it defines, each once, and none of them a package of the
-- files or of itself; and its packages are no full names of the files.
pub record HasNewNames (files : List FileDescriptorProto) (f : FileDescriptorProto) : Type 0 where
  pub named : is_some f.name ≡ true
  pub name : has_file files (text_or_empty f.name) ≡ false
  pub once : repeated like_named [] (definitions f) ≡ []
  pub new : (q : List ℕ) → among (defined_names f) q ≡ true → definition_with_file files q ≡ None
  pub unpackaged : (q : List ℕ) → among (defined_names f) q ≡ true → among (all_packages (f ∷ files)) q ≡ false
  pub undefined : (q : List ℕ) → among (packages f) q ≡ true → definition_with_file files q ≡ None

-- The names of a record that keeps the rules are new.
abbrev pub NewNames : Type 0
NewNames = (files : List FileDescriptorProto) (f : FileDescriptorProto) → keeps_rules files f ≡ true → HasNewNames files f
