-- What a file sees, and what the names in it are bound to (Protocol Buffers "Language Guide": Importing Definitions, Packages and Name
-- Resolution). The files are those of a pool, in which each file stands behind those that it imports.
use Rattle.std.specs.Prelude.{◌≡◌, ℕ, ◌==◌, ℤ, pos, negsuc, Bool, true, false, ◌||◌, ◌&&◌, if◌then◌else◌, Option, Some, None, option_map}
use Rattle.std.specs.Prelude.{List, [], ◌∷◌, ◌++◌, map, reverse, find, slice_get}
use Rattle.std.specs.List.{list_any, filter_map, flat_map}
use Rattle.std.specs.Option.{option_or}
use Rattle.std.specs.Str.{bytes_eq}
use Rattle.pbx_desc_records.specs.declared.field.FieldDescriptorProto.{FieldDescriptorProto}
use Rattle.pbx_desc_records.specs.declared.file.FileDescriptorProto.{FileDescriptorProto}
pub use Rattle.pbx_link_scope.specs.declared.types.Bound.{Bound}
pub use Rattle.pbx_link_scope.specs.declared.types.Bound.TheVariants.{Message as to_message, Enum as to_enum}
use Rattle.pbx_link_definitions.specs.Names.{is_named, among, qualified, first_part, has_dot, prefixes, outward}
use Rattle.pbx_link_definitions.specs.Definitions.{Part, full_name, is_scope, definitions, message_name, enum_name, messages, enums}

-- ---- what a file sees

-- the item at an index, if it is one
abbrev pub item_at : {X : Type 0} → List X → ℤ → Option X
item_at xs (pos i) = slice_get xs i
item_at xs (negsuc i) = None

-- the names of the files that a file imports publicly
abbrev pub public_imports : FileDescriptorProto → List (List ℕ)
public_imports f = filter_map (item_at f.dependency) f.public_dependency

-- the file has one of these names
abbrev pub is_file_of : List (List ℕ) → FileDescriptorProto → Bool
is_file_of names f = list_any (is_named f.name) names

-- the files of these names, and those that they import publicly; files stand before those that they import
abbrev pub reached : List (List ℕ) → List FileDescriptorProto → List FileDescriptorProto
reached names [] = []
reached names (f ∷ fs) = if is_file_of names f then f ∷ reached (public_imports f ++ names) fs else reached names fs

-- what a file sees: itself, the files that it imports, and what public imports reach from these
abbrev pub visible : List FileDescriptorProto → FileDescriptorProto → List FileDescriptorProto
visible files f = f ∷ reached f.dependency (reverse files)

-- ---- packages

-- a package name and what it begins with
abbrev pub package_prefixes : Option (List ℕ) → List (List ℕ)
package_prefixes None = []
package_prefixes (Some name) = prefixes name

-- the package of a file and what its name begins with: of `a.b` they are `a` and `a.b`
abbrev pub packages : FileDescriptorProto → List (List ℕ)
packages f = package_prefixes f.«package»

-- ---- types by their full names

-- its full name
abbrev pub bound_name : Bound → List ℕ
bound_name (to_message p) = message_name p
bound_name (to_enum p) = enum_name p

-- the messages and enums of files
abbrev pub types : List FileDescriptorProto → List Bound
types files = flat_map (λ f. map to_message (messages f) ++ map to_enum (enums f)) files

-- the message or enum of exactly this full name
unfoldable pub type_named : List FileDescriptorProto → List ℕ → Option Bound
type_named files name = find (λ b. bytes_eq (bound_name b) name) (types files)

-- a message, enum, service or package has exactly this full name
unfoldable pub is_scope_name : List FileDescriptorProto → List ℕ → Bool
is_scope_name files name =
    list_any (λ d. is_scope d.sort && bytes_eq (full_name d) name) (flat_map definitions files) || among (flat_map packages files) name

-- ---- binding

-- the scope that holds this one: what stands before its last dot, or the root
unfoldable pub outer : List ℕ → List ℕ
outer [] = []
outer (b ∷ bs) = if has_dot bs then b ∷ outer bs else []

-- the type of this name in the first of the scopes that has one
unfoldable pub first_type : List FileDescriptorProto → List ℕ → List (List ℕ) → Option Bound
first_type seen name [] = None
first_type seen name (s ∷ ss) = option_or (type_named seen (qualified s name)) (first_type seen name ss)

-- the type of this name in the first of the scopes where its first part is a message, enum, service or package: that scope decides, found or not
unfoldable pub type_in_first : List FileDescriptorProto → List ℕ → List (List ℕ) → Option Bound
type_in_first seen name [] = None
type_in_first seen name (s ∷ ss) = if is_scope_name seen (qualified s (first_part name)) then type_named seen (qualified s name) else type_in_first seen name ss

-- a name without a leading dot, looked up from the innermost scope outward
abbrev pub type_from : List FileDescriptorProto → List ℕ → List ℕ → Option Bound
type_from seen scope name = if has_dot name then type_in_first seen name (outward scope) else first_type seen name (outward scope)

-- the message or enum that a name in a scope is bound to, among the files that are seen; a leading dot makes the name exact
unfoldable pub bound : List FileDescriptorProto → List ℕ → List ℕ → Option Bound
bound seen scope [] = None
bound seen scope (b ∷ bs) = if b == 46 then type_named seen bs else type_from seen scope (b ∷ bs)

-- what a name in the scope is bound to, if there is a name
abbrev pub bound_if : List FileDescriptorProto → List ℕ → Option (List ℕ) → Option Bound
bound_if seen scope None = None
bound_if seen scope (Some name) = bound seen scope name

-- the message or enum that is the type of a field or extension
abbrev pub type_of : List FileDescriptorProto → Part FieldDescriptorProto → Option Bound
type_of seen p = bound_if seen p.scope p.item.type_name

-- the message that an extension extends
abbrev pub extendee_of : List FileDescriptorProto → Part FieldDescriptorProto → Option Bound
extendee_of seen p = bound_if seen p.scope p.item.extendee

-- it is a message
abbrev pub is_message : Option Bound → Bool
is_message None = false
is_message (Some (to_message p)) = true
is_message (Some (to_enum p)) = false

-- in a file among the files of a pool, a name in a scope stands for this full name
abbrev pub Binds : List FileDescriptorProto → FileDescriptorProto → List ℕ → List ℕ → List ℕ → Type 0
Binds files f scope name full = option_map bound_name (bound (visible files f) scope name) ≡ Some full
