-- The files of a pool that a file sees, by their indexes in the pool.
use Rattle.std.specs.Prelude.{◌≡◌, ℕ, ◌<◌, nat_lt, List, [], ◌∷◌, map, reverse, slice_get, Bool, true, false, ◌&&◌, ◌||◌, Option, Some, None}
use Rattle.std.specs.List.{All}
use Rattle.std.specs.Ordering.{nat_cmp}
use Rattle.std.specs.BTreeSet.{BTreeSet, contains}
use Rattle.pbx_desc_records.specs.declared.file.FileDescriptorProto.{FileDescriptorProto}
use Rattle.pbx_link_scope.specs.Scope.{is_file_of, public_imports, reached}

-- each index is less than those before it
abbrev pub Descend : List ℕ → Type 0
Descend [] = Unit {0}
Descend (i ∷ is) = All (λ j. j < i) is × Descend is

-- the indexes of the files that the file sees besides itself, the greatest first
abbrev pub AreVisible : List FileDescriptorProto → FileDescriptorProto → List ℕ → Type 0
AreVisible files f indexes = (map (slice_get files) indexes ≡ map Some (reached f.dependency (reverse files))) × Descend indexes

-- ---- sets of indexes

-- below the limit, if there is one
abbrev pub is_below : Option ℕ → ℕ → Bool
is_below None i = true
is_below (Some limit) i = nat_lt i limit

-- the file has one of these names, if there is a file
abbrev pub is_named_file : List (List ℕ) → Option FileDescriptorProto → Bool
is_named_file names None = false
is_named_file names (Some f) = is_file_of names f

-- the file at the index has one of these names
abbrev pub is_file_at : List FileDescriptorProto → List (List ℕ) → ℕ → Bool
is_file_at files names i = is_named_file names (slice_get files i)

-- the names of the files that a file imports publicly, if there is a file
abbrev pub imports_of : Option FileDescriptorProto → List (List ℕ)
imports_of None = []
imports_of (Some f) = public_imports f

-- the names of the files that the file at the index imports publicly
abbrev pub imports_at : List FileDescriptorProto → ℕ → List (List ℕ)
imports_at files i = imports_of (slice_get files i)

-- the set has what it had, and the indexes below the limit of the files of these names
abbrev pub HasAdded : List FileDescriptorProto → Option ℕ → List (List ℕ) → BTreeSet ℕ → BTreeSet ℕ → Type 0
HasAdded files limit names old new = (i : ℕ) → contains nat_cmp new i ≡ ((is_below limit i && is_file_at files names i) || contains nat_cmp old i)
