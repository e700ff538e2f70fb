-- Indexes under names.
use Rattle.std.specs.Prelude.{◌≡◌, ℕ, suc, nat_lt, List, [], ◌∷◌, Bool, false, Option, Some, None, option_map, if◌then◌else◌}
use Rattle.std.specs.BTreeMap.{get_by_text}
use Rattle.std.specs.Str.{bytes_eq}
use Rattle.protox_compile_walk.specs.declared.indexes.Indexes.{Indexes}

-- the index under the name
unfoldable pub index_under : List ℕ → Indexes → Option ℕ
index_under name indexes = get_by_text indexes.values name

-- the index of the first of these names that is this one
abbrev pub first_index : List ℕ → List (List ℕ) → Option ℕ
first_index name [] = None
first_index name (n ∷ ns) = if bytes_eq n name then Some 0 else option_map (λ i. suc i) (first_index name ns)

-- under each name stands the index of the first of these that is it
abbrev pub AreIndexed : Indexes → List (List ℕ) → Type 0
AreIndexed indexes names = (name : List ℕ) → index_under name indexes ≡ first_index name names

-- there is an index, and it is below this one
abbrev pub is_below : ℕ → Option ℕ → Bool
is_below last None = false
is_below last (Some index) = nat_lt index last
