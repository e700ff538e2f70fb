-- What a set of names holds, and where searches for free names begin.
use Rattle.std.specs.Prelude.{◌≡◌, ℕ, ◌<◌, List, length, true, unwrap_or}
use Rattle.std.specs.Borrow.{Bor}
use Rattle.std.specs.BTreeMap.{BTreeMap, get_by}
use Rattle.std.specs.BTreeSet.{contains_text}
use Rattle.std.specs.Cmp.Lexicographic.{slice_cmp}
use Rattle.std.specs.Ordering.{nat_cmp}
use Rattle.pbx_parse_translation.specs.declared.scope.Scope.{Scope}
use Rattle.pbx_parse_translation.specs.Synthetic.{is_among, name_with}

-- these are the names that were added
abbrev pub Holds : Scope → List (List ℕ) → Type 0
Holds s names = (s.count ≡ length names) × ((name : List ℕ) → contains_text s.names name ≡ is_among names name)

-- with each count of `X` below this one the field's name is taken
abbrev pub AreTaken : List (List ℕ) → List ℕ → ℕ → Type 0
AreTaken names field x_count = (k : ℕ) → k < x_count → is_among names (name_with k field) ≡ true

-- the count of `X` with which the search for a field of this name begins, none where it is the first
abbrev pub first_x : BTreeMap (Bor (List ℕ)) ℕ → List ℕ → ℕ
first_x x_counts field = unwrap_or (get_by (λ k. slice_cmp nat_cmp field k.now) x_counts) 0

-- no search begins behind a name that is free
abbrev pub BeginsWell : BTreeMap (Bor (List ℕ)) ℕ → List (List ℕ) → Type 0
BeginsWell x_counts names = (field : List ℕ) → AreTaken names field (first_x x_counts field)
