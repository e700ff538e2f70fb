-- What a search for an index answers.
use Rattle.std.specs.Prelude.{◌≡◌, ◌<◌, ℕ, List, length, take, Bool, true, false, Option, Some, None, slice_index_or}
use Rattle.std.specs.List.{list_any}

-- an index at which the test passes, or none where it passes at none; the test looks at the index and at the item
abbrev pub IsIndex : {X : Type 0} → (ℕ → X → Bool) → List X → Option ℕ → Type 0
IsIndex {X} P xs None = (k : ℕ) (x : X) → k < length xs → P k (slice_index_or xs k x) ≡ false
IsIndex {X} P xs (Some i) = (i < length xs) × ((x : X) → P i (slice_index_or xs i x) ≡ true)

-- one of the items before the index is like this one
abbrev pub is_earlier : {X : Type 0} → (X → X → Bool) → List X → ℕ → X → Bool
is_earlier like xs i x = list_any (like x) (take i xs)
