-- Values under texts, by the bytes of the texts.
use Rattle.std.specs.Prelude.{◌≡◌, ℕ, zero, suc, List, [], ◌∷◌, true, false, IsTrue, if◌then◌else◌}
use Rattle.pbx_content.specs.Content.{bytes_before}

-- the text stands before the first of the pairs
abbrev pub IsBeforeAll : {T : Type 0} → List ℕ → List (List ℕ × T) → Type 0
IsBeforeAll k [] = Unit {0}
IsBeforeAll k (e ∷ es) = IsTrue (bytes_before k e.0)

-- the texts ascend by their bytes, so each stands once
abbrev pub IsInOrder : {T : Type 0} → List (List ℕ × T) → Type 0
IsInOrder [] = Unit {0}
IsInOrder (e ∷ es) = IsBeforeAll e.0 es × IsInOrder es

-- the pairs with this value under the text, in the place of the one that is there
abbrev pub with_entry : {T : Type 0} → List ℕ → T → List (List ℕ × T) → List (List ℕ × T)
with_entry k v [] = (k, v) ∷ []
with_entry k v (e ∷ es) = if bytes_before k e.0 then (k, v) ∷ e ∷ es else (if bytes_before e.0 k then e ∷ with_entry k v es else (k, v) ∷ es)

-- ---- pairs by their places

-- how many pairs at the front have lesser texts
abbrev pub place_of : {T : Type 0} → List ℕ → List (List ℕ × T) → ℕ
place_of k [] = 0
place_of k (e ∷ es) = if bytes_before e.0 k then suc (place_of k es) else 0

-- the text stands there, where so many pairs have lesser ones
abbrev pub StandsAt : {T : Type 0} → List ℕ → ℕ → List (List ℕ × T) → Type 0
StandsAt k i [] = ⊥
StandsAt k zero (e ∷ es) = (bytes_before k e.0 ≡ false) × (bytes_before e.0 k ≡ false)
StandsAt k (suc i) (e ∷ es) = (bytes_before k e.0 ≡ false) × (bytes_before e.0 k ≡ true) × StandsAt k i es

-- so many pairs have lesser texts, and the others greater ones
abbrev pub IsGapAt : {T : Type 0} → List ℕ → ℕ → List (List ℕ × T) → Type 0
IsGapAt k zero [] = Unit {0}
IsGapAt k zero (e ∷ es) = bytes_before k e.0 ≡ true
IsGapAt k (suc i) [] = ⊥
IsGapAt k (suc i) (e ∷ es) = (bytes_before k e.0 ≡ false) × (bytes_before e.0 k ≡ true) × IsGapAt k i es
