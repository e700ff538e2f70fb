-- Values under numbers, as pairs by ascending number.
use Rattle.std.specs.Prelude.{◌≡◌, ℕ, zero, suc, true, List, [], ◌∷◌, Option, Some, None, nat_lt, ◌==◌, if◌then◌else◌}

-- the number is below that of the first pair
abbrev pub IsBelow : {T : Type 0} → ℕ → List (ℕ × T) → Type 0
IsBelow n [] = Unit {0}
IsBelow n (e ∷ es) = nat_lt n e.0 ≡ true

-- the numbers ascend, so each stands once
abbrev pub IsAscending : {T : Type 0} → List (ℕ × T) → Type 0
IsAscending [] = Unit {0}
IsAscending (e ∷ es) = IsBelow e.0 es × IsAscending es

-- the value under the number
abbrev pub value_under : {T : Type 0} → ℕ → List (ℕ × T) → Option T
value_under n [] = None
value_under n (e ∷ es) = if n == e.0 then Some e.1 else value_under n es

-- the pairs without that of the number
abbrev pub without : {T : Type 0} → ℕ → List (ℕ × T) → List (ℕ × T)
without n [] = []
without n (e ∷ es) = if n == e.0 then es else e ∷ without n es

-- the pairs with this value under the number, in the place of the one that is there
abbrev pub with_entry : {T : Type 0} → ℕ → T → List (ℕ × T) → List (ℕ × T)
with_entry n v [] = (n, v) ∷ []
with_entry n v (e ∷ es) = if nat_lt n e.0 then (n, v) ∷ e ∷ es else (if nat_lt e.0 n then e ∷ with_entry n v es else (n, v) ∷ es)

-- the pairs with each of these put in, one after another
abbrev pub with_entries : {T : Type 0} → List (ℕ × T) → List (ℕ × T) → List (ℕ × T)
with_entries es [] = es
with_entries es (p ∷ ps) = with_entries (with_entry p.0 p.1 es) ps

-- how many pairs at the front have lesser numbers
abbrev pub place_of : {T : Type 0} → ℕ → List (ℕ × T) → ℕ
place_of n [] = 0
place_of n (e ∷ es) = if nat_lt e.0 n then suc (place_of n es) else 0

-- the number stands there, where so many pairs have lesser numbers
abbrev pub StandsAt : {T : Type 0} → ℕ → ℕ → List (ℕ × T) → Type 0
StandsAt n i [] = ⊥
StandsAt n zero (e ∷ es) = n ≡ e.0
StandsAt n (suc i) (e ∷ es) = (nat_lt e.0 n ≡ true) × StandsAt n i es

-- so many pairs have lesser numbers, and the others greater ones
abbrev pub IsGapAt : {T : Type 0} → ℕ → ℕ → List (ℕ × T) → Type 0
IsGapAt n zero [] = Unit {0}
IsGapAt n zero (e ∷ es) = nat_lt n e.0 ≡ true
IsGapAt n (suc i) [] = ⊥
IsGapAt n (suc i) (e ∷ es) = (nat_lt e.0 n ≡ true) × IsGapAt n i es
