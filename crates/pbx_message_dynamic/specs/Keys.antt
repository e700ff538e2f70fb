-- The order of a map's keys, and values put under keys.
use Rattle.std.specs.Prelude.{◌≡◌, ℕ, zero, suc, List, [], ◌∷◌, Bool, true, false, not, ◌&&◌, IsTrue, int_lt, nat_lt, if◌then◌else◌}
use Rattle.pbx_content.specs.Content.{bytes_before}
use Rattle.pbx_content_codec.specs.declared.key.MapKey.{MapKey}
use Rattle.pbx_content_codec.specs.declared.key.MapKey.TheVariants as key

-- the place of a key's variant
abbrev pub variant_of_key : MapKey → ℕ
variant_of_key (key.Bool b) = 0
variant_of_key (key.I32 z) = 1
variant_of_key (key.I64 z) = 2
variant_of_key (key.U32 n) = 3
variant_of_key (key.U64 n) = 4
variant_of_key (key.String s) = 5

-- By variant; of one variant false before true, numbers ascending, texts by their bytes.
abbrev pub is_before : MapKey → MapKey → Bool
is_before (key.Bool a) (key.Bool b) = not a && b
is_before (key.I32 a) (key.I32 b) = int_lt a b
is_before (key.I64 a) (key.I64 b) = int_lt a b
is_before (key.U32 a) (key.U32 b) = nat_lt a b
is_before (key.U64 a) (key.U64 b) = nat_lt a b
is_before (key.String a) (key.String b) = bytes_before a b
is_before a b = nat_lt (variant_of_key a) (variant_of_key b)

-- the key stands before the first of the pairs
abbrev pub IsBeforeAll : {T : Type 0} → MapKey → List (MapKey × T) → Type 0
IsBeforeAll k [] = Unit {0}
IsBeforeAll k (e ∷ es) = IsTrue (is_before k e.0)

-- the keys ascend, so each stands once
abbrev pub IsInKeyOrder : {T : Type 0} → List (MapKey × T) → Type 0
IsInKeyOrder [] = Unit {0}
IsInKeyOrder (e ∷ es) = IsBeforeAll e.0 es × IsInKeyOrder es

-- the pairs with this value under the key, in the place of the one that is there
abbrev pub with_entry : {T : Type 0} → MapKey → T → List (MapKey × T) → List (MapKey × T)
with_entry k v [] = (k, v) ∷ []
with_entry k v (e ∷ es) = if is_before k e.0 then (k, v) ∷ e ∷ es else (if is_before e.0 k then e ∷ with_entry k v es else (k, v) ∷ es)

-- ---- pairs by their places

-- how many pairs at the front have lesser keys
abbrev pub place_of : {T : Type 0} → MapKey → List (MapKey × T) → ℕ
place_of k [] = 0
place_of k (e ∷ es) = if is_before e.0 k then suc (place_of k es) else 0

-- the key stands there, where so many pairs have lesser keys
abbrev pub StandsAt : {T : Type 0} → MapKey → ℕ → List (MapKey × T) → Type 0
StandsAt k i [] = ⊥
StandsAt k zero (e ∷ es) = (is_before k e.0 ≡ false) × (is_before e.0 k ≡ false)
StandsAt k (suc i) (e ∷ es) = (is_before k e.0 ≡ false) × (is_before e.0 k ≡ true) × StandsAt k i es

-- so many pairs have lesser keys, and the others greater ones
abbrev pub IsGapAt : {T : Type 0} → MapKey → ℕ → List (MapKey × T) → Type 0
IsGapAt k zero [] = Unit {0}
IsGapAt k zero (e ∷ es) = is_before k e.0 ≡ true
IsGapAt k (suc i) [] = ⊥
IsGapAt k (suc i) (e ∷ es) = (is_before k e.0 ≡ false) × (is_before e.0 k ≡ true) × IsGapAt k i es
