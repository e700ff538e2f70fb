-- Pairs of a map by ascending key.
use Rattle.std.specs.Prelude.{◌≡◌, ℕ, zero, suc, ℤ, pos, Bool, true, false, not, List, [], ◌∷◌}
use Rattle.std.specs.List.{AllByRecursion}
use Rattle.pbx_content.specs.Content.{Key, truth_key, number_key, text_key, key_before, Val}

-- the number that a key is, or 0
abbrev pub number_in : Key → ℤ
number_in (truth_key b) = pos 0
number_in (number_key z) = z
number_in (text_key s) = pos 0

-- each key comes behind this one
abbrev pub AreAfter : Key → List (Key × Val) → Type 0
AreAfter k ps = AllByRecursion (λ (p : Key × Val). key_before k p.0 ≡ true) ps

-- the keys ascend
abbrev pub AreInOrder : List (Key × Val) → Type 0
AreInOrder [] = Unit {0}
AreInOrder (p ∷ ps) = AreAfter p.0 ps × AreInOrder ps

-- so many keys come before this one, and the next does not
abbrev pub IsPlaceOf : Key → ℕ → List (Key × Val) → Type 0
IsPlaceOf k zero [] = Unit {0}
IsPlaceOf k zero (p ∷ ps) = key_before p.0 k ≡ false
IsPlaceOf k (suc i) [] = ⊥
IsPlaceOf k (suc i) (p ∷ ps) = (key_before p.0 k ≡ true) × IsPlaceOf k i ps

-- the key stands there, where so many come before it
abbrev pub stands_at : Key → ℕ → List (Key × Val) → Bool
stands_at k i [] = false
stands_at k zero (p ∷ ps) = not (key_before k p.0)
stands_at k (suc i) (p ∷ ps) = stands_at k i ps
