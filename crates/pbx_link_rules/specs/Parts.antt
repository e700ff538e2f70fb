-- The parts of a name that dots join.
use Rattle.std.specs.Prelude.{ℕ, ◌==◌, List, [], ◌∷◌, Bool, true}

-- a part of a name ends before this rest of the name
abbrev pub ends_part : List ℕ → Bool
ends_part [] = true
ends_part (b ∷ bs) = b == 46
