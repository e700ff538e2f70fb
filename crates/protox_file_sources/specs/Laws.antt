-- What holds of look-ups.
use Rattle.std.specs.Prelude.{◌≡◌, ℕ, List}
use Rattle.protox_file_sources.specs.Told.{Told, Lookup, IsFound}

-- What looking a name up comes to is one thing at most.
abbrev pub LookedUpOnce : Type 0
LookedUpOnce = (name : List ℕ) (told : Told) (a b : Lookup) → IsFound name told a → IsFound name told b → a ≡ b
