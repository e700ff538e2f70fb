-- A number for each ghost value, and for no two of them the same one.
use Rattle.std.specs.Prelude.{ℕ, ◌+◌, ◌*◌}
use Prim.Native.Nat.{zero, suc}
use base.Stored.{Gv, gnil, gnum, gcons}

-- n, and behind it a number
unfoldable pub counted_on : ℕ → ℕ → ℕ
counted_on zero rest = 2 * rest
counted_on (suc n) rest = 2 * counted_on n rest + 1

-- a ghost value, and behind it a number
unfoldable pub numbered_on : Gv → ℕ → ℕ
numbered_on gnil rest = 3 * rest
numbered_on (gnum n) rest = 3 * counted_on n rest + 1
numbered_on (gcons a b) rest = 3 * numbered_on a (numbered_on b rest) + 2

-- a ghost value
unfoldable pub numbered : Gv → ℕ
numbered g = numbered_on g 0
