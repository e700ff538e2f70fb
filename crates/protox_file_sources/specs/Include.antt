-- What a resolver of a folder is.
use Rattle.std.specs.Prelude.{ℕ, List}

-- the path of a folder, and the disk that it stands on
pub record Include (D : Type 0) : Type 0 where
  pub include : List ℕ
  pub disk : D
