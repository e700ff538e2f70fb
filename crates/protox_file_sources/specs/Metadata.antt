-- What is known of a compiled file beside its record.
use Rattle.std.specs.Prelude.{ℕ, List, Bool, Option}

-- its name, the path that it was read from, if it is known, and whether it is there as an import alone
pub record Metadata : Type 0 where
  pub name : List ℕ
  pub path : Option (List ℕ)
  pub is_import : Bool
