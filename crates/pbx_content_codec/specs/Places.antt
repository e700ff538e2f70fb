-- Whether records ascend.
use Rattle.std.specs.Prelude.{ℕ, List, [], ◌∷◌, Bool, true, not, ◌&&◌, nat_lt}
use Rattle.pbx_wire.specs.declared.rec.Rec.{Rec}
use Rattle.pbx_content.specs.Records.{number_of}

-- no number is below n, nor below the one before it
abbrev pub ascend : ℕ → List Rec → Bool
ascend n [] = true
ascend n (r ∷ rs) = not (nat_lt (number_of r) n) && ascend (number_of r) rs
