-- What the result of a reader tells of the answer for its tree.
use Rattle.std.specs.Prelude.{◌≡◌, Result, Ok, Err}
use Rattle.pbx_json_meaning.specs.declared.error.JsonError.{JsonError}
use Rattle.pbx_json_walk.specs.Walk.{Answer, IsFaultOf}

-- the value that is answered, as the function sees it, or a fault of the answer
abbrev pub IsResultOf : {R X : Type 0} → (R → X) → Answer X → Result R JsonError → Type 0
IsResultOf f a (Ok r) = a ≡ Ok (f r)
IsResultOf f a (Err e) = IsFaultOf a e
