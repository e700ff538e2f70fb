-- What stood there before bytes are appended is kept, also where the call is refused.
use Rattle.std.proofs.Common.{◌≡◌, ℕ, List, ◌++◌, ◌∙◌}
use Rattle.std.specs.Prelude.{Result, Ok, Err, OnErr}
use Rattle.std.specs.Io.{StartsWith}
use Rattle.std.proofs.Transfers.{starts_with_of_eq, starts_with_of_append, starts_with_trans}

-- a refusal hands on what the call before it kept
pub handed_on : {T E : Type 0} (r : Result T E) (before behind : List ℕ) → StartsWith behind before → OnErr r (StartsWith behind before)
handed_on (Ok _) before behind h = tt
handed_on (Err _) before behind h = h

-- the same of a call after one that was not refused
pub kept_behind : {T E : Type 0} (r : Result T E) (before between behind more : List ℕ)
    → between ≡ before ++ more → OnErr r (StartsWith behind between) → OnErr r (StartsWith behind before)
kept_behind (Ok _) before between behind more e g = g
kept_behind (Err _) before between behind more e g = starts_with_trans behind between before g (starts_with_of_append between before more e)

-- where it changes nothing if it is refused
pub kept_same : {T E : Type 0} (r : Result T E) (before between behind more : List ℕ)
    → between ≡ before ++ more → OnErr r (behind ≡ between) → OnErr r (StartsWith behind before)
kept_same (Ok _) before between behind more e g = g
kept_same (Err _) before between behind more e g = starts_with_of_append behind before more (g ∙ e)

-- and where of what stood there no more is known than that its front is kept
pub kept_still : {T E : Type 0} (r : Result T E) (before between behind : List ℕ)
    → StartsWith between before → OnErr r (behind ≡ between) → OnErr r (StartsWith behind before)
kept_still (Ok _) before between behind h g = g
kept_still (Err _) before between behind h g = starts_with_trans behind between before (starts_with_of_eq behind between g) h
