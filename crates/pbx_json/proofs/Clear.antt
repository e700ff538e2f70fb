-- What names that are clear give.
use Rattle.std.proofs.Common.{Result, Ok, Err, OnOk}

-- one fact of a result that is there gives another
pub ok_then : {X E : Type 0} {P Q : Type 0} (r : Result X E) → (P → Q) → OnOk r P → OnOk r Q
ok_then (Ok x) f p = f p
ok_then (Err e) f p = tt
