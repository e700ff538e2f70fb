-- Full names by their places.
use Rattle.std.proofs.Common.{◌≡◌, ℕ, zero, suc, ◌<◌, ◌≤◌, List, [], ◌∷◌, length, get_or, refl, arith}
use Rattle.pbx_content.specs.declared.shape.MessageShape.{MessageShape}
use Rattle.pbx_wkt_types.specs.Types.{message_name_at}

pub message_here : (ms : List MessageShape) (t : ℕ) (d : MessageShape) → t < length ms → message_name_at ms t ≡ (get_or ms t d).full_name
message_here [] t d h = absurd (omega arith)
message_here (m ∷ ms) zero d h = refl
message_here (m ∷ ms) (suc t) d h = message_here ms t d (omega arith)

pub message_past : (ms : List MessageShape) (t : ℕ) → length ms ≤ t → message_name_at ms t ≡ []
message_past [] t h = refl
message_past (m ∷ ms) zero h = absurd (omega arith)
message_past (m ∷ ms) (suc t) h = message_past ms t (omega arith)
