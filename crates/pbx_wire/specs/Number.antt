-- The field numbers of records (Protocol Buffers "Encoding": Message Structure), and the records that are written beside known fields
-- ("Language Guide (proto 3)": Unknown Fields).
use Rattle.std.specs.Prelude.{ℕ, List, [], ◌∷◌, Bool, true, false, not, ◌&&◌, ◌==◌, if◌then◌else◌}
use Rattle.pbx_wire.specs.Text.{is_numbered}
use Rattle.pbx_wire.specs.declared.rec.Rec.{Rec, Varint, Fixed64, Bytes, Group', Fixed32}

-- the field number in the key of a record
abbrev pub number_of : Rec → ℕ
number_of (Varint n v) = n
number_of (Fixed64 n v) = n
number_of (Bytes n b) = n
number_of (Group' n shape row) = n
number_of (Fixed32 n v) = n

-- one of them passes the test
abbrev pub any : {X : Type 0} → (X → Bool) → List X → Bool
any p [] = false
any p (x ∷ xs) = if p x then true else any p xs

-- the record has one of the numbers
abbrev pub has_one_of : List ℕ → Rec → Bool
has_one_of numbers r = any (λ n. number_of r == n) numbers

-- the record may be written, and has none of the numbers
abbrev pub is_writable_beside : List ℕ → Rec → Bool
is_writable_beside numbers r = is_numbered r && not (has_one_of numbers r)
