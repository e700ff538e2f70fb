-- Records of the wire: their parts, filters of lists of them, and the records that bytes spell (Protocol Buffers "Encoding": Message Structure).
use Rattle.std.specs.Prelude.{ℕ, suc, zero, List, [], ◌∷◌, ◌++◌, filter, take, drop, length, Bool, ◌==◌, nat_lt, Option, Some, None, option_map}
use Rattle.std.specs.Prelude.{option_and_then, if◌then◌else◌}
use Rattle.std.specs.Int.{Width}
use Rattle.pbx_wire.specs.Fixed.{fixed}
use Rattle.pbx_wire.specs.Reading.{varint_at, ok_of}
pub use Rattle.pbx_wire.specs.Reading.{records_in}
pub use Rattle.pbx_wire.specs.Number.{number_of, any}
use Rattle.pbx_wire.specs.declared.rec.Rec.{Rec, Varint, Fixed64, Bytes, Group', Fixed32}

-- the value of a record of wire type 0, VARINT
abbrev pub varint_of : Rec → Option ℕ
varint_of (Varint n v) = Some v
varint_of (Fixed64 n v) = None
varint_of (Bytes n b) = None
varint_of (Group' n shape row) = None
varint_of (Fixed32 n v) = None

-- the value of a record of wire type 1, I64
abbrev pub fixed64_of : Rec → Option ℕ
fixed64_of (Varint n v) = None
fixed64_of (Fixed64 n v) = Some v
fixed64_of (Bytes n b) = None
fixed64_of (Group' n shape row) = None
fixed64_of (Fixed32 n v) = None

-- the value of a record of wire type 5, I32
abbrev pub fixed32_of : Rec → Option ℕ
fixed32_of (Varint n v) = None
fixed32_of (Fixed64 n v) = None
fixed32_of (Bytes n b) = None
fixed32_of (Group' n shape row) = None
fixed32_of (Fixed32 n v) = Some v

-- the payload of a record of wire type 2, LEN
abbrev pub bytes_of : Rec → Option (List ℕ)
bytes_of (Varint n v) = None
bytes_of (Fixed64 n v) = None
bytes_of (Bytes n b) = Some b
bytes_of (Group' n shape row) = None
bytes_of (Fixed32 n v) = None

-- the record has this field number
abbrev pub is_of : ℕ → Rec → Bool
is_of n r = number_of r == n

-- the records of a number, in their order
abbrev pub those_of : ℕ → List Rec → List Rec
those_of n rs = filter (is_of n) rs

-- before the first record of no smaller number
abbrev pub insert : Rec → List Rec → List Rec
insert r [] = r ∷ []
insert r (s ∷ ss) = if nat_lt (number_of s) (number_of r) then s ∷ insert r ss else r ∷ s ∷ ss

-- records by ascending number, and those of one number in their order (Protocol Buffers "Encoding": Field Order leaves this to the writer)
abbrev pub sorted : List Rec → List Rec
sorted [] = []
sorted (r ∷ rs) = insert r (sorted rs)

-- the same from the other end: after the last record of no greater number, where numbers ascend
abbrev pub insert_after : Rec → List Rec → List Rec
insert_after r [] = r ∷ []
insert_after r (s ∷ ss) = if nat_lt (number_of r) (number_of s) then r ∷ s ∷ ss else s ∷ insert_after r ss

-- the last of a list (Protocol Buffers "Encoding": Last One Wins)
abbrev pub last_of : {X : Type 0} → List X → Option X
last_of [] = None
last_of (x ∷ []) = Some x
last_of (x ∷ y ∷ ys) = last_of (y ∷ ys)

-- the image of each, if all have one
abbrev pub each : {X Y : Type 0} → (X → Option Y) → List X → Option (List Y)
each f [] = Some []
each f (x ∷ xs) = option_and_then (λ y. option_map (λ ys. y ∷ ys) (each f xs)) (f x)

-- the lists, one after another
abbrev pub flat : {X : Type 0} → List (List X) → List X
flat [] = []
flat (xs ∷ xss) = xs ++ flat xss

-- what comes after the last that passes the test, and all if none does
abbrev pub after_last : {X : Type 0} → (X → Bool) → List X → List X
after_last p [] = []
after_last p (x ∷ xs) = if any p xs then after_last p xs else (if p x then xs else x ∷ xs)

-- The numbers that bytes spell, one after another (Protocol Buffers "Encoding": Packed Repeated Fields).
-- The count bounds the numbers: the bytes' length is enough.
unfoldable pub varints_in : ℕ → List ℕ → Option (List ℕ)
varints_in turns [] = Some []
varints_in zero (b ∷ bs) = None
varints_in (suc turns) (b ∷ bs) = option_and_then (λ v. option_map (λ vs. v.0 ∷ vs) (varints_in turns v.1)) (ok_of (varint_at 0 9 (b ∷ bs)))

-- The numbers of so many bytes each, the least byte first, that bytes hold one after another; None where the last has fewer.
-- The count bounds the numbers, as above.
unfoldable pub fixed_in : Width → ℕ → ℕ → List ℕ → Option (List ℕ)
fixed_in w len turns [] = Some []
fixed_in w len zero (b ∷ bs) = None
fixed_in w len (suc turns) (b ∷ bs) =
    if nat_lt (length (b ∷ bs)) len then None
    else option_map (λ vs. fixed w (take len (b ∷ bs)) ∷ vs) (fixed_in w len turns (drop len (b ∷ bs)))
