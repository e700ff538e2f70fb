-- Which rule of the wire format bytes break, and in which record: the number of a fault is the offset of that record's key
-- (Protocol Buffers "Encoding": Message Structure).
-- Nothing here reads: the bytes before the record are spelled, and the bytes from its key on break the rule.
use Rattle.std.specs.Prelude.{◌≡◌, ◌≢◌, ◌⊎◌, ℕ, zero, suc, ◌+◌, ◌^◌, ◌<◌, ◌≤◌, List, [], ◌∷◌, ◌++◌, length}
use Rattle.pbx_wire.specs.Spelling.{IsVarint, IsKey, Body, SpellsLayer, SpellsAll, SpellsBelow}
use Rattle.pbx_wire.specs.declared.error.DecodeError.{DecodeError}
use Rattle.pbx_wire.specs.declared.error.DecodeError.TheVariants as errors
use Rattle.pbx_wire.specs.declared.rec.Rec.{Rec, out-Rec}

-- ---- offsets

-- the offset of a fault; want of memory has none
abbrev pub offset_of : DecodeError → ℕ
offset_of (errors.Varint at) = at
offset_of (errors.Key at) = at
offset_of (errors.WireType at) = at
offset_of (errors.Underflow at) = at
offset_of (errors.Utf8 at) = at
offset_of (errors.EndGroup at) = at
offset_of (errors.TooDeep at) = at
offset_of errors.NoMemory = 0

-- the same fault in bytes that have so many more in front
abbrev pub shifted : ℕ → DecodeError → DecodeError
shifted n (errors.Varint at) = errors.Varint (n + at)
shifted n (errors.Key at) = errors.Key (n + at)
shifted n (errors.WireType at) = errors.WireType (n + at)
shifted n (errors.Underflow at) = errors.Underflow (n + at)
shifted n (errors.Utf8 at) = errors.Utf8 (n + at)
shifted n (errors.EndGroup at) = errors.EndGroup (n + at)
shifted n (errors.TooDeep at) = errors.TooDeep (n + at)
shifted n errors.NoMemory = errors.NoMemory

-- ---- varints, keys and values that are none

-- each byte says that another follows (Protocol Buffers "Encoding": Base 128 Varints)
abbrev pub GoesOn : List ℕ → Type 0
GoesOn [] = Unit {0}
GoesOn (b ∷ bs) = (128 ≤ b) × GoesOn bs

-- the bytes end inside the varint at their front
abbrev pub EndsInVarint : List ℕ → Type 0
EndsInVarint bytes = GoesOn bytes × (length bytes < 10)

-- the varint at the front has a tenth byte above 1: it has more than ten bytes, or more than 64 bits
abbrev pub IsLongVarint : List ℕ → Type 0
IsLongVarint bytes = (front : List ℕ) × (tenth : ℕ) × (rest : List ℕ) × GoesOn front × (length front ≡ 9) × (1 < tenth) × (bytes ≡ front ++ tenth ∷ rest)

-- a key of this number and wire type stands at the front, and the rest behind it
abbrev pub BeginsWith : ℕ → ℕ → List ℕ → List ℕ → Type 0
BeginsWith number wire_type rest bytes = (key : List ℕ) × IsKey key number wire_type × (bytes ≡ key ++ rest)

-- the bytes have fewer than the length at their front says
abbrev pub EndsInPayload : List ℕ → Type 0
EndsInPayload bytes = (len : List ℕ) × (n : ℕ) × (payload : List ℕ) × IsVarint len n × (length payload < n) × (bytes ≡ len ++ payload)

-- the bytes end inside the value of this wire type
abbrev pub EndsInValue : ℕ → List ℕ → Type 0
EndsInValue wire_type bytes =
    (((wire_type ≡ 0) ⊎ (wire_type ≡ 2)) × EndsInVarint bytes)
    ⊎ (((wire_type ≡ 1) × (length bytes < 8)) ⊎ (((wire_type ≡ 2) × EndsInPayload bytes) ⊎ ((wire_type ≡ 5) × (length bytes < 4))))

-- ---- the record at the front

-- the faults of the bytes in a group of this number
abbrev pub FaultBody : Type 1
FaultBody = ℕ → List ℕ → DecodeError → Type 0

-- a varint of more than ten bytes or more than 64 bits: the key, a number or a length
abbrev pub HasLongVarint : List ℕ → Type 0
HasLongVarint bytes =
    IsLongVarint bytes
    ⊎ ((number : ℕ) × (wire_type : ℕ) × (rest : List ℕ)
    × BeginsWith number wire_type rest bytes × ((wire_type ≡ 0) ⊎ (wire_type ≡ 2)) × IsLongVarint rest)

-- a key of number 0, or of more than 32 bits
abbrev pub HasBadKey : List ℕ → Type 0
HasBadKey bytes = (key : List ℕ) × (value : ℕ) × (rest : List ℕ) × IsVarint key value × ((value < 8) ⊎ (2 ^ 32 ≤ value)) × (bytes ≡ key ++ rest)

-- a key of wire type 6 or 7
abbrev pub HasBadType : List ℕ → Type 0
HasBadType bytes = (number : ℕ) × (wire_type : ℕ) × (rest : List ℕ) × BeginsWith number wire_type rest bytes × ((wire_type ≡ 6) ⊎ (wire_type ≡ 7))

-- The bytes end inside the record: in its key, in its value, or, of a group, behind records and before the end of the group.
abbrev pub EndsInRecord : Body → List ℕ → Type 0
EndsInRecord spells bytes =
    ((bytes ≢ []) × EndsInVarint bytes)
    ⊎ (((number : ℕ) × (wire_type : ℕ) × (rest : List ℕ) × BeginsWith number wire_type rest bytes × EndsInValue wire_type rest)
    ⊎ ((number : ℕ) × (rest : List ℕ) × (rs : List Rec) × BeginsWith number 3 rest bytes × spells rest rs))

-- an end of a group that is not the one that is open (Protocol Buffers "Encoding": Groups)
abbrev pub HasOtherEnd : ℕ → List ℕ → Type 0
HasOtherEnd group bytes = (number : ℕ) × (rest : List ℕ) × BeginsWith number 4 rest bytes × (number ≢ group)

-- a group where no level is left
abbrev pub IsTooDeep : ℕ → List ℕ → Type 0
IsTooDeep levels bytes = (levels ≡ 0) × ((number : ℕ) × (rest : List ℕ) × BeginsWith number 3 rest bytes)

-- The record whose key is at the front breaks the rule itself, in a group of this number (0 at the top) in which groups nest so many levels.
abbrev pub BreaksItself : Body → ℕ → ℕ → List ℕ → DecodeError → Type 0
BreaksItself spells levels group bytes (errors.Varint at) = (at ≡ 0) × HasLongVarint bytes
BreaksItself spells levels group bytes (errors.Key at) = (at ≡ 0) × HasBadKey bytes
BreaksItself spells levels group bytes (errors.WireType at) = (at ≡ 0) × HasBadType bytes
BreaksItself spells levels group bytes (errors.Underflow at) = (at ≡ 0) × EndsInRecord spells bytes
BreaksItself spells levels group bytes (errors.Utf8 at) = ⊥
BreaksItself spells levels group bytes (errors.EndGroup at) = (at ≡ 0) × HasOtherEnd group bytes
BreaksItself spells levels group bytes (errors.TooDeep at) = (at ≡ 0) × IsTooDeep levels bytes
BreaksItself spells levels group bytes errors.NoMemory = ⊥

-- a record of the group whose start is at the front breaks a rule
abbrev pub BreaksInside : FaultBody → List ℕ → DecodeError → Type 0
BreaksInside faults bytes e =
    (key : List ℕ) × (number : ℕ) × (rest : List ℕ) × (inner : DecodeError)
    × IsKey key number 3 × faults number rest inner × (bytes ≡ key ++ rest) × (e ≡ shifted (length key) inner)

-- the record at the front breaks a rule, or one inside it does
abbrev pub Breaks : Body → FaultBody → ℕ → ℕ → List ℕ → DecodeError → Type 0
Breaks spells faults levels group bytes e = BreaksItself spells levels group bytes e ⊎ BreaksInside faults bytes e

-- ---- all records

-- records are spelled, and the one behind them breaks the rule
abbrev pub FaultsLayer : Body → FaultBody → ℕ → FaultBody
FaultsLayer spells faults levels group bytes e =
    (before : List ℕ) × (rs : List Rec) × (rest : List ℕ) × (own : DecodeError)
    × SpellsAll spells before rs × Breaks spells faults levels group rest own × (bytes ≡ before ++ rest) × (e ≡ shifted (length before) own)

-- with groups nested in fewer than so many levels
unfoldable pub FaultsBelow : ℕ → FaultBody
FaultsBelow zero group bytes e = ⊥
FaultsBelow (suc levels) group bytes e = FaultsLayer (SpellsBelow levels) (FaultsBelow levels) levels group bytes e

-- The rule that the bytes break as records with groups nested at most so many levels, and the offset of the key of the innermost record that breaks it.
abbrev pub IsFault : ℕ → List ℕ → DecodeError → Type 0
IsFault levels bytes e = FaultsBelow (suc levels) 0 bytes e

-- ---- one record

-- the bytes spell this one record, with groups nested in it at most so many levels
abbrev pub SpellsOne : ℕ → List ℕ → Rec → Type 0
SpellsOne levels bytes r = SpellsLayer (SpellsBelow levels) bytes (out-Rec r)

-- the record at the front of the bytes breaks the rule, or one inside it does
abbrev pub BreaksOne : ℕ → List ℕ → DecodeError → Type 0
BreaksOne levels bytes e = Breaks (SpellsBelow levels) (FaultsBelow levels) levels 0 bytes e
