-- What stands at the front of bytes: a record, or its key (Protocol Buffers "Encoding": Message Structure).
use Rattle.std.specs.Prelude.{◌≡◌, ◌<◌, ℕ, List, [], ◌++◌, Option, Some, None}
use Rattle.pbx_wire.specs.declared.error.DecodeError.{DecodeError}
use Rattle.pbx_wire.specs.declared.rec.Rec.{Rec}
use Rattle.pbx_wire.specs.Faults.{SpellsOne, BreaksOne, BeginsWith, shifted}

-- no bytes, or a record that their front spells and the bytes behind it
abbrev pub IsFront : ℕ → List ℕ → Option (Rec × List ℕ) → Type 0
IsFront levels bytes None = bytes ≡ []
IsFront levels bytes (Some next) = (first : List ℕ) × SpellsOne levels first next.0 × (bytes ≡ first ++ next.1)

-- the record at the front breaks the rule, or one inside it does; the front has the offset `at`
abbrev pub IsFrontFault : ℕ → ℕ → List ℕ → DecodeError → Type 0
IsFrontFault levels at bytes e = (own : DecodeError) × BreaksOne levels bytes own × (e ≡ shifted at own)

-- the number and the wire type of the key at the front, or that none is there
abbrev pub IsFrontKey : List ℕ → Option (ℕ × ℕ) → Type 0
IsFrontKey bytes None = (number wire_type : ℕ) (rest : List ℕ) → wire_type < 8 → BeginsWith number wire_type rest bytes → ⊥
IsFrontKey bytes (Some key) = (key.1 < 8) × ((rest : List ℕ) × BeginsWith key.0 key.1 rest bytes)
