-- Laws of the definitions, each proved as the contract of a public function.
use Rattle.std.specs.Prelude.{◌≡◌, ◌⊎◌, ◌↔◌, ◌≤◌, ℕ, List, true, Some}
use Rattle.pbx_wire.specs.declared.error.DecodeError.{DecodeError}
use Rattle.pbx_wire.specs.declared.rec.Rec.{Rec}
use Rattle.pbx_wire.specs.Spelling.{Spells}
use Rattle.pbx_wire.specs.Reading.{records_in}
use Rattle.pbx_wire.specs.Faults.{IsFault}
use Rattle.pbx_wire.specs.Front.{IsFront}
use Rattle.pbx_wire.specs.Text.{text_of, is_numbered, are_numbered, are_fit, depth_of}

-- The records that reading finds are those that the bytes spell.
abbrev pub RecordsAreSpelled : Type 0
RecordsAreSpelled = (levels : ℕ) (bytes : List ℕ) (rs : List Rec) → (records_in levels bytes ≡ Some rs) ↔ Spells levels bytes rs

-- The text of records spells them, where their numbers and values are those that records may have.
abbrev pub WrittenIsSpelled : Type 0
WrittenIsSpelled =
    (levels : ℕ) (rs : List Rec) → are_numbered rs ≡ true → are_fit rs ≡ true → depth_of rs ≤ levels → Spells levels (text_of rs) rs

-- The numbers of records that bytes spell are those that records may have, so what was read may be written.
abbrev pub SpelledIsNumbered : Type 0
SpelledIsNumbered = (levels : ℕ) (bytes : List ℕ) (rs : List Rec) → Spells levels bytes rs → are_numbered rs ≡ true

-- Their values are those that records may have.
abbrev pub SpelledIsFit : Type 0
SpelledIsFit = (levels : ℕ) (bytes : List ℕ) (rs : List Rec) → Spells levels bytes rs → are_fit rs ≡ true

-- So is the number of the record at the front of bytes, and so are those in its groups.
abbrev pub FrontIsNumbered : Type 0
FrontIsNumbered = (levels : ℕ) (bytes : List ℕ) (next : Rec × List ℕ) → IsFront levels bytes (Some next) → is_numbered next.0 ≡ true

-- Bytes spell records, or break a rule.
abbrev pub SpelledOrFaulty : Type 0
SpelledOrFaulty = (levels : ℕ) (bytes : List ℕ) → ((rs : List Rec) × Spells levels bytes rs) ⊎ ((e : DecodeError) × IsFault levels bytes e)

-- Bytes that spell records break no rule.
abbrev pub SpelledIsFaultless : Type 0
SpelledIsFaultless = (levels : ℕ) (bytes : List ℕ) (rs : List Rec) (e : DecodeError) → Spells levels bytes rs → IsFault levels bytes e → ⊥

-- Bytes break one rule, in one record.
abbrev pub FaultIsOne : Type 0
FaultIsOne = (levels : ℕ) (bytes : List ℕ) (e f : DecodeError) → IsFault levels bytes e → IsFault levels bytes f → e ≡ f
