-- What is told of bytes and of the record at their front.
use Rattle.std.specs.Prelude.{◌≡◌, ℕ, List, [], ◌∷◌, ◌++◌, Bool, true, false, Option, Some, None}
use Rattle.std.specs.Option.{is_some}
use Rattle.pbx_wire.specs.declared.rec.Rec.{Rec}
use Rattle.pbx_wire.specs.Faults.{SpellsOne}
use Rattle.pbx_content.specs.declared.shape.FieldShape.{FieldShape}
use Rattle.pbx_content.specs.declared.shape.Shape.{Shape}
use Rattle.pbx_content.specs.Meaning.{meaning}
use Rattle.pbx_content.specs.Laws.{meaning_with}

-- the answer: true rules this out, and false says that it holds
abbrev pub RulesOut : Bool → Type 0 → Type 0
RulesOut true P = P → ⊥
RulesOut false P = P

-- The bytes mean nothing, or a record is spelled at the front, means something alone, and has the rest behind it.
abbrev pub GoesOn : Shape → ℕ → ℕ → List FieldShape → List ℕ → Option (List ℕ) → Type 0
GoesOn shape groups messages fs bytes None = meaning_with shape groups messages fs bytes ≡ None
GoesOn shape groups messages fs bytes (Some rest) =
    (first : List ℕ) × (r : Rec) × SpellsOne groups first r × (bytes ≡ first ++ rest) × (is_some (meaning shape messages fs (r ∷ [])) ≡ true)
