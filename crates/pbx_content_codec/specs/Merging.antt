-- What one record more changes in a content.
use Rattle.std.specs.Prelude.{◌≡◌, ◌⊎◌, ℕ, suc, ◌-◌, ◌≤◌, List, [], ◌∷◌, ◌++◌, Bool, false, Option, Some, None, length, option_and_then, if◌then◌else◌}
use Rattle.pbx_wire.specs.declared.error.DecodeError.{DecodeError}
use Rattle.pbx_wire.specs.declared.error.DecodeError.TheVariants as errors
use Rattle.pbx_wire.specs.declared.rec.Rec.{Rec}
use Rattle.pbx_wire.specs.Faults.{shifted, SpellsOne}
use Rattle.pbx_content.specs.declared.shape.Kind.{Kind}
use Rattle.pbx_content.specs.declared.shape.Cardinality.TheVariants.{Map}
use Rattle.pbx_content_codec.specs.Keyed.{AreInOrder}
use Rattle.pbx_content.specs.declared.shape.Shape.{Shape}
use Rattle.pbx_content.specs.declared.shape.FieldShape.{FieldShape}
use Rattle.pbx_content.specs.Content.{Content, content, Fields, no_fields, field, Val, with_value}
use Rattle.pbx_content.specs.Records.{number_of, bytes_of, records_in}
use Rattle.pbx_content.specs.Shape.{field_of, is_float, is_other}
use Rattle.pbx_content.specs.Onto.{pairs_held, meaning_onto}
use Rattle.pbx_content.specs.Faults.{RecBreaks, payload_fields}
use Rattle.pbx_content.specs.Laws.{IsFirstWith}

-- ---- changes of contents

-- the fields with this at n, if there is a value
abbrev pub put_option : ℕ → Option Val → Fields → Fields
put_option n None fs = fs
put_option n (Some v) fs = with_value n v fs

-- the field is another member of the oneof of f
abbrev pub is_rival_to : FieldShape → Option FieldShape → Bool
is_rival_to f None = false
is_rival_to f (Some g) = is_other g f

-- the fields without those of other members of the oneof of f
abbrev pub without_rivals : List FieldShape → FieldShape → Fields → Fields
without_rivals gs f no_fields = no_fields
without_rivals gs f (field m v fs) = if is_rival_to f (field_of m gs) then without_rivals gs f fs else field m v (without_rivals gs f fs)

-- the content with a kept record more
abbrev pub kept_more : Content → Rec → Content
kept_more (content fs ks) r = content fs (ks ++ r ∷ [])

-- ---- what is read so far

-- what the bytes mean behind the content, with so many levels of groups and of messages
abbrev pub onto_with : Shape → ℕ → ℕ → List FieldShape → Content → List ℕ → Option Content
onto_with shape groups messages fs old bytes = option_and_then (meaning_onto shape messages fs old) (records_in groups bytes)

-- ---- what is told

-- want of memory, or such a fault of the bytes that have so many in front
abbrev pub IsToldAt : ℕ → (DecodeError → Type 0) → DecodeError → Type 0
IsToldAt at faults e = (e ≡ errors.NoMemory) ⊎ ((own : DecodeError) × faults own × (e ≡ shifted at own))

-- the record has a payload, which means the new content behind the old one, with a level less
abbrev pub PayloadMeans : Shape → ℕ → List FieldShape → Content → Rec → Content → Type 0
PayloadMeans shape messages gs old r new =
    (deeper : ℕ) × (payload : List ℕ) × (messages ≡ suc deeper) × (bytes_of r ≡ Some payload) × (onto_with shape deeper deeper gs old payload ≡ Some new)

-- the record has no payload, or no level is left for it, or it ends there and has a first fault
abbrev pub PayloadFails : Shape → ℕ → List FieldShape → ℕ → ℕ → Rec → DecodeError → Type 0
PayloadFails shape messages gs at end r e =
    ((e ≡ errors.WireType at) × (bytes_of r ≡ None))
    ⊎ ((payload : List ℕ) × (e ≡ errors.TooDeep at) × (messages ≡ 0) × (bytes_of r ≡ Some payload))
    ⊎ ((deeper : ℕ) × (payload : List ℕ) × (own : DecodeError) × (messages ≡ suc deeper) × (bytes_of r ≡ Some payload)
    × IsFirstWith shape deeper deeper gs payload own × (e ≡ shifted (end - length payload) own))

-- the record breaks the rule as one of the field, or its payload, which ends there, has a first fault
abbrev pub ValueFails : Shape → ℕ → ℕ → FieldShape → ℕ → ℕ → Rec → DecodeError → Type 0
ValueFails shape groups messages f at end r e =
    ((own : DecodeError) × RecBreaks shape groups f r own × (e ≡ shifted at own))
    ⊎ ((deeper : ℕ) × (gs : List FieldShape) × (payload : List ℕ) × (own : DecodeError)
    × (messages ≡ suc deeper) × (payload_fields shape f.cardinality f.kind ≡ Some gs) × (bytes_of r ≡ Some payload)
    × IsFirstWith shape deeper deeper gs payload own × (e ≡ shifted (end - length payload) own))

-- so it does as one of the field that reads it
abbrev pub RecFails : Shape → ℕ → ℕ → List FieldShape → ℕ → ℕ → Rec → DecodeError → Type 0
RecFails shape groups messages fs at end r e =
    (f : FieldShape) × (field_of (number_of r) fs ≡ Some f) × (is_float f.kind ≡ false) × ValueFails shape groups messages f at end r e

-- a payload of the record is no longer than the bytes up to its end
abbrev pub PayloadFits : Rec → ℕ → Type 0
PayloadFits r end = (payload : List ℕ) → bytes_of r ≡ Some payload → length payload ≤ end

-- a record is spelled at the front, and means the new content behind the old one
abbrev pub GoesOn : Shape → ℕ → ℕ → List FieldShape → Content → Content → List ℕ → List ℕ → Type 0
GoesOn shape groups messages fs old new bytes rest =
    (first : List ℕ) × (r : Rec) × SpellsOne groups first r × (bytes ≡ first ++ rest) × (meaning_onto shape messages fs old (r ∷ []) ≡ Some new)

-- the pairs of a map are by ascending key
abbrev pub HasOrdered : FieldShape → Option Val → Type 0
HasOrdered f old = (key : Kind) → f.cardinality ≡ Map key → AreInOrder (pairs_held old)
