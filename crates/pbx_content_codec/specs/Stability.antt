-- Contents as no records leave them: where they are so already, and what is left of the others.
use Rattle.std.specs.Prelude.{◌≡◌, ℕ, zero, suc, List, [], Bool, true, false, Option, Some, None, if◌then◌else◌}
use Rattle.pbx_content.specs.declared.shape.Kind.TheVariants as kinds
use Rattle.pbx_content.specs.declared.shape.Cardinality.{Cardinality}
use Rattle.pbx_content.specs.declared.shape.Cardinality.TheVariants.{Singular, Repeated, Map}
use Rattle.pbx_content.specs.declared.shape.Shape.{Shape}
use Rattle.pbx_content.specs.declared.shape.FieldShape.{FieldShape}
use Rattle.pbx_content.specs.Content.{Content, fields, get, Fields, no_fields, field, Val, many, keyed, vals_of, by_key}
use Rattle.pbx_content.specs.Shape.{fields_of, field_of, is_float}
use Rattle.pbx_content.specs.Meaning.{shown}
use Rattle.pbx_content.specs.Onto.{elements, pairs_held, message_held, meaning_onto}
use Rattle.pbx_content.specs.Laws.{IsStableIn}

-- ---- contents that stay

-- the content stays where no record comes, and the message in each of its fields of at most one does, to so many levels
unfoldable pub IsStableTo : Shape → ℕ → List FieldShape → Content → Type 0
IsStableTo shape zero fs c = IsStableIn shape zero fs c
IsStableTo shape (suc deeper) fs c =
    IsStableIn shape (suc deeper) fs c
    × ((f : FieldShape) (t : ℕ) → field_of f.number fs ≡ Some f → f.cardinality ≡ Singular → f.kind ≡ kinds.Message t
    → IsStableTo shape deeper (fields_of shape t) (message_held (get f.number (fields c))))

-- so it is of the message in a field of at most one, where the content is stable
abbrev pub HasStable : Bool → Shape → ℕ → FieldShape → Option Val → Type 0
HasStable stable shape messages f old =
    (t deeper : ℕ) → f.cardinality ≡ Singular → f.kind ≡ kinds.Message t → messages ≡ suc deeper → stable ≡ true
    → IsStableTo shape deeper (fields_of shape t) (message_held old)

-- the content stays where no record comes, and where it is stable, the messages inside do
abbrev pub IsReady : Bool → Shape → ℕ → List FieldShape → Content → Type 0
IsReady stable shape messages fs c = IsStableIn shape messages fs c × (stable ≡ true → IsStableTo shape messages fs c)

-- ---- what is left

-- of a value of such a field: lists and maps without elements are absent, and pairs ascend by key
abbrev pub stabilized_by : Shape → FieldShape → Cardinality → Option Val → Option Val
stabilized_by shape f Singular v = v
stabilized_by shape f Repeated v = shown shape false f.kind (Some (many (vals_of (elements v))))
stabilized_by shape f (Map key) v = shown shape false f.kind (Some (keyed (by_key (pairs_held v))))

-- the same, where floats and numbers of no field have no values
abbrev pub stabilized_at : Shape → Option FieldShape → Option Val → Option Val
stabilized_at shape None v = None
stabilized_at shape (Some f) v = if is_float f.kind then None else stabilized_by shape f f.cardinality v

-- of a content, at any levels
abbrev pub IsStabilizedFrom : Shape → List FieldShape → Content → Content → Type 0
IsStabilizedFrom shape fs old new = (levels : ℕ) → meaning_onto shape levels fs old [] ≡ Some new

-- a stable content is the same
abbrev pub IsStabilizedUnless : Bool → Shape → List FieldShape → Content → Content → Type 0
IsStabilizedUnless true shape fs old new = new ≡ old
IsStabilizedUnless false shape fs old new = IsStabilizedFrom shape fs old new

-- ---- one by one

-- the value of a number is one that stays, and its message to so many levels
abbrev pub IsStableAt : Shape → ℕ → List FieldShape → ℕ → Val → Type 0
IsStableAt shape levels fs n v =
    (f : FieldShape) × (field_of n fs ≡ Some f) × (stabilized_at shape (Some f) (Some v) ≡ Some v) × HasStable true shape levels f (Some v)

-- each value is
abbrev pub AreStableAt : Shape → ℕ → List FieldShape → Fields → Type 0
AreStableAt shape levels fs no_fields = Unit {0}
AreStableAt shape levels fs (field n v vs) = IsStableAt shape levels fs n v × AreStableAt shape levels fs vs
