-- What the functions of the writer say where they write no tree.
use Rattle.std.specs.Prelude.{◌≡◌, ◌⊎◌, ℕ, ℤ, List, [], ◌∷◌, ◌++◌, reverse, codes, Bool, true, false, Option, Some, None, Result, Ok, Err}
use Rattle.serde_json.specs.Data.{Data, object, Members}
use Rattle.serde_json.specs.View.{view}
use Rattle.pbx_text.specs.Timestamp.{timestamp_written}
use Rattle.pbx_text.specs.Duration.{duration_written}
use Rattle.pbx_text.specs.declared.fault.TextFault.{TextFault}
use Rattle.pbx_text.specs.declared.fault.TextFault.TheVariants.{Range, NoMemory as OutOfMemory}
use Rattle.serde_json.specs.declared.value.Value.{Value}
use Rattle.pbx_content.specs.Content.{Content, Fields, Val, number, truth, text, octets, message, many, keyed}
use Rattle.pbx_content.specs.Sound.{IsNumber, IsSound, AreElements, ArePairs}
use Rattle.pbx_wire.specs.declared.rec.Rec.{Rec}
use Rattle.pbx_content.specs.Shape.{field_of, is_float}
use Rattle.pbx_content.specs.declared.shape.FieldShape.{FieldShape}
use Rattle.pbx_content.specs.declared.shape.Kind.{Kind}
use Rattle.pbx_content.specs.declared.shape.Kind.TheVariants as kind
use Rattle.pbx_content.specs.declared.shape.Shape.{Shape}
use Rattle.pbx_json_meaning.specs.Asked.{one}
use Rattle.pbx_json_meaning.specs.Canonical.{tells, scalar_tree, has_key, is_kept_of, is_written_default, key_of_field}
use Rattle.pbx_json_meaning.specs.Faults.{SomeWith}
use Rattle.pbx_json_meaning.specs.WriteFaults.{WriteFaultAt}
use Rattle.pbx_json_meaning.specs.declared.error.JsonError.{JsonError}
use Rattle.pbx_json_meaning.specs.declared.kind.JsonKind.{JsonKind}
use Rattle.pbx_json_meaning.specs.declared.kind.JsonKind.TheVariants as fault
use Rattle.pbx_json_meaning.specs.Canonical.{Writing}
use Rattle.pbx_json_meaning.specs.declared.place.Step.{Step}
use Rattle.pbx_json_meaning.specs.declared.place.Step.TheVariants.{Key}
use Rattle.pbx_json_writing.specs.declared.refusal.Refusal.{Refusal}
use Rattle.pbx_json_writing.specs.declared.refusal.Refusal.TheVariants as refused

-- a value of the kind, as a field or an element holds it
abbrev pub Holds : Shape → Kind → Val → Type 0
Holds shape k (number z) = IsNumber k z
Holds shape k (truth b) = k ≡ kind.Bool
Holds shape k (text s) = k ≡ kind.String
Holds shape k (octets b) = k ≡ kind.Bytes
Holds shape k (message c) = (t : ℕ) × (k ≡ kind.Message t) × IsSound shape t c
Holds shape k (many vs) = AreElements shape k vs
Holds shape k (keyed ps) = (key : Kind) × ArePairs shape key k ps

-- The value has no tree as one of the kind, unless memory ran out; and where it is one of the kind, the rule is broken where the steps come from.
abbrev pub Refused : Shape → Writing → Val → Kind → Refusal → Type 0
Refused shape o v k refused.Memory = Unit {0}
Refused shape o v k (refused.Rule rule steps) = (tells shape o v (one k) ≡ None) × (Holds shape k v → WriteFaultAt shape o (reverse steps) v (one k) rule)

-- the same whatever the shape and the options
abbrev pub RefusedAnyhow : Val → Kind → Refusal → Type 0
RefusedAnyhow v k r = (shape : Shape) (o : Writing) → Refused shape o v k r

-- the answer is that of the grammar, unless memory ran out
abbrev pub IsAnswer : Result (List ℕ) TextFault → Result (List ℕ) TextFault → Type 0
IsAnswer wanted (Ok s) = wanted ≡ Ok s
IsAnswer wanted (Err e) = (e ≡ OutOfMemory) ⊎ (wanted ≡ Err e)

-- why no text is written, unless memory ran out
abbrev pub IsTextRefused : Result Data JsonKind → Refusal → Type 0
IsTextRefused d refused.Memory = Unit {0}
IsTextRefused d (refused.Rule rule steps) = (d ≡ Err rule) × (steps ≡ [])

-- seconds and nanoseconds that no text has
abbrev pub IsOutOfTime : ℤ → ℤ → Type 0
IsOutOfTime seconds nanos = (timestamp_written seconds nanos ≡ Err Range) × (duration_written seconds nanos ≡ Err Range)

-- why the value of a wrapper is not written: it is not of the kind, unless memory ran out
abbrev pub IsHeldRefused : Shape → Writing → Kind → Option Val → Refusal → Type 0
IsHeldRefused shape o k v refused.Memory = Unit {0}
IsHeldRefused shape o k v (refused.Rule rule steps) = (scalar_tree shape o k v ≡ None) × SomeWith v (λ held. Holds shape k held → ⊥)

-- the refusal of what stands a step above, unless memory ran out
abbrev pub IsLifted : Step → Refusal → Refusal → Type 0
IsLifted step below refused.Memory = Unit {0}
IsLifted step below (refused.Rule rule steps) = (inner : List Step) × (below ≡ refused.Rule rule inner) × (steps ≡ inner ++ step ∷ [])

-- the error that callers see
abbrev pub IsTold : Refusal → JsonError → Type 0
IsTold refused.Memory e = e.kind ≡ fault.NoMemory
IsTold (refused.Rule rule steps) e = (e.kind ≡ fault.NoMemory) ⊎ ((e.kind ≡ rule) × (e.place ≡ reverse steps))

-- a rule that a key breaks, unless memory ran out
abbrev pub IsAtKey : List ℕ → JsonKind → Refusal → Type 0
IsAtKey key rule refused.Memory = Unit {0}
IsAtKey key rule (refused.Rule r steps) = (r ≡ rule) × (steps ≡ Key key ∷ [])

-- a float field with a kept record
abbrev pub IsKeptFloat : List FieldShape → List Rec → FieldShape → Type 0
IsKeptFloat gs kept f = (field_of f.number gs ≡ Some f) × (is_float f.kind ≡ true) × (is_kept_of kept f ≡ true)

-- the refusal of what stands a step above a value that is written or refused, unless memory ran out
abbrev pub IsPassedOn : Step → Result Value Refusal → Refusal → Type 0
IsPassedOn step (Ok tree) r = r ≡ refused.Memory
IsPassedOn step (Err below) r = IsLifted step below r

-- why a member is not put to others: its key is there, or it has no tree
abbrev pub IsMemberRefused : List ℕ → Result Value Refusal → Members → Refusal → Type 0
IsMemberRefused key written ms r =
    ((has_key key ms ≡ true) × IsAtKey key fault.DuplicateField r) ⊎ ((has_key key ms ≡ false) × IsPassedOn (Key key) written r)

-- why a field without a value is not put to others: its key is there, or memory ran out
abbrev pub IsDefaultRefused : Writing → Fields → FieldShape → Members → Refusal → Type 0
IsDefaultRefused o fs f ms r =
    ((is_written_default o fs f ≡ true) × (has_key (key_of_field o f) ms ≡ true) × IsAtKey (key_of_field o f) fault.DuplicateField r) ⊎ (r ≡ refused.Memory)

-- ---- payloads

-- why there is no payload: the bytes mean nothing, unless memory ran out
abbrev pub IsPayloadRefused : Option Content → Refusal → Type 0
IsPayloadRefused meant refused.Memory = Unit {0}
IsPayloadRefused meant (refused.Rule rule steps) = (meant ≡ None) × (rule ≡ fault.AnyPayload) × (steps ≡ [])

-- why no type is put among the members of a tree: its key is there, unless memory ran out
abbrev pub IsTypeRefused : Data → Refusal → Type 0
IsTypeRefused d r =
    (r ≡ refused.Memory) ⊎ ((ms : Members) × (d ≡ object ms) × (has_key (codes "@type") ms ≡ true) × IsAtKey (codes "@type") fault.DuplicateField r)

-- the refusal of an `Any` whose payload is refused: that of the payload where it stands beside the type, and else that of what stands under `value`
abbrev pub IsPayloadLifted : Bool → Refusal → Refusal → Type 0
IsPayloadLifted true below r = r ≡ below
IsPayloadLifted false below r = IsLifted (Key (codes "value")) below r

-- why an `Any` with a payload that is written is refused
abbrev pub IsAnyRefused : Bool → Result Value Refusal → Refusal → Type 0
IsAnyRefused true (Ok tree) r = IsTypeRefused (view tree) r
IsAnyRefused false (Ok tree) r = r ≡ refused.Memory
IsAnyRefused beside (Err below) r = IsPayloadLifted beside below r
