-- What a tree is as an object of fields.
use Rattle.std.specs.Prelude.{ℕ, List, Bool, if◌then◌else◌, true, false, not, ◌&&◌, filter, Ok}
use Rattle.serde_json.specs.Data.{Data}
use Rattle.pbx_content.specs.Content.{Content}
use Rattle.pbx_content.specs.declared.shape.FieldShape.{FieldShape}
use Rattle.pbx_content.specs.declared.shape.Kind.{Kind}
use Rattle.pbx_json_meaning.specs.Names.{field_named}
use Rattle.pbx_json_meaning.specs.Urls.{is_type_key}
use Rattle.pbx_json_meaning.specs.declared.place.Step.TheVariants.{Key as to_key}
use Rattle.pbx_json_walk.specs.Opened.{members_in}
use Rattle.pbx_json_walk.specs.Walk.{Answer, Answers, Part, State, and_then, or_here, at_step, turn, members_answer, beside_answer, payload_answer}

-- an object of these fields, where keys that name none are skipped or not
abbrev pub object_answer : Bool → List FieldShape → Data → List Part → Answer Content
object_answer skips fs d ps = and_then (or_here (members_in d)) (members_answer skips fs ps)

-- the members but that of the type of an `Any`, as an object of these fields
abbrev pub beside_object : Bool → List FieldShape → Data → List Part → Answer Content
beside_object skips fs d ps = and_then (or_here (members_in d)) (beside_answer skips fs ps)

-- the one or the other of these
abbrev pub fields_object : Bool → Bool → List FieldShape → Data → List Part → Answer Content
fields_object true skips fs d ps = beside_object skips fs d ps
fields_object false skips fs d ps = object_answer skips fs d ps

-- a key is passed over, as that of the type is where a payload stands beside it
abbrev pub is_passed : Bool → List ℕ → Bool
is_passed beside key = beside && is_type_key key

-- the keys that are read of such an object
abbrev pub parts_read : Bool → List Part → List Part
parts_read beside ps = filter (λ p. not (is_passed beside p.key)) ps

-- what one key of such an object does
abbrev pub member_turn : Bool → Bool → List FieldShape → List ℕ → Answers → State → Answer State
member_turn beside skips fs key answers s =
    if is_passed beside key then Ok s else at_step (to_key key) (turn skips (field_named key fs) answers s)

-- the payload of a kind under `value`
abbrev pub payload_object : Bool → Kind → Data → List Part → Answer Content
payload_object skips k d ps = and_then (or_here (members_in d)) (payload_answer skips k ps)
