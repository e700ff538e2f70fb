-- Which rule of the JSON mapping a tree breaks, and where (ProtoJSON Format). A place is followed from the root, through what is read of the
-- trees on the way; a rule is broken by the tree that stands there, or by the key that leads there.
use Rattle.std.specs.Prelude.{◌≡◌, ◌⊎◌, ℕ, ◌==◌, List, [], ◌∷◌, Bool, true, false, ◌&&◌, if◌then◌else◌, Option, Some, None, option_map}
use Rattle.std.specs.Prelude.{option_and_then, Result, Ok, Err}
use Rattle.std.specs.List.{list_any}
use Rattle.std.specs.Ordering.{nat_cmp, is_lt}
use Rattle.std.specs.Cmp.Lexicographic.{slice_cmp}
use Rattle.serde_json.specs.Data.{Data, array, object, Items, no_items, Members, no_members, member}
use Rattle.serde_json.specs.Find.{get_member, get_item}
use Rattle.pbx_content.specs.declared.shape.Kind.{Kind}
use Rattle.pbx_content.specs.declared.shape.Kind.TheVariants as kind
use Rattle.pbx_content.specs.declared.shape.Shape.{Shape}
use Rattle.pbx_content.specs.declared.shape.FieldShape.{FieldShape}
use Rattle.pbx_content.specs.Content.{Val, Key as MapKey}
use Rattle.pbx_content.specs.Shape.{declared_of, is_float, is_other}
use Rattle.pbx_json_meaning.specs.Names.{field_named}
use Rattle.pbx_json_meaning.specs.Scalars.{if_ok, scalar_read, key_read}
use Rattle.pbx_json_meaning.specs.Asked.{Asked, field, one, root, Target, nothing, single, list, map, target}
use Rattle.pbx_json_meaning.specs.Urls.{is_value_key, is_type_or_value, without_type}
use Rattle.pbx_json_meaning.specs.Forms.{is_object_type, skips_keys, own_read, Own, whole, a_list, a_map, beside, under}
use Rattle.pbx_json_meaning.specs.Stands.{said, is_there, is_alike}
use Rattle.pbx_json_meaning.specs.Place.{IsUpTo}
use Rattle.pbx_json_meaning.specs.declared.kind.JsonKind.{JsonKind}
use Rattle.pbx_json_meaning.specs.declared.kind.JsonKind.TheVariants as fault
use Rattle.pbx_json_meaning.specs.declared.place.Step.{Step}
use Rattle.pbx_json_meaning.specs.declared.place.Step.TheVariants.{Key, Index}

-- What is read below a tree: nothing, elements of a kind, entries whose keys and values are of two kinds, members that name fields, where keys
-- that name none are skipped or not, or a payload of a kind under `value`, where other keys than `@type` are skipped or not.
pub data Inside : Type 0 where
  leaf : Inside
  elements : Kind → Items → Inside
  keyed : Kind → Kind → Members → Inside
  members : Bool → List FieldShape → Members → Inside
  payload : Bool → Kind → Members → Inside

-- what is read below, or the rule that the tree itself breaks
abbrev pub Opened : Type 0
Opened = Result Inside JsonKind

-- nothing is read below a value that is read
abbrev pub as_leaf : {X : Type 0} → Result X JsonKind → Opened
as_leaf r = if_ok r (λ x. Ok leaf)

-- the tree is an object
abbrev pub object_opened : (Members → Opened) → Data → Opened
object_opened f (object ms) = f ms
object_opened f _ = Err fault.WrongKind

-- the tree is an array
abbrev pub array_opened : (Items → Opened) → Data → Opened
array_opened f (array ds) = f ds
array_opened f _ = Err fault.WrongKind

-- `Float` for a float field, list or map, whatever stands there, and else what the tree says
abbrev pub unless_float : Kind → Opened → Opened
unless_float k opened = if is_float k then Err fault.Float else opened

-- a tree that is read as a list
abbrev pub list_opened : Kind → Data → Opened
list_opened k (array no_items) = Ok leaf
list_opened k d = unless_float k (array_opened (λ ds. Ok (elements k ds)) d)

-- a tree that is read as a map
abbrev pub map_opened : Kind → Kind → Data → Opened
map_opened kk vk (object no_members) = Ok leaf
map_opened kk vk d = unless_float vk (object_opened (λ ms. Ok (keyed kk vk ms)) d)

-- a tree that is read as a message of a form of its own
abbrev pub own_opened : Result Own JsonKind → Data → Opened
own_opened (Err k) d = Err k
own_opened (Ok (whole c)) d = Ok leaf
own_opened (Ok (a_list k wrap)) d = list_opened k d
own_opened (Ok (a_map k wrap)) d = map_opened kind.String k d
own_opened (Ok (beside allow fs wrap)) d = object_opened (λ ms. Ok (members allow fs (without_type ms))) d
own_opened (Ok (under allow k wrap)) d = object_opened (λ ms. Ok (payload allow k ms)) d

-- a tree that is read as a message: an object of fields, or what the type's own form reads
abbrev pub message_opened : Shape → Bool → ℕ → Data → Opened
message_opened shape allow t d =
    if is_object_type shape t then object_opened (λ ms. Ok (members (skips_keys shape allow t) (declared_of shape t) ms)) d
    else own_opened (own_read shape allow t d) d

-- a tree that is read as one value of a kind
abbrev pub single_opened : Shape → Bool → Kind → Data → Opened
single_opened shape allow (kind.Message t) d = message_opened shape allow t d
single_opened shape allow k d = as_leaf (scalar_read shape allow k d)

-- what is read below a tree by what it is to be read as, or the rule that it breaks
abbrev pub opened_as : Shape → Bool → Target → Data → Opened
opened_as shape allow nothing d = Ok leaf
opened_as shape allow (single k) d = single_opened shape allow k d
opened_as shape allow (list k) d = list_opened k d
opened_as shape allow (map kk vk) d = map_opened kk vk d

-- what is read below a tree of which something is asked, or the rule that it breaks
abbrev pub opened : Shape → Bool → Data → Asked → Opened
opened shape allow d asked = opened_as shape allow (target shape d asked) d

-- ---- steps

-- the tree of an element or of a member, and what is asked of it
abbrev pub into : Inside → Step → Option (Data × Asked)
into (elements k ds) (Index i) = option_map (λ d. (d, one k)) (get_item i ds)
into (keyed kk vk ms) (Key k) = option_map (λ d. (d, one vk)) (get_member k ms)
into (members allow fs ms) (Key k) = option_and_then (λ f. option_map (λ d. (d, field f)) (get_member k ms)) (field_named k fs)
into (payload allow pk ms) (Key k) = if is_value_key k then option_map (λ d. (d, one pk)) (get_member k ms) else None
into _ _ = None

-- the members of lesser keys, by bytes
abbrev pub lesser : List ℕ → Members → List (List ℕ × Data)
lesser k no_members = []
lesser k (member l d ms) = if is_lt (slice_cmp nat_cmp l k) then (l, d) ∷ lesser k ms else lesser k ms

-- both keys name one field
abbrev pub is_same_field : Option FieldShape → Option FieldShape → Bool
is_same_field (Some f) (Some g) = f.number == g.number
is_same_field _ _ = false

-- a lesser key names the same field
abbrev pub is_second_key : List FieldShape → Members → List ℕ → Bool
is_second_key fs ms k = list_any (λ m. is_same_field (field_named m.0 fs) (field_named k fs)) (lesser k ms)

-- the reading is a value
abbrev pub is_value : Option (Option Val) → Bool
is_value (Some (Some v)) = true
is_value _ = false

-- the tree is read as a value of the field
abbrev pub has_value : Shape → Bool → Data → FieldShape → Bool
has_value shape allow d f = is_value (said shape allow d (field f))

-- a field with a value in the oneof of f
abbrev pub is_rival_with_value : Shape → Bool → FieldShape → Data → Option FieldShape → Bool
is_rival_with_value shape allow f d None = false
is_rival_with_value shape allow f d (Some g) = is_other f g && has_value shape allow d g

-- the tree is a value of the field, and a lesser key has one of another member of its oneof
abbrev pub is_second_member : Shape → Bool → List FieldShape → Members → List ℕ → Option FieldShape → Option Data → Bool
is_second_member shape allow fs ms k (Some f) (Some d) =
    has_value shape allow d f && list_any (λ m. is_rival_with_value shape allow f m.1 (field_named m.0 fs)) (lesser k ms)
is_second_member shape allow fs ms k _ _ = false

-- both keys are read, and alike
abbrev pub reads_alike : Result MapKey JsonKind → Result MapKey JsonKind → Bool
reads_alike (Ok k) (Ok l) = is_alike k l
reads_alike _ _ = false

-- a lesser key reads alike
abbrev pub is_second_alike : Kind → Members → List ℕ → Bool
is_second_alike kk ms k = list_any (λ m. reads_alike (key_read kk m.0) (key_read kk k)) (lesser k ms)

-- the rule that a key breaks: of an object of fields, of one of entries, or beside a payload
abbrev pub KeyBreaks : Shape → Bool → Inside → List ℕ → JsonKind → Type 0
KeyBreaks shape allow (members skips fs ms) k fault.UnknownField = (field_named k fs ≡ None) × (skips ≡ false)
KeyBreaks shape allow (members skips fs ms) k fault.DuplicateField = is_second_key fs ms k ≡ true
KeyBreaks shape allow (members skips fs ms) k fault.OneofTwice = is_second_member shape allow fs ms k (field_named k fs) (get_member k ms) ≡ true
KeyBreaks shape allow (keyed kk vk ms) k fault.DuplicateKey = is_second_alike kk ms k ≡ true
KeyBreaks shape allow (keyed kk vk ms) k kind = key_read kk k ≡ Err kind
KeyBreaks shape allow (payload skips pk ms) k fault.UnknownField = (is_type_or_value k ≡ false) × (skips ≡ false)
KeyBreaks _ _ _ _ _ = ⊥

-- the members whose keys are judged
abbrev pub members_of : Inside → Members
members_of (keyed kk vk ms) = ms
members_of (members skips fs ms) = ms
members_of (payload skips pk ms) = ms
members_of _ = no_members

-- the last step is to a member whose key breaks the rule
abbrev pub IsKeyFault : Shape → Bool → Inside → Step → List Step → JsonKind → Type 0
IsKeyFault shape allow inside (Key k) place kind = (place ≡ []) × (is_there (get_member k (members_of inside)) ≡ true) × KeyBreaks shape allow inside k kind
IsKeyFault shape allow inside (Index i) place kind = ⊥

-- there is a value, and this holds of it
abbrev pub SomeWith : {X : Type 0} → Option X → (X → Type 0) → Type 0
SomeWith None P = ⊥
SomeWith (Some x) P = P x

-- there is a result that is no error, and this holds of it
abbrev pub OkWith : {X E : Type 0} → Result X E → (X → Type 0) → Type 0
OkWith (Err e) P = ⊥
OkWith (Ok x) P = P x

-- The rule of the kind is broken at the place: by the tree that stands there, or by the key that leads there.
abbrev pub FaultAt : Shape → Bool → List Step → Data → Asked → JsonKind → Type 0
FaultAt shape allow [] d asked kind = opened shape allow d asked ≡ Err kind
FaultAt shape allow (step ∷ place) d asked kind =
    OkWith (opened shape allow d asked) (λ inside.
    IsKeyFault shape allow inside step place kind ⊎ SomeWith (into inside step) (λ next. FaultAt shape allow place next.0 next.1 kind))

-- a tree for a message of the type breaks the rule of the kind at the place
abbrev pub JsonFault : Shape → ℕ → Bool → Data → List Step → JsonKind → Type 0
JsonFault shape t allow d place kind = FaultAt shape allow place d (root t) kind

-- the same, and no place before it has a fault
pub record FirstFaultAt (shape : Shape) (allow : Bool) (d : Data) (asked : Asked) (place : List Step) (kind : JsonKind) : Type 0 where
  pub broken : FaultAt shape allow place d asked kind
  pub first : (q : List Step) (k : JsonKind) → FaultAt shape allow q d asked k → IsUpTo place q

-- what reading tells: a fault at the first place that has one
abbrev pub FirstJsonFault : Shape → ℕ → Bool → Data → List Step → JsonKind → Type 0
FirstJsonFault shape t allow d place kind = FirstFaultAt shape allow d (root t) place kind
