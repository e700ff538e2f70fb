-- What a tree stands for as a message of a well-known type that has a form of its own, and what such a message is written as (ProtoJSON Format: the
-- table of types; google/protobuf/timestamp.proto, duration.proto, field_mask.proto, wrappers.proto, struct.proto).
use Rattle.std.specs.Prelude.{ℕ, ℤ, pos, List, [], ◌∷◌, map as map_list, codes, Bool, true, false, if◌then◌else◌, Option, Some, None, Result, Ok, Err}
use Rattle.serde_json.specs.Data.{Data, null, boolean, number, string, array, object, Members}
use Rattle.serde_json.specs.Find.{get_member}
use Rattle.pbx_content.specs.Content as content
use Rattle.pbx_content.specs.Content.{Content, Fields, no_fields, field as field_of_number, Val, Vals, no_vals, val, vals_of, get}
use Rattle.pbx_content.specs.declared.shape.Kind.{Kind}
use Rattle.pbx_content.specs.declared.shape.Kind.TheVariants as kind
use Rattle.pbx_content.specs.declared.shape.Shape.{Shape}
use Rattle.pbx_content.specs.declared.shape.FieldShape.{FieldShape}
use Rattle.pbx_content.specs.Shape.{fields_of, declared_of, field_of}
use Rattle.pbx_content.specs.Encoding.{type_of, encoded}
use Rattle.pbx_content.specs.Meaning.{shown}
use Rattle.pbx_wkt_types.specs.Shapes.{form_of}
use Rattle.pbx_wkt_types.specs.declared.form.Form.{Form}
use Rattle.pbx_wkt_types.specs.declared.form.Form.TheVariants as forms
use Rattle.pbx_text.specs.Timestamp.{timestamp_read, timestamp_written}
use Rattle.pbx_text.specs.Duration.{duration_read, duration_written}
use Rattle.pbx_text.specs.Mask.{mask_read, mask_written}
use Rattle.pbx_text.specs.declared.fault.TextFault.{TextFault}
use Rattle.pbx_json_meaning.specs.Scalars.{if_ok, scalar_read}
use Rattle.pbx_json_meaning.specs.Asked.{has_presence}
use Rattle.pbx_json_meaning.specs.Urls.{type_url, type_of_url, stands_beside}
use Rattle.pbx_json_meaning.specs.declared.kind.JsonKind.{JsonKind}
use Rattle.pbx_json_meaning.specs.declared.kind.JsonKind.TheVariants as fault

-- ---- forms

-- the message is an object whose members are its fields; `Empty` has none
abbrev pub is_object_form : Form → Bool
is_object_form forms.Fields = true
is_object_form forms.Empty = true
is_object_form _ = false

-- keys that name no field are skipped: never those of `Empty`
abbrev pub skips : Form → Bool → Bool
skips forms.Empty allow = false
skips _ allow = allow

-- ---- fields of a type

-- the kind of a field; where there is none, one that no tree is read as
abbrev pub kind_in : Option FieldShape → Kind
kind_in None = kind.Double
kind_in (Some f) = f.kind

-- the kind of the field of a number in a type
abbrev pub kind_at : Shape → ℕ → ℕ → Kind
kind_at shape t n = kind_in (field_of n (fields_of shape t))

-- the value of a field, unless it is a default without presence
abbrev pub shown_at : Shape → Option FieldShape → Val → Option Val
shown_at shape None v = None
shown_at shape (Some f) v = shown shape (has_presence f) f.kind (Some v)

-- the fields with this value first, if there is one
abbrev pub with_first : ℕ → Option Val → Fields → Fields
with_first n None fs = fs
with_first n (Some v) fs = field_of_number n v fs

-- these values at these numbers, without defaults that have no presence
abbrev pub filled : Shape → List FieldShape → List (ℕ × Val) → Fields
filled shape gs [] = no_fields
filled shape gs (p ∷ ps) = with_first p.0 (shown_at shape (field_of p.0 gs) p.1) (filled shape gs ps)

-- the content of a type with these values at these numbers, which ascend
abbrev pub made : Shape → ℕ → List (ℕ × Val) → Content
made shape t ps = content.content (filled shape (fields_of shape t) ps) []

-- seconds and nanoseconds
abbrev pub time_of : Shape → ℕ → ℤ × ℤ → Content
time_of shape t sn = made shape t ((1, content.number sn.0) ∷ (2, content.number sn.1) ∷ [])

-- the paths of a mask
abbrev pub mask_of_paths : Shape → ℕ → List (List ℕ) → Content
mask_of_paths shape t paths = made shape t ((1, content.many (vals_of (map_list content.text paths))) ∷ [])

-- one value at a number, if there is one
abbrev pub holding : Shape → ℕ → ℕ → Option Val → Content
holding shape t n None = made shape t []
holding shape t n (Some v) = made shape t ((n, v) ∷ [])

-- the type of the messages of the field of a number
abbrev pub type_at : Shape → ℕ → ℕ → ℕ
type_at shape t n = type_of (kind_at shape t n)

-- ---- reading

-- the content of what a grammar reads, or the rule that a text outside of it breaks
abbrev pub judged : {X : Type 0} → JsonKind → (X → Content) → Result X TextFault → Result Content JsonKind
judged k content_of (Ok x) = Ok (content_of x)
judged k content_of (Err e) = Err k

-- a text of a grammar
abbrev pub text_form : {X : Type 0} → JsonKind → (List ℕ → Result X TextFault) → (X → Content) → Data → Result Content JsonKind
text_form k grammar content_of (string s) = judged k content_of (grammar s)
text_form k grammar content_of _ = Err fault.WrongKind

-- What is read of a tree as a message of a form of its own: a content at once; or the list or the map that the tree is read as; or the message that
-- its members beside `@type` are, by their fields, or that its member `value` is, where other keys are skipped or not; and the content of what that says.
pub data Own : Type 0 where
  whole : Content → Own
  a_list : Kind → (Option Val → Content) → Own
  a_map : Kind → (Option Val → Content) → Own
  beside : Bool → List FieldShape → (Content → Content) → Own
  under : Bool → Kind → (Content → Content) → Own

-- a content that is read at once
abbrev pub at_once : Result Content JsonKind → Result Own JsonKind
at_once r = if_ok r (λ c. Ok (whole c))

-- the type has the form
abbrev pub is_struct : Form → Bool
is_struct forms.Struct = true
is_struct _ = false

abbrev pub is_list_value : Form → Bool
is_list_value forms.ListValue = true
is_list_value _ = false

-- a message as a value
abbrev pub held_message : Content → Option Val
held_message c = Some (content.message c)

-- the members of a `Struct`, as the content that `outer` makes of it, where the type has its shape
abbrev pub struct_read : Shape → ℕ → (Content → Content) → Result Own JsonKind
struct_read shape t outer = if is_struct (form_of shape t) then Ok (a_map (kind_at shape t 1) (λ o. outer (holding shape t 1 o))) else Err fault.Shape

-- the elements of a `ListValue`, likewise
abbrev pub list_value_read : Shape → ℕ → (Content → Content) → Result Own JsonKind
list_value_read shape t outer =
    if is_list_value (form_of shape t) then Ok (a_list (kind_at shape t 1) (λ o. outer (holding shape t 1 o))) else Err fault.Shape

-- a `Value` that holds a message under a number
abbrev pub value_with : Shape → ℕ → ℕ → Content → Content
value_with shape t n c = holding shape t n (held_message c)

-- a `Value`: any tree but a number
abbrev pub value_read : Shape → ℕ → Data → Result Own JsonKind
value_read shape t null = Ok (whole (holding shape t 1 (Some (content.number (pos 0)))))
value_read shape t (boolean b) = Ok (whole (holding shape t 4 (Some (content.truth b))))
value_read shape t (number n) = Err fault.Float
value_read shape t (string s) = Ok (whole (holding shape t 3 (Some (content.text s))))
value_read shape t (array ds) = list_value_read shape (type_at shape t 6) (value_with shape t 6)
value_read shape t (object ms) = struct_read shape (type_at shape t 5) (value_with shape t 5)

-- an `Any`: the type's URL, and the canonical encoding of the payload as its value (google/protobuf/any.proto)
abbrev pub packed : Shape → ℕ → List ℕ → ℕ → Content → Content
packed shape t url u p = made shape t ((1, content.text url) ∷ (2, content.octets (encoded shape u p)) ∷ [])

-- the member `value` as a payload, if it is there
abbrev pub under_value : Shape → Bool → ℕ → List ℕ → ℕ → Option Data → Result Own JsonKind
under_value shape allow t url u None = Err fault.AnyValue
under_value shape allow t url u (Some d) = Ok (under allow (kind.Message u) (packed shape t url u))

-- the payload of a type: its fields stand beside `@type`, or where its name is well known it stands under `value`
abbrev pub payload_read : Shape → Bool → ℕ → Members → List ℕ → ℕ → Result Own JsonKind
payload_read shape allow t ms url u =
    if stands_beside shape u then Ok (beside allow (declared_of shape u) (packed shape t url u))
    else under_value shape allow t url u (get_member (codes "value") ms)

-- the payload of the type that the URL names
abbrev pub typed_read : Shape → Bool → ℕ → Members → List ℕ → Option ℕ → Result Own JsonKind
typed_read shape allow t ms url None = Err fault.AnyType
typed_read shape allow t ms url (Some u) = payload_read shape allow t ms url u

-- the members of an `Any`, of which one has to be the type's URL
abbrev pub members_read : Shape → Bool → ℕ → Members → Option (List ℕ) → Result Own JsonKind
members_read shape allow t ms None = Err fault.AnyType
members_read shape allow t ms (Some url) = typed_read shape allow t ms url (type_of_url shape url)

-- an `Any`: an object that names the type of its payload
abbrev pub any_read : Shape → Bool → ℕ → Data → Result Own JsonKind
any_read shape allow t (object ms) = members_read shape allow t ms (type_url ms)
any_read shape allow t _ = Err fault.WrongKind

-- the content itself
abbrev pub itself : Content → Content
itself c = c

-- What a tree is as a message of a type of this form, which is no object of fields, or the rule that it breaks.
abbrev pub form_read : Shape → Bool → ℕ → Form → Data → Result Own JsonKind
form_read shape allow t forms.Timestamp d = at_once (text_form fault.Timestamp timestamp_read (time_of shape t) d)
form_read shape allow t forms.Duration d = at_once (text_form fault.Duration duration_read (time_of shape t) d)
form_read shape allow t forms.FieldMask d = at_once (text_form fault.Mask mask_read (mask_of_paths shape t) d)
form_read shape allow t forms.Wrapper d = at_once (if_ok (scalar_read shape allow (kind_at shape t 1) d) (λ o. Ok (holding shape t 1 o)))
form_read shape allow t forms.FloatWrapper d = Err fault.Float
form_read shape allow t forms.Misshapen d = Err fault.Shape
form_read shape allow t forms.Struct d = struct_read shape t itself
form_read shape allow t forms.ListValue d = list_value_read shape t itself
form_read shape allow t forms.Value d = value_read shape t d
form_read shape allow t forms.Any d = any_read shape allow t d
form_read shape allow t _ d = Err fault.WrongKind

-- the same by the type's own form
abbrev pub own_read : Shape → Bool → ℕ → Data → Result Own JsonKind
own_read shape allow t d = form_read shape allow t (form_of shape t) d

-- the type is read as an object of fields
abbrev pub is_object_type : Shape → ℕ → Bool
is_object_type shape t = is_object_form (form_of shape t)

-- keys that name no field of the type are skipped
abbrev pub skips_keys : Shape → Bool → ℕ → Bool
skips_keys shape allow t = skips (form_of shape t) allow

-- ---- values for writing

-- the number that a field holds, 0 where it is absent
abbrev pub number_in : Option Val → ℤ
number_in (Some (content.number z)) = z
number_in _ = pos 0

-- the text that a field holds, empty where it is absent
abbrev pub text_at : Option Val → List ℕ
text_at (Some (content.text s)) = s
text_at _ = []

-- the bytes that a field holds, none where it is absent
abbrev pub bytes_at : Option Val → List ℕ
bytes_at (Some (content.octets b)) = b
bytes_at _ = []

-- the text that a value holds
abbrev pub text_in : Val → List ℕ
text_in (content.text s) = s
text_in _ = []

-- the texts of a list
abbrev pub texts_of : Vals → List (List ℕ)
texts_of no_vals = []
texts_of (val v vs) = text_in v ∷ texts_of vs

-- the texts that a field holds, none where it is absent
abbrev pub texts_in : Option Val → List (List ℕ)
texts_in (Some (content.many vs)) = texts_of vs
texts_in _ = []

-- the text that is written, or the rule that is broken where there is none
abbrev pub as_text : JsonKind → Result (List ℕ) TextFault → Result Data JsonKind
as_text k (Ok s) = Ok (string s)
as_text k (Err e) = Err k

-- the fields hold a timestamp, a duration, or a mask
abbrev pub timestamp_tree : Fields → Result Data JsonKind
timestamp_tree fs = as_text fault.Timestamp (timestamp_written (number_in (get 1 fs)) (number_in (get 2 fs)))

abbrev pub duration_tree : Fields → Result Data JsonKind
duration_tree fs = as_text fault.Duration (duration_written (number_in (get 1 fs)) (number_in (get 2 fs)))

abbrev pub mask_tree : Fields → Result Data JsonKind
mask_tree fs = as_text fault.Mask (mask_written (texts_in (get 1 fs)))
