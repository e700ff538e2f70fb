-- The payload of an `Any`: the message type that its URL names, and where it stands in the tree (google/protobuf/any.proto; ProtoJSON Format: Any).
use Rattle.std.specs.Prelude.{ℕ, ◌==◌, List, [], ◌∷◌, codes, Bool, true, false, ◌||◌, if◌then◌else◌, Option, Some, None, option_and_then}
use Rattle.std.specs.List.{position}
use Rattle.std.specs.Option.{option_or}
use Rattle.std.specs.Str.{bytes_eq}
use Rattle.serde_json.specs.Data.{Members, no_members, member}
use Rattle.serde_json.specs.Find.{get_member, as_str}
use Rattle.pbx_content.specs.declared.shape.Shape.{Shape}
use Rattle.pbx_wkt_types.specs.Shapes.{form_of}
use Rattle.pbx_wkt_types.specs.declared.form.Form.{Form}
use Rattle.pbx_wkt_types.specs.declared.form.Form.TheVariants as forms

-- the text behind the last `/`, if there is one
abbrev pub after_slash : List ℕ → Option (List ℕ)
after_slash [] = None
after_slash (c ∷ cs) = option_or (after_slash cs) (if c == 47 then Some cs else None)

-- the place of the first message of exactly that full name
abbrev pub type_named : Shape → List ℕ → Option ℕ
type_named shape name = position (λ m. bytes_eq m.full_name name) shape.messages

-- the message type that a URL names: its last segment is the full name
abbrev pub type_of_url : Shape → List ℕ → Option ℕ
type_of_url shape url = option_and_then (type_named shape) (after_slash url)

-- the key of an `Any`'s type
abbrev pub is_type_key : List ℕ → Bool
is_type_key key = bytes_eq key (codes "@type")

-- the key of a payload of a well-known type
abbrev pub is_value_key : List ℕ → Bool
is_value_key key = bytes_eq key (codes "value")

-- a key that stands in the object of an `Any` with such a payload
abbrev pub is_type_or_value : List ℕ → Bool
is_type_or_value key = is_type_key key || is_value_key key

-- the text under `@type`
abbrev pub type_url : Members → Option (List ℕ)
type_url ms = option_and_then as_str (get_member (codes "@type") ms)

-- the members but that of the type
abbrev pub without_type : Members → Members
without_type no_members = no_members
without_type (member k d ms) = if is_type_key k then without_type ms else member k d (without_type ms)

-- the payload's fields stand beside `@type`; the payload of a well-known name stands under `value`
abbrev pub is_beside_type : Form → Bool
is_beside_type forms.Fields = true
is_beside_type _ = false

-- the same of the type at a place
abbrev pub stands_beside : Shape → ℕ → Bool
stands_beside shape u = is_beside_type (form_of shape u)
