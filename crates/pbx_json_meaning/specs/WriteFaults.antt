-- Which rule of the JSON mapping a content breaks where it is written, and where in the tree (ProtoJSON Format). A place is followed from the root,
-- through what is written of the values on the way; a rule is broken by the value that stands there, or by the key that leads there.
use Rattle.std.specs.Prelude.{◌≡◌, ◌⊎◌, ℕ, zero, suc, nat_le, List, [], ◌∷◌, ◌++◌, map as map_list, filter, length, codes, Bool, true, false, ◌&&◌}
use Rattle.std.specs.Prelude.{if◌then◌else◌, Option, Some, None, option_map, Result, Ok, Err}
use Rattle.std.specs.List.{list_any}
use Rattle.std.specs.Str.{bytes_eq}
use Rattle.pbx_wire.specs.declared.rec.Rec.{Rec}
use Rattle.pbx_content.specs.Content as content
use Rattle.pbx_content.specs.Content.{Content, Fields, no_fields, field as field_of_number, Val, Vals, no_vals, val, Pairs, no_pairs, pair, get, fields, kept}
use Rattle.pbx_content.specs.Content.{Key as MapKey}
use Rattle.pbx_content.specs.declared.shape.Kind.{Kind}
use Rattle.pbx_content.specs.declared.shape.Kind.TheVariants as kind
use Rattle.pbx_content.specs.Meaning.{meaning_of}
use Rattle.pbx_content.specs.declared.shape.Shape.{Shape}
use Rattle.pbx_content.specs.declared.shape.FieldShape.{FieldShape}
use Rattle.pbx_content.specs.Encoding.{type_of}
use Rattle.pbx_content.specs.Shape.{declared_of, field_of, is_float}
use Rattle.pbx_json_meaning.specs.Asked.{Asked, field, one, root}
use Rattle.pbx_json_meaning.specs.Scalars.{if_ok}
use Rattle.pbx_wkt_types.specs.Shapes.{form_of}
use Rattle.pbx_wkt_types.specs.declared.form.Form.{Form}
use Rattle.pbx_wkt_types.specs.declared.form.Form.TheVariants as forms
use Rattle.pbx_json_meaning.specs.Urls.{type_of_url, stands_beside, is_value_key}
use Rattle.pbx_json_meaning.specs.Forms.{is_object_type, kind_at, type_at, timestamp_tree, duration_tree, mask_tree, text_at, bytes_at}
use Rattle.pbx_json_meaning.specs.Faults.{SomeWith, OkWith}
use Rattle.pbx_json_meaning.specs.Canonical.{Writing, writing, key_of_field, is_kept_of, is_written_default, kind_asked, key_text, keeps_float, first_field}
use Rattle.pbx_json_meaning.specs.declared.kind.JsonKind.{JsonKind}
use Rattle.pbx_json_meaning.specs.declared.kind.JsonKind.TheVariants as fault
use Rattle.pbx_json_meaning.specs.declared.options.SerializeOptions.{SerializeOptions}
use Rattle.pbx_json_meaning.specs.declared.place.Step.{Step}
use Rattle.pbx_json_meaning.specs.declared.place.Step.TheVariants.{Key, Index}

-- what is written below a value: nothing, elements, entries, fields of a message with its kept records, beside `@type` or not, or a payload of a type
-- under `value`
pub data Parts : Type 0 where
  leaf : Parts
  elements : Kind → Vals → Parts
  keyed : Kind → Pairs → Parts
  members : Bool → List FieldShape → Fields → List Rec → Parts
  payload : ℕ → Content → Parts

-- what is written below, or the rule that the value itself breaks
abbrev pub Taken : Type 0
Taken = Result Parts JsonKind

-- nothing is written below a text
abbrev pub as_leaf : {X : Type 0} → Result X JsonKind → Taken
as_leaf r = if_ok r (λ x. Ok leaf)

-- what is written below the value of a field that is a list or a map
abbrev pub several_parts : Kind → Option Val → Taken
several_parts k (Some (content.many vs)) = Ok (elements k vs)
several_parts k (Some (content.keyed ps)) = Ok (keyed k ps)
several_parts k _ = Ok leaf

-- what is written below a `Struct` or a `ListValue`
abbrev pub struct_parts : Shape → ℕ → Fields → Taken
struct_parts shape t fs = several_parts (kind_at shape t 1) (get 1 fs)

-- the same of the message of such a type that a `Value` holds
abbrev pub held_parts : Shape → ℕ → Form → Option Val → Taken
held_parts shape t forms.Misshapen (Some (content.message c)) = Err fault.Shape
held_parts shape t _ (Some (content.message c)) = struct_parts shape t (fields c)
held_parts shape t _ _ = Ok leaf

-- what is written below a `Value`
abbrev pub value_parts : Shape → ℕ → Fields → List Rec → Taken
value_parts shape t fs kept =
    if keeps_float (declared_of shape t) kept then Err fault.Float
    else held_parts shape (type_at shape t (first_field fs)) (form_of shape (type_at shape t (first_field fs))) (get (first_field fs) fs)

-- what is written below an `Any` with the content of its payload, if that decodes
abbrev pub payload_parts : Shape → ℕ → Option Content → Taken
payload_parts shape u None = Err fault.AnyPayload
payload_parts shape u (Some c) = if stands_beside shape u then Ok (members true (declared_of shape u) (fields c) (kept c)) else Ok (payload u c)

-- the same with a payload of the type that the URL names
abbrev pub typed_parts : Shape → List ℕ → Option ℕ → Taken
typed_parts shape bytes None = Err fault.AnyType
typed_parts shape bytes (Some u) = payload_parts shape u (meaning_of shape u bytes)

-- what is written below an `Any`
abbrev pub any_parts : Shape → Fields → Taken
any_parts shape fs = typed_parts shape (bytes_at (get 2 fs)) (type_of_url shape (text_at (get 1 fs)))

-- what is written below a message of a type of this form, which is no object of fields
abbrev pub form_parts : Shape → ℕ → Form → Fields → List Rec → Taken
form_parts shape t forms.Timestamp fs kept = as_leaf (timestamp_tree fs)
form_parts shape t forms.Duration fs kept = as_leaf (duration_tree fs)
form_parts shape t forms.FieldMask fs kept = as_leaf (mask_tree fs)
form_parts shape t forms.Wrapper fs kept = Ok leaf
form_parts shape t forms.FloatWrapper fs kept = Err fault.Float
form_parts shape t forms.Misshapen fs kept = Err fault.Shape
form_parts shape t forms.Struct fs kept = struct_parts shape t fs
form_parts shape t forms.ListValue fs kept = struct_parts shape t fs
form_parts shape t forms.Value fs kept = value_parts shape t fs kept
form_parts shape t forms.Any fs kept = any_parts shape fs
form_parts shape t _ fs kept = Err fault.WrongKind

-- what is written below a message: fields, or what its own form has
abbrev pub message_parts : Shape → ℕ → Fields → List Rec → Taken
message_parts shape t fs kept =
    if is_object_type shape t then Ok (members false (declared_of shape t) fs kept) else form_parts shape t (form_of shape t) fs kept

-- what is written below a content of a type
abbrev pub content_parts : Shape → ℕ → Content → Taken
content_parts shape t (content.content fs kept) = message_parts shape t fs kept

-- what is written below a value of which something is asked, or the rule that it breaks
abbrev pub parts_of : Shape → Val → Asked → Taken
parts_of shape (content.message c) a = content_parts shape (type_of (kind_asked a)) c
parts_of shape (content.many vs) a = Ok (elements (kind_asked a) vs)
parts_of shape (content.keyed ps) a = Ok (keyed (kind_asked a) ps)
parts_of shape _ a = Ok leaf

-- ---- steps

-- the element at an index
abbrev pub val_at : ℕ → Vals → Option Val
val_at i no_vals = None
val_at zero (val v vs) = Some v
val_at (suc i) (val v vs) = val_at i vs

-- the value of the entry that is written under a key
abbrev pub val_under : List ℕ → Pairs → Option Val
val_under s no_pairs = None
val_under s (pair k v ps) = if bytes_eq (key_text k) s then Some v else val_under s ps

-- the field is written under a key
abbrev pub is_under : Writing → List ℕ → Option FieldShape → Bool
is_under o s None = false
is_under o s (Some f) = bytes_eq (key_of_field o f) s

-- a field's value, and what is asked of it
abbrev pub asked_of : Option FieldShape → Val → Option (Val × Asked)
asked_of None v = None
asked_of (Some f) v = Some (v, field f)

-- the value of the field that is written under a key
abbrev pub field_under : Writing → List ℕ → List FieldShape → Fields → Option (Val × Asked)
field_under o s gs no_fields = None
field_under o s gs (field_of_number n v fs) = if is_under o s (field_of n gs) then asked_of (field_of n gs) v else field_under o s gs fs

-- the value that is written at an element or under a key, and what is asked of it
abbrev pub into_written : Writing → Parts → Step → Option (Val × Asked)
into_written o (elements k vs) (Index i) = option_map (λ v. (v, one k)) (val_at i vs)
into_written o (keyed k ps) (Key s) = option_map (λ v. (v, one k)) (val_under s ps)
into_written o (members typed gs fs kept) (Key s) = field_under o s gs fs
into_written o (payload u c) (Key s) = if is_value_key s then Some (content.message c, one (kind.Message u)) else None
into_written o _ _ = None

-- the key of a field
abbrev pub key_in : Writing → Option FieldShape → List (List ℕ)
key_in o None = []
key_in o (Some f) = key_of_field o f ∷ []

-- the keys of the fields that have a value
abbrev pub value_keys : Writing → List FieldShape → Fields → List (List ℕ)
value_keys o gs no_fields = []
value_keys o gs (field_of_number n v fs) = key_in o (field_of n gs) ++ value_keys o gs fs

-- the key of the type beside which fields stand, if they do
abbrev pub type_keys : Bool → List (List ℕ)
type_keys typed = if typed then codes "@type" ∷ [] else []

-- the keys that are written: of the type, of the fields that have a value, and of the defaults
abbrev pub written_keys : Writing → Bool → List FieldShape → Fields → List (List ℕ)
written_keys o typed gs fs = type_keys typed ++ value_keys o gs fs ++ map_list (key_of_field o) (filter (is_written_default o fs) gs)

-- the key is written twice
abbrev pub is_twice : List ℕ → List (List ℕ) → Bool
is_twice s keys = nat_le 2 (length (filter (λ k. bytes_eq k s) keys))

-- the rule that a key breaks: two are written, or a float field that would stand there has a kept record
abbrev pub KeyBreaks : Writing → Parts → List ℕ → JsonKind → Type 0
KeyBreaks o (members typed gs fs kept) s fault.DuplicateField = is_twice s (written_keys o typed gs fs) ≡ true
KeyBreaks o (members typed gs fs kept) s fault.Float = list_any (λ f. is_float f.kind && is_kept_of kept f && bytes_eq (key_of_field o f) s) gs ≡ true
KeyBreaks o _ s _ = ⊥

-- the last step is to a key that breaks the rule
abbrev pub IsKeyFault : Writing → Parts → Step → List Step → JsonKind → Type 0
IsKeyFault o parts (Key s) place kind = (place ≡ []) × KeyBreaks o parts s kind
IsKeyFault o parts (Index i) place kind = ⊥

-- The rule of the kind is broken at the place of the tree: by the value that is written there, or by the key that leads there.
abbrev pub WriteFaultAt : Shape → Writing → List Step → Val → Asked → JsonKind → Type 0
WriteFaultAt shape o [] v a kind = parts_of shape v a ≡ Err kind
WriteFaultAt shape o (step ∷ place) v a kind =
    OkWith (parts_of shape v a) (λ parts.
    IsKeyFault o parts step place kind ⊎ SomeWith (into_written o parts step) (λ next. WriteFaultAt shape o place next.0 next.1 kind))

-- a content of the type breaks the rule of the kind at the place, where it is written under the options
abbrev pub WriteFault : Shape → ℕ → Content → SerializeOptions → List Step → JsonKind → Type 0
WriteFault shape t c o place kind = WriteFaultAt shape (writing shape o) place (content.message c) (root t) kind
