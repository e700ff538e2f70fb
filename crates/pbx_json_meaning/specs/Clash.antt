-- Which keys of a message's JSON have two meanings (Protocol Buffers "Language Guide (proto 3)": JSON Options; ProtoJSON Format).
use Rattle.std.specs.Prelude.{ℕ, suc, ◌==◌, nat_le, List, [], ◌∷◌, map, filter, length, Bool, true, false, not, ◌&&◌, ◌||◌, if◌then◌else◌, Option, Some, None}
use Rattle.std.specs.Prelude.{option_map}
use Rattle.std.specs.List.{list_any}
use Rattle.std.specs.Option.{option_or}
use Rattle.std.specs.Ordering.{nat_cmp, is_lt}
use Rattle.std.specs.Cmp.Lexicographic.{slice_cmp}
use Rattle.pbx_content.specs.declared.shape.Shape.{Shape}
use Rattle.pbx_content.specs.declared.shape.MessageShape.{MessageShape}
use Rattle.pbx_content.specs.declared.shape.FieldShape.{FieldShape}
use Rattle.pbx_wkt_types.specs.Shapes.{form_of, is_misshapen}
use Rattle.pbx_json_meaning.specs.Names.{json_name_is, name_is, extension_is}
use Rattle.pbx_json_meaning.specs.Urls.{is_type_key}
use Rattle.pbx_json_meaning.specs.declared.names_fault.NameFault.{NameFault}
use Rattle.pbx_json_meaning.specs.declared.names_fault.NameFault.TheVariants.{JsonNames, WellKnownShape}
use Rattle.pbx_json_meaning.specs.declared.options.SerializeOptions.{SerializeOptions}

-- which names the fields of a message may be written under: their JSON names alone, or also their names in the source
pub data Naming : Type 0 where
  ByJsonName : Naming
  ByAnyName : Naming

abbrev pub is_by_any_name : Naming → Bool
is_by_any_name ByJsonName = false
is_by_any_name ByAnyName = true

-- the names that fields are written under
abbrev pub naming_of : SerializeOptions → Naming
naming_of o = if o.use_proto_field_name then ByAnyName else ByJsonName

-- two fields share the JSON name
abbrev pub is_shared : List FieldShape → List ℕ → Bool
is_shared fs key = nat_le 2 (length (filter (json_name_is key) fs))

-- it is an extension's too
abbrev pub is_of_extension : List FieldShape → List ℕ → Bool
is_of_extension fs key = list_any (extension_is key) fs

-- it is the name of another field
abbrev pub is_name_of_another : List FieldShape → FieldShape → Bool
is_name_of_another fs f = list_any (λ g. name_is f.json_name g && not (g.number == f.number)) fs

-- The field's JSON name has another meaning in its message; where fields may be written under any name, also as the name of another field.
abbrev pub clashes : Naming → List FieldShape → FieldShape → Bool
clashes naming fs f =
    not f.is_extension
    && (is_shared fs f.json_name || is_type_key f.json_name || is_of_extension fs f.json_name || (is_by_any_name naming && is_name_of_another fs f))

-- the lesser of keys by bytes
abbrev pub lesser_key : List ℕ → Option (List ℕ) → List ℕ
lesser_key k None = k
lesser_key k (Some l) = if is_lt (slice_cmp nat_cmp l k) then l else k

-- the least of keys by bytes
abbrev pub least_key : List (List ℕ) → Option (List ℕ)
least_key [] = None
least_key (k ∷ ks) = Some (lesser_key k (least_key ks))

-- the least key at fault in a message
abbrev pub clashing_key : Naming → List FieldShape → Option (List ℕ)
clashing_key naming fs = least_key (map (λ f. f.json_name) (filter (clashes naming fs) fs))

-- the first message with a key at fault, and its least key
abbrev pub first_clash : Naming → List MessageShape → Option NameFault
first_clash naming [] = None
first_clash naming (m ∷ ms) = option_or (option_map (λ key. JsonNames m.full_name key) (clashing_key naming m.fields)) (first_clash naming ms)

-- the first message, from a place on, that has a well-known name and not its shape
abbrev pub first_misshapen : Shape → ℕ → List MessageShape → Option NameFault
first_misshapen shape t [] = None
first_misshapen shape t (m ∷ ms) = if is_misshapen (form_of shape t) then Some (WellKnownShape m.full_name) else first_misshapen shape (suc t) ms

-- the first message with a key at fault, else the first that has not the shape of its well-known name, in the order of the shape
abbrev pub name_fault : Naming → Shape → Option NameFault
name_fault naming shape = option_or (first_clash naming shape.messages) (first_misshapen shape 0 shape.messages)
