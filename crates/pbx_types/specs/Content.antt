-- What the records that hold one another hold as messages: one layer, with the contents of the records in it in their places.
use Rattle.std.specs.Prelude.{ℕ, List, [], ◌∷◌, map, Bool, true, ◌&&◌, Option, Some, None, option_map, is_none, if◌then◌else◌}
use Rattle.pbx_content.specs.Content.{Content, Key, text_key, Val, number, truth, text, message, many, keyed, vals_of, pairs_of}
use Rattle.pbx_desc_shapes.specs.TypesShape.{struct_fields, value_fields, list_fields}
use Rattle.pbx_types.specs.FieldContent.{record_content}
use Rattle.pbx_types.specs.declared.tree.ListValue.{ListValue, fold-ListValue}
use Rattle.pbx_types.specs.declared.tree.Struct.{Struct, fold-Struct}
use Rattle.pbx_types.specs.declared.tree.Value.{Value, fold-Value}
use Rattle.pbx_types.specs.declared.tree.ListValue.TheOpen.{ListValue-F, Struct-F, Value-F}

-- a value of a Struct under its name
abbrev pub named : List ℕ × Content → Key × Val
named f = (text_key f.0, message f.1)

-- the values of a Struct
abbrev pub struct_values : Struct-F Content Content Content → List (Option Val)
struct_values s = Some (keyed (pairs_of (map named s.fields))) ∷ []

-- the content of a Struct
abbrev pub struct_step : Struct-F Content Content Content → Content
struct_step s = record_content struct_fields (struct_values s) s.unknown

-- the values of a ListValue
abbrev pub list_values : ListValue-F Content Content Content → List (Option Val)
list_values l = Some (many (vals_of (map message l.values))) ∷ []

-- the content of a ListValue
abbrev pub list_step : ListValue-F Content Content Content → Content
list_step l = record_content list_fields (list_values l) l.unknown

-- no value is there
abbrev pub are_absent : List (Option Val) → Bool
are_absent [] = true
are_absent (v ∷ vs) = are_absent vs && is_none v

-- of several members of a oneof that have values, the one with the greatest number counts
abbrev pub last_member : List (Option Val) → List (Option Val)
last_member [] = []
last_member (v ∷ vs) = (if are_absent vs then v else None) ∷ last_member vs

-- the members of a Value
abbrev pub value_members : Value-F Content Content Content → List (Option Val)
value_members v =
    option_map number v.null_value
    ∷ option_map text v.string_value
    ∷ option_map truth v.bool_value
    ∷ option_map message v.struct_value
    ∷ option_map message v.list_value
    ∷ []

-- the content of a Value
abbrev pub value_step : Value-F Content Content Content → Content
value_step v = record_content value_fields (last_member (value_members v)) v.unknown

-- the content of a Struct with all below it
abbrev pub struct_content : Struct → Content
struct_content = fold-Struct Content Content Content list_step struct_step value_step

-- the content of a ListValue with all below it
abbrev pub list_content : ListValue → Content
list_content = fold-ListValue Content Content Content list_step struct_step value_step

-- the content of a Value with all below it
abbrev pub value_content : Value → Content
value_content = fold-Value Content Content Content list_step struct_step value_step
