-- The records that hold one another, one layer at a time.
use Rattle.std.specs.Prelude.{◌≡◌, ℕ, List, Bool, true, map, Option, option_map}
use Rattle.std.specs.Str.{is_utf8}
use Rattle.pbx_content.specs.Content.{Content, fields, no_fields, with_fields, Key, Val, text_key, message}
use Rattle.pbx_content.specs.Sound.{has_one_member}
use Rattle.pbx_content_codec.specs.declared.contents.Held.{Held}
use Rattle.pbx_content_codec.specs.View.{val_of}
use Rattle.pbx_desc_shapes.specs.TypesShape.{value_fields}
use Rattle.pbx_types.specs.FieldContent.{fields_from}
use Rattle.pbx_types.specs.Sound.{AreValues}
use Rattle.pbx_types.specs.declared.tree.ListValue.{ListValue, out-ListValue}
use Rattle.pbx_types.specs.declared.tree.ListValue.TheOpen.{ListValue-F, Struct-F, Value-F}
use Rattle.pbx_types.specs.declared.tree.Struct.{Struct, out-Struct}
use Rattle.pbx_types.specs.declared.tree.Value.{Value, out-Value}
use Rattle.pbx_types.specs.Exact.{is_exact_value}
use Rattle.pbx_types.specs.Content.{struct_content, list_content, value_content, value_members, last_member}

-- a value under its name
abbrev pub content_under : List ℕ × Value → List ℕ × Content
content_under f = (f.0, value_content f.1)

-- whether the value under a name is exact
abbrev pub exact_under : List ℕ × Value → Bool
exact_under f = is_exact_value f.1

-- a ListValue with the contents of its values in their places
abbrev pub opened_list : ListValue → ListValue-F Content Content Content
opened_list l = let o = out-ListValue l in record { values = map value_content o.values; unknown = o.unknown }

-- a Struct with those of its values
abbrev pub opened_struct : Struct → Struct-F Content Content Content
opened_struct s = let o = out-Struct s in record { fields = map content_under o.fields; unknown = o.unknown }

-- a Value with those of the records in it
abbrev pub opened_value : Value → Value-F Content Content Content
opened_value v = let o = out-Value v in record {
  null_value = o.null_value;
  string_value = o.string_value;
  bool_value = o.bool_value;
  struct_value = option_map struct_content o.struct_value;
  list_value = option_map list_content o.list_value;
  unknown = o.unknown;
}

-- the values of the fields of a Value
abbrev pub value_values : Value → List (Option Val)
value_values v = last_member (value_members (opened_value v))

-- a Value as the value of a field
abbrev pub value_message : Value → Val
value_message v = message (value_content v)

-- a Value as the value of a map
abbrev pub value_pair : List ℕ × Value → Key × Val
value_pair f = (text_key f.0, message (value_content f.1))

-- what a tree holds under a name, as the value of a map
abbrev pub held_pair : List ℕ × Held → Key × Val
held_pair f = (text_key f.0, val_of f.1)

-- the pair is that of the name, which is a text, and the value
pub record IsNamed (name : List ℕ) (v : Val) (p : Key × Val) : Type 0 where
  pub key : p.0 ≡ text_key name
  pub held : p.1 ≡ v
  pub utf8 : is_utf8 name ≡ true

-- the members are put in where no field is there, and a Value may have them
pub record PutsMember (vs : List (Option Val)) (old new : Content) : Type 0 where
  pub put : fields old ≡ no_fields → new ≡ with_fields old (fields_from value_fields vs)
  pub values : AreValues value_fields vs
  pub one : has_one_member value_fields (fields_from value_fields vs) ≡ true
