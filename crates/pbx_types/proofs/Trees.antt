-- The contents of records, one level down.
use Rattle.std.proofs.Common.{◌≡◌, ℕ, ℤ, Bool, true, List, [], ◌∷◌, map, Option, Some, None, option_map, refl, sym, ap, ◌∙◌, subst}
use Rattle.std.specs.List.{filter}
use Rattle.pbx_wire.specs.Text.{are_fit}
use Rattle.pbx_wire.specs.declared.rec.Rec.{Rec}
use Rattle.pbx_content.specs.Content.{Content, content, fields, no_fields, with_fields, Key, Val, message}
use Rattle.pbx_content_codec.specs.declared.contents.Contents.{Contents}
use Rattle.pbx_content_codec.specs.View.{content_of}
use Rattle.pbx_desc_shapes.specs.TypesShape.{value_fields}
use Rattle.pbx_types.specs.Building.{Holds}
use Rattle.pbx_types.specs.FieldContent.{fields_from}
use Rattle.pbx_wire.specs.Number.{is_writable_beside}
use Rattle.pbx_types.proofs.Built.{made}
use Rattle.pbx_types.proofs.Types.{value_type}
use Rattle.pbx_types.specs.declared.tree.ListValue.{ListValue, out-ListValue, fold_out-ListValue}
use Rattle.pbx_types.specs.declared.tree.ListValue.TheOpen.{ListValue-F, Struct-F, Value-F}
use Rattle.pbx_types.specs.declared.tree.Struct.{Struct, out-Struct, fold_out-Struct}
use Rattle.pbx_types.specs.declared.tree.Value.{Value, out-Value, fold_out-Value, map-Value}
use Rattle.pbx_types.specs.Layers.{content_under, opened_list, opened_struct, opened_value, value_values, value_message, value_pair, PutsMember}
use Rattle.pbx_types.specs.Content.{named, list_step, struct_step, value_step, struct_content, list_content, value_content}

pub list_content_at : (l : ListValue) → list_content l ≡ list_step (opened_list l)
list_content_at l = fold_out-ListValue Content Content Content list_step struct_step value_step l

pub struct_content_at : (s : Struct) → struct_content s ≡ struct_step (opened_struct s)
struct_content_at s = fold_out-Struct Content Content Content list_step struct_step value_step s

abbrev pub mapped : Value-F ListValue Struct Value → Value-F Content Content Content
mapped = map-Value ListValue Struct Value Content Content Content list_content struct_content value_content

pub mapped_is : (z : Option ℤ) (t : Option (List ℕ)) (b : Option Bool) (s : Option Struct) (l : Option ListValue) (rs : List Rec)
    → mapped (record { null_value = z; string_value = t; bool_value = b; struct_value = s; list_value = l; unknown = rs })
    ≡ record { null_value = z; string_value = t; bool_value = b; struct_value = option_map struct_content s; list_value = option_map list_content l; unknown = rs }
mapped_is z t b None None rs = refl
mapped_is z t b None (Some l) rs = refl
mapped_is z t b (Some s) None rs = refl
mapped_is z t b (Some s) (Some l) rs = refl

pub value_content_at : (v : Value) → value_content v ≡ value_step (opened_value v)
value_content_at v =
    let o = out-Value v in
    fold_out-Value Content Content Content list_step struct_step value_step v
    ∙ ap value_step (mapped_is o.null_value o.string_value o.bool_value o.struct_value o.list_value o.unknown)

-- ---- values of fields

pub pairs_map : (fs : List (List ℕ × Value)) → map named (map content_under fs) ≡ map value_pair fs
pairs_map [] = refl
pairs_map (f ∷ fs) = ap (λ (ps : List (Key × Val)). value_pair f ∷ ps) (pairs_map fs)

pub values_map : (vs : List Value) → map message (map value_content vs) ≡ map value_message vs
values_map [] = refl
values_map (v ∷ vs) = ap (λ (ws : List Val). value_message v ∷ ws) (values_map vs)

pub pair_same : (p : Key × Val) (k : Key) (v : Val) → p.0 ≡ k → p.1 ≡ v → ◌≡◌ {A = Key × Val} p (k, v)
pair_same p k v e f = ap (λ (x : Key). (x, p.1)) e ∙ ap (λ (w : Val). (k, w)) f

-- the content of a Value into which its member was put
pub value_made : (v : Value) (start contents : Contents) → content_of start ≡ content no_fields (filter (is_writable_beside (1 ∷ 3 ∷ 4 ∷ 5 ∷ 6 ∷ [])) (out-Value v).unknown)
    → are_fit (filter (is_writable_beside (1 ∷ 3 ∷ 4 ∷ 5 ∷ 6 ∷ [])) (out-Value v).unknown) ≡ true → PutsMember (value_values v) (content_of start) (content_of contents) → Holds 6 (value_content v) contents
value_made v start contents is fit puts =
    subst (λ (x : Content). Holds 6 x contents) (sym (value_content_at v))
    (made 6 value_fields (value_values v) (out-Value v).unknown contents value_type (refl, (refl, (refl, (refl, (refl, tt))))) puts.values puts.one
    (puts.put (ap fields is) ∙ ap (λ (c : Content). with_fields c (fields_from value_fields (value_values v))) is) fit)
