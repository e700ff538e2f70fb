-- Records in which nothing stands beside what they hold as messages.
use Rattle.std.specs.Prelude.{ℕ, List, [], ◌∷◌, map, Bool, true, not, ◌&&◌, ◌||◌, Option, Some, None, is_some, if◌then◌else◌}
use Rattle.pbx_wire.specs.Text.{all_true}
use Rattle.pbx_wire.specs.declared.rec.Rec.{Rec}
use Rattle.pbx_content.specs.declared.shape.FieldShape.{FieldShape}
use Rattle.pbx_content.specs.Content.{Val, many, keyed}
use Rattle.pbx_content.specs.Meaning.{is_default}
use Rattle.pbx_desc.specs.Exact.{are_writable, is_exact_if}
use Rattle.pbx_desc_shapes.specs.TypesShape.{types_shape, any_fields, time_fields, mask_fields, struct_fields, value_fields, list_fields}
use Rattle.pbx_types.specs.PlainContent.{any_values, duration_values, timestamp_values}
use Rattle.pbx_types.specs.declared.any.Any.{Any}
use Rattle.pbx_types.specs.declared.any.Empty.{Empty}
use Rattle.pbx_types.specs.declared.mask.FieldMask.{FieldMask}
use Rattle.pbx_types.specs.declared.time.Duration.{Duration}
use Rattle.pbx_types.specs.declared.time.Timestamp.{Timestamp}
use Rattle.pbx_types.specs.declared.tree.ListValue.{ListValue, fold-ListValue}
use Rattle.pbx_types.specs.declared.tree.Struct.{Struct, fold-Struct}
use Rattle.pbx_types.specs.declared.tree.Value.{Value, fold-Value}
use Rattle.pbx_types.specs.declared.tree.ListValue.TheOpen.{ListValue-F, Struct-F, Value-F}

-- no value, a list or a map of whatever length, or a value that is no default where the field has no presence
-- (Protocol Buffers "Application Note: Field Presence")
abbrev pub is_shown : FieldShape → Option Val → Bool
is_shown g None = true
is_shown g (Some (many vs)) = true
is_shown g (Some (keyed ps)) = true
is_shown g (Some v) = g.presence || not (is_default types_shape g.kind v)

-- the same of the value of each field
abbrev pub are_shown : List FieldShape → List (Option Val) → Bool
are_shown [] vs = true
are_shown (g ∷ gs) [] = true
are_shown (g ∷ gs) (v ∷ vs) = is_shown g v && are_shown gs vs

-- so the values are, and the unknown records may be written beside the fields
abbrev pub is_exact_with : List FieldShape → List (Option Val) → List Rec → Bool
is_exact_with gs vs unknown = are_shown gs vs && are_writable gs unknown

-- ---- records that hold no records

abbrev pub is_exact_any : Any → Bool
is_exact_any a = is_exact_with any_fields (any_values a) a.unknown

abbrev pub is_exact_duration : Duration → Bool
is_exact_duration d = is_exact_with time_fields (duration_values d) d.unknown

abbrev pub is_exact_timestamp : Timestamp → Bool
is_exact_timestamp t = is_exact_with time_fields (timestamp_values t) t.unknown

abbrev pub is_exact_empty : Empty → Bool
is_exact_empty e = are_writable [] e.unknown

abbrev pub is_exact_mask : FieldMask → Bool
is_exact_mask m = are_writable mask_fields m.unknown

-- ---- records that hold one another, one layer at a time, with what is told of the records in it in their places

-- none is true
abbrev pub are_false : List Bool → Bool
are_false [] = true
are_false (b ∷ bs) = not b && are_false bs

-- at most one is true
abbrev pub has_at_most_one : List Bool → Bool
has_at_most_one [] = true
has_at_most_one (b ∷ bs) = if b then are_false bs else has_at_most_one bs

-- at most one member of the oneof is there (Protocol Buffers "Language Guide (proto 3)": Oneof Features)
abbrev pub is_one_of : Value-F Bool Bool Bool → Bool
is_one_of v =
    has_at_most_one
    (is_some v.null_value
    ∷ is_some v.string_value
    ∷ is_some v.bool_value
    ∷ is_some v.struct_value
    ∷ is_some v.list_value
    ∷ [])

abbrev pub is_exact_value_step : Value-F Bool Bool Bool → Bool
is_exact_value_step v =
    is_one_of v && (is_exact_if (λ b. b) v.struct_value && (is_exact_if (λ b. b) v.list_value && are_writable value_fields v.unknown))

abbrev pub is_exact_struct_step : Struct-F Bool Bool Bool → Bool
is_exact_struct_step s = all_true (map (λ f. f.1) s.fields) && are_writable struct_fields s.unknown

abbrev pub is_exact_list_step : ListValue-F Bool Bool Bool → Bool
is_exact_list_step l = all_true l.values && are_writable list_fields l.unknown

-- ---- with all below

abbrev pub is_exact_struct : Struct → Bool
is_exact_struct = fold-Struct Bool Bool Bool is_exact_list_step is_exact_struct_step is_exact_value_step

abbrev pub is_exact_list : ListValue → Bool
is_exact_list = fold-ListValue Bool Bool Bool is_exact_list_step is_exact_struct_step is_exact_value_step

abbrev pub is_exact_value : Value → Bool
is_exact_value = fold-Value Bool Bool Bool is_exact_list_step is_exact_struct_step is_exact_value_step
