-- How many levels a content has whose fields are set or cleared, and a value.
use Rattle.std.proofs.Common.{◌≡◌, ℕ, ◌≤◌, max, Bool, true, false, if◌then◌else◌, nat_lt, List, [], ◌∷◌, map, Option, Some, None, ap, subst, sym, arith}
use Rattle.std.specs.Prelude.{◌==◌}
use Rattle.pbx_content.specs.declared.shape.Shape.{Shape}
use Rattle.pbx_content.specs.declared.shape.FieldShape.{FieldShape}
use Rattle.pbx_content.specs.Content.{Content, content, Fields, no_fields, field, fields, Val, added, without, with_fields, with_option}
use Rattle.pbx_content.specs.Meaning.{shown, is_default}
use Rattle.pbx_content.specs.Shape.{is_other}
use Rattle.pbx_content.specs.Sound.{depth, fields_depth, val_depth}
use Rattle.pbx_message_laws.specs.Fields.{cleared_others, keeps_default, value_kept, set_value}
use Rattle.pbx_message_dynamic.specs.declared.value.Value.{Value}
use Rattle.pbx_message_dynamic.specs.Fields.{Meant, IsFieldSet}
use Rattle.pbx_message_dynamic.specs.Message.{Dynamic, shape_in, type_fields}
use Rattle.pbx_message_dynamic.specs.Values.{val_of_value}

without_levels : (n : ℕ) (fs : Fields) → fields_depth (without n fs) ≤ fields_depth fs
without_levels n no_fields = omega arith
without_levels n (field m v fs) = at (n == m) (without_levels n fs)
  where
    at : (b : Bool) → fields_depth (without n fs) ≤ fields_depth fs
        → fields_depth (if b then fs else field m v (without n fs)) ≤ max (val_depth v) (fields_depth fs)
    at true ih = omega arith
    at false ih = omega (arith, ih)

added_levels : (n : ℕ) (v : Val) (fs : Fields) → fields_depth (added n v fs) ≤ max (val_depth v) (fields_depth fs)
added_levels n v no_fields = omega arith
added_levels n v (field m w fs) = at (nat_lt n m) (added_levels n v fs)
  where
    at : (b : Bool) → fields_depth (added n v fs) ≤ max (val_depth v) (fields_depth fs)
        → fields_depth (if b then field n v (field m w fs) else field m w (added n v fs)) ≤ max (val_depth v) (max (val_depth w) (fields_depth fs))
    at true ih = omega arith
    at false ih = omega (arith, ih)

others_levels : (f : FieldShape) (gs : List FieldShape) (fs : Fields) → fields_depth (cleared_others f gs fs) ≤ fields_depth fs
others_levels f [] fs = omega arith
others_levels f (g ∷ gs) fs = at (is_other f g) (others_levels f gs)
  where
    at : (b : Bool) → ((hs : Fields) → fields_depth (cleared_others f gs hs) ≤ fields_depth hs)
        → fields_depth (cleared_others f gs (if b then without g.number fs else fs)) ≤ fields_depth fs
    at true ih = omega (arith, ih (without g.number fs), without_levels g.number fs)
    at false ih = ih fs

kept_levels : (shape : Shape) (f : FieldShape) (v : Val) (fs : Fields)
    → fields_depth (with_option f.number (value_kept shape f v) fs) ≤ max (fields_depth fs) (val_depth v)
kept_levels shape f v fs = at (keeps_default f.presence f.cardinality) (is_default shape f.kind v)
  where
    at : (a b : Bool)
        → fields_depth (with_option f.number (if a then Some v else (if b then None else Some v)) fs) ≤ max (fields_depth fs) (val_depth v)
    at true b = omega (arith, added_levels f.number v (without f.number fs), without_levels f.number fs)
    at false true = omega (arith, without_levels f.number fs)
    at false false = omega (arith, added_levels f.number v (without f.number fs), without_levels f.number fs)

-- A field that is set leaves no more levels than the content and the value have.
pub set_levels : (shape : Shape) (gs : List FieldShape) (f : FieldShape) (v : Val) (c : Content)
    → depth (set_value shape gs f v c) ≤ max (depth c) (val_depth v)
set_levels shape gs f v (content fs ks) = omega (arith, kept_levels shape f v (cleared_others f gs fs), others_levels f gs fs)

-- A field that is cleared leaves no more than the content has.
pub cleared_levels : (n : ℕ) (c : Content) → depth (with_fields c (without n (fields c))) ≤ depth c
cleared_levels n (content fs ks) = omega (arith, without_levels n fs)

-- A message whose field is set to a value has no more levels than both.
pub field_levels : (m : Dynamic) (Own : Meant) (v : Value) (new : Dynamic) → IsFieldSet m Own v new
    → depth new.content ≤ max (depth m.content) (val_depth (val_of_value v))
field_levels m Own v new (f, own, of, is) =
    let same = ap (λ (x : Dynamic). depth x.content) is in
    omega (arith, same, set_levels (shape_in m) (type_fields m.of) f (val_of_value v) m.content)
