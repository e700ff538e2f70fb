-- Kinds as the writer tells them apart.
use Rattle.std.specs.Prelude.{ℕ, List, Bool, true, false, ◌&&◌, ◌==◌, Option, Some, None}
use Rattle.std.specs.List.{list_any}
use Rattle.serde_json.specs.Data.{Data}
use Rattle.pbx_content.specs.Content.{Val, message, many, keyed}
use Rattle.pbx_content.specs.Shape.{is_float}
use Rattle.pbx_content.specs.declared.shape.FieldShape.{FieldShape}
use Rattle.pbx_content.specs.declared.shape.Kind.{Kind}
use Rattle.pbx_content.specs.declared.shape.Kind.TheVariants as kind
use Rattle.pbx_content.specs.declared.shape.Shape.{Shape}
use Rattle.pbx_wkt_types.specs.declared.form.Form.{Form}
use Rattle.pbx_wkt_types.specs.declared.form.Form.TheVariants as forms
use Rattle.pbx_json_meaning.specs.Asked.{one}
use Rattle.pbx_json_meaning.specs.Canonical.{tells}
use Rattle.pbx_json_meaning.specs.Canonical.{Writing}

-- the kinds of integers
abbrev pub is_integer : Kind → Bool
is_integer kind.Double = false
is_integer kind.Float = false
is_integer kind.Bool = false
is_integer kind.String = false
is_integer kind.Bytes = false
is_integer (kind.Message t) = false
is_integer (kind.Enum e) = false
is_integer _ = true

-- the number is one of a float field
abbrev pub is_float_number : List FieldShape → ℕ → Bool
is_float_number gs n = list_any (λ f. is_float f.kind && (n == f.number)) gs

-- a value of one part: no message, no list and no map
abbrev pub is_scalar : Val → Bool
is_scalar (message c) = false
is_scalar (many vs) = false
is_scalar (keyed ps) = false
is_scalar _ = true

-- the tree of a value as one of the kind, or another where there is no value
abbrev pub told_value : Shape → Writing → Kind → Option Data → Option Val → Option Data
told_value shape o k otherwise None = otherwise
told_value shape o k otherwise (Some v) = tells shape o v (one k)

-- messages of the form are written as the value of one of their fields, or by their payload
abbrev pub is_passed_form : Form → Bool
is_passed_form forms.Struct = true
is_passed_form forms.ListValue = true
is_passed_form forms.Value = true
is_passed_form forms.Any = true
is_passed_form _ = false
