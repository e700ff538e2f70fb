-- What a field has that has no value (Protocol Buffers "Language Guide (proto 2)": Optional Fields And Default Values).
use Rattle.std.specs.Prelude.{ℕ, ℤ, List, [], ◌∷◌, codes, true, Option, Some, None, if◌then◌else◌}
use Rattle.std.specs.Str.{bytes_eq}
use Rattle.pbx_parse_token.specs.Escapes.{unescaped}
use Rattle.pbx_content.specs.declared.shape.Kind.{Kind}
use Rattle.pbx_content.specs.declared.shape.Kind.TheVariants as kind
use Rattle.pbx_content.specs.declared.shape.Cardinality.{Cardinality}
use Rattle.pbx_content.specs.declared.shape.Cardinality.TheVariants.{Singular, Repeated, Map}
use Rattle.pbx_content.specs.declared.shape.EnumValueShape.{EnumValueShape}
use Rattle.pbx_content.specs.declared.shape.FieldShape.{FieldShape}
use Rattle.pbx_content.specs.declared.shape.Shape.{Shape}
use Rattle.pbx_content.specs.Content.{Val, number, truth, text, octets, many, keyed, no_vals, no_pairs}
use Rattle.pbx_content.specs.Meaning.{zero_of, or_else}
use Rattle.pbx_content.specs.Shape.{enum_values_of, first_number}
use Rattle.pbx_link_definitions.specs.Says.{signed_or_zero}
use Rattle.pbx_link_rules_scope.specs.Defaults.{decimal_value}

-- the number of the first value of the name, or this one where no value has it
abbrev pub number_named : List ℕ → ℤ → List EnumValueShape → ℤ
number_named name z [] = z
number_named name z (v ∷ vs) = if bytes_eq v.name name then v.number else number_named name z vs

-- the number that an enum field has without a value: that of the value which its default names, or else the enum's default
abbrev pub enum_default : Shape → ℕ → Option (List ℕ) → ℤ
enum_default shape e None = first_number shape e
enum_default shape e (Some t) = number_named t (first_number shape e) (enum_values_of shape e)

-- The value that the text of a default says for a kind. What no linked record has counts as the kind's zero.
abbrev pub declared_val : Shape → Kind → List ℕ → Val
declared_val shape kind.Bool t = truth (bytes_eq t (codes "true"))
declared_val shape kind.String t = text t
declared_val shape kind.Bytes t = octets (unescaped t)
declared_val shape (kind.Enum e) t = number (number_named t (first_number shape e) (enum_values_of shape e))
declared_val shape (kind.Message m) t = zero_of shape (kind.Message m)
declared_val shape k t = number (signed_or_zero (decimal_value true t))

-- the declared default of a singular field, or else the default of its kind
abbrev pub singular_default : Shape → Kind → Option (List ℕ) → Val
singular_default shape k None = zero_of shape k
singular_default shape k (Some t) = declared_val shape k t

-- the default of a field: of a list or a map the empty one
abbrev pub default_by : Shape → FieldShape → Cardinality → Val
default_by shape f Singular = singular_default shape f.kind f.default
default_by shape f Repeated = many no_vals
default_by shape f (Map k) = keyed no_pairs

-- the default of a field by its own cardinality
abbrev pub default_of : Shape → FieldShape → Val
default_of shape f = default_by shape f f.cardinality

-- the field's value, or its default where it has none
abbrev pub value_or_default : Shape → FieldShape → Option Val → Val
value_or_default shape f v = or_else v (default_of shape f)
